-- Each turn takes some of the output, puts it behind what was taken, and takes nothing of another connection.
use Rattle.std.proofs.Common.{◌∙◌, ◌++◌, ℕ, List, ap, refl}
use Rattle.oai_cli.specs.Outputs.{output_of}
use Rattle.oai_cli.proofs.Apart.{apart_same, apart_then, same_begun, taken_joined, taken_less, taken_same, taking_apart}
use Rattle.oai_cli.proofs.UsedLemmas.{used_none, used_taking, used_then}
use Rattle.oai_cli.proofs.trace.outputs.take_output.Goals as goal

pub loop-bytes-smaller : goal.loop-bytes-smaller
loop-bytes-smaller g c =
    let next = rw c.in-Some.is at c.in_ok-count.ensures.next in
    taken_less c.args.conn.number c.in-Some.count c.loop-bytes.front c.taken.new.self c.taken.ensures.change next.0 next.1

pub loop-bytes-init : goal.loop-bytes-init
loop-bytes-init g c = record {
  apart = apart_same c.args.conn.number c.args.front.now;
  handler = refl;
  used = used_none g.H.Handler.step c.args.front.now c.args.front.now refl;
  same = same_begun c.args.conn.number c.args.front.now;
  joined = ap (λ (xs : List ℕ). xs ++ output_of c.args.conn.number c.args.front.now.connections) c.new-bytes.ensures.items;
}

pub loop-bytes-preserved : goal.loop-bytes-preserved
loop-bytes-preserved g c =
    let next = rw c.in-Some.is at c.in_ok-count.ensures.next in
    record {
      apart = apart_then c.args.conn.number c.args.front.now c.loop-bytes.front c.taken.new.self c.loop-bytes.invariant.apart
          (taking_apart c.args.conn.number c.in-Some.count c.loop-bytes.front c.taken.new.self c.taken.ensures.change);
      handler = c.taken.ensures.handler ∙ c.loop-bytes.invariant.handler;
      used = used_then g.H.Handler.step c.args.front.now c.loop-bytes.front c.taken.new.self c.loop-bytes.invariant.used
          (used_taking g.H.Handler.step c.args.conn.number c.in-Some.count c.loop-bytes.front c.taken.new.self next.1 c.taken.ensures.change c.taken.ensures.handler);
      same = taken_same c.args.conn.number c.in-Some.count c.args.front.now c.loop-bytes.front c.taken.new.self c.taken.ensures.change c.loop-bytes.invariant.same;
      joined = taken_joined c.args.conn.number c.in-Some.count c.args.front.now c.loop-bytes.front c.taken.new.self c.loop-bytes.bytes.items c.add_next.new.bytes.items
          c.taken.ensures.change c.loop-bytes.invariant.joined next.2;
    }
