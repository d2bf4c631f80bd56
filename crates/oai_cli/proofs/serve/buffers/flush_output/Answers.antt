-- Each turn takes some of the output, puts it behind what was gathered, and takes nothing of another connection.
use Rattle.std.proofs.Common.{◌∙◌, ℕ, List, take, refl}
use Rattle.std.specs.Io.KnownBytes.{append_known}
use Rattle.oai_cli.specs.Outputs.{output_of}
use Rattle.oai_cli.proofs.Apart.{apart_same, apart_then, same_begun, taken_less, taken_same, taken_split, taking_apart}
use Rattle.oai_startup.proofs.KnownLemmas.{put_none, put_on}
use Rattle.oai_cli.proofs.UsedLemmas.{used_none, used_taking, used_then}
use Rattle.oai_cli.proofs.serve.buffers.flush_output.Goals as goal

pub loop-count-smaller : goal.loop-count-smaller
loop-count-smaller g c =
    let next = rw c.in-Some.is at c.in_ok-count.ensures in
    taken_less c.args.conn.number c.in-Some.count c.loop-count.front c.taken.new.self c.taken.ensures.change next.0 next.1

pub loop-count-init : goal.loop-count-init
loop-count-init g c = record {
  apart = apart_same c.args.conn.number c.args.front.now;
  handler = refl;
  used = used_none g.H.Handler.step c.args.front.now c.args.front.now refl;
  same = same_begun c.args.conn.number c.args.front.now;
  put = put_none (append_known (g.W.Write.contents c.args.writer.now) c.args.gathered.now.bytes.items) (output_of c.args.conn.number c.args.front.now.connections);
}

pub loop-count-preserved : goal.loop-count-preserved
loop-count-preserved g c =
    let number : ℕ = c.args.conn.number in
    let next = rw c.in-Some.is at c.in_ok-count.ensures in
    let out : List ℕ = output_of number c.loop-count.front.connections in
    record {
      apart = apart_then number c.args.front.now c.loop-count.front c.taken.new.self c.loop-count.invariant.apart
          (taking_apart number c.in-Some.count c.loop-count.front c.taken.new.self c.taken.ensures.change);
      handler = c.taken.ensures.handler ∙ c.loop-count.invariant.handler;
      used = used_then g.H.Handler.step c.args.front.now c.loop-count.front c.taken.new.self c.loop-count.invariant.used
          (used_taking g.H.Handler.step c.args.conn.number c.in-Some.count c.loop-count.front c.taken.new.self next.1 c.taken.ensures.change c.taken.ensures.handler);
      same = taken_same number c.in-Some.count c.args.front.now c.loop-count.front c.taken.new.self c.taken.ensures.change c.loop-count.invariant.same;
      put = put_on (append_known (g.W.Write.contents c.args.writer.now) c.args.gathered.now.bytes.items)
          (append_known (g.W.Write.contents c.loop-count.writer) c.loop-count.gathered.bytes.items)
          (append_known (g.W.Write.contents c.put_next.new.writer) c.put_next.new.gathered.bytes.items)
          (take c.in-Some.count out) (output_of number c.taken.new.self.connections) out (output_of number c.args.front.now.connections)
          c.loop-count.invariant.put next.2 (taken_split number c.in-Some.count c.loop-count.front c.taken.new.self c.taken.ensures.change);
    }
