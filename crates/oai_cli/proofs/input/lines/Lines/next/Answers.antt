-- A line begins, goes on, and ends.
use Rattle.std.proofs.Common.{◌-◌, drop, take, rules}
use Rattle.oai_cli.specs.Inputs.{Input}
use Rattle.oai_cli.proofs.InputLemmas.{going_starts}
use Rattle.oai_cli.proofs.input.lines.Lines.next.Goals as goal

pub loop-init : goal.loop-init
loop-init g c =
    let inside = c.self.inside in
    let input : Input = record {
      ahead = take (inside.filled - inside.given) (drop inside.given inside.buffer.items);
      is_over = inside.is_over;
      line = inside.line.items;
      number = inside.number;
    } in
    record {
      going = rw (← c.self.view_is) (going_starts input c.clear.new.self.items (g.R.Read.remaining c.args.reader.now) c.if-self.false c.clear.ensures.items);
      over = c.if-self.false;
      number = search rules;
    }
