use Rattle.std.proofs.Common.{◌≡◌, ◌+◌, ◌-◌, ◌^◌, min, false}
use Rattle.std.specs.Io.KnownBytes.{prepend_known}
use Rattle.oai_cli.specs.Inputs.{IsGoing, left}
use Rattle.oai_cli.proofs.input.lines.Lines.next.Given as goal

-- the line that was begun goes on
abbrev pub invariant-loop : goal.invariant-loop
invariant-loop g l = record {
  going : IsGoing (left l.fn.self (g.R.Read.remaining l.fn.reader)) l.self.line (prepend_known l.self.ahead (g.R.Read.remaining l.reader));
  over : l.self.is_over ≡ false;
  number : l.self.number ≡ min (l.fn.self.number + 1) (2 ^ 64 - 1);
}
