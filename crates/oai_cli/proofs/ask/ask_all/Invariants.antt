use Rattle.std.specs.Io.KnownBytes.{Appends}
use Rattle.oai_cli.specs.Inputs.{left, IsReadSoFar}
use Rattle.oai_cli.specs.Asked.{AreDoneAndCounted}
use Rattle.oai_cli.proofs.ask.ask_all.Given as goal

-- the lines that were read were done, and the others are left
abbrev pub invariant-loop : goal.invariant-loop
invariant-loop g l =
    IsReadSoFar (g.R.Read.remaining l.fn.reader) (left l.lines (g.R.Read.remaining l.reader))
    (AreDoneAndCounted l.fn.host l.host l.lines.number (Appends (g.W.Write.contents l.fn.writer) (g.W.Write.contents l.writer)))
