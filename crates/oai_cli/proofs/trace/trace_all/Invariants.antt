use Rattle.std.specs.Io.KnownBytes.{Appends}
use Rattle.oai_cli.specs.Inputs.{left, IsReadSoFar}
use Rattle.oai_cli.specs.Outputs.{IsUsed}
use Rattle.oai_cli.specs.Traces.{AreLinesCounted, tracing}
use Rattle.oai_cli.proofs.trace.trace_all.Given as goal

-- the front was used by its calls; the lines that were read were followed, and the others are left
abbrev pub invariant-loop : goal.invariant-loop
invariant-loop g l =
    IsUsed g.H.Handler.step l.fn.front l.front
    × IsReadSoFar (g.R.Read.remaining l.fn.reader) (left l.lines (g.R.Read.remaining l.reader))
    (AreLinesCounted g.H.Handler.step l.fn.front (tracing l.front l.labels) l.lines.number (Appends (g.W.Write.contents l.fn.writer) (g.W.Write.contents l.writer)))
