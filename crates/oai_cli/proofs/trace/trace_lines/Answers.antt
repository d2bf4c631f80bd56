-- What was written is flushed.
use Rattle.std.specs.Io.KnownBytes.{Appends}
use Rattle.oai_cli.proofs.TraceLemmas.{traced_kept, traced_unwritten}
use Rattle.oai_cli.proofs.trace.trace_lines.Goals as goal

pub returns-then-is_err-clause-traced : goal.returns-then-is_err-clause-traced
returns-then-is_err-clause-traced g c =
    traced_unwritten g.H.Handler.step (g.R.Read.remaining c.args.reader.now) c.args.front.now c.trace_all-traced.new.front
    (Appends (g.W.Write.contents c.args.writer.now) (g.W.Write.contents c.trace_all-traced.new.writer))
    (Appends (g.W.Write.contents c.args.writer.now) (g.W.Write.contents c.flush.new.self)) c.trace_all-traced.result c.trace_all-traced.ensures.traced

pub returns-clause-traced : goal.returns-clause-traced
returns-clause-traced g c =
    traced_kept g.H.Handler.step (g.R.Read.remaining c.args.reader.now) c.args.front.now c.trace_all-traced.new.front (g.W.Write.contents c.args.writer.now)
    (g.W.Write.contents c.trace_all-traced.new.writer) (g.W.Write.contents c.flush.new.self) c.trace_all-traced.result c.flush.ensures.bytes c.trace_all-traced.ensures.traced
