-- What was written is flushed.
use Rattle.std.specs.Io.KnownBytes.{Appends}
use Rattle.oai_cli.proofs.AskedLemmas.{asked_kept, asked_unwritten}
use Rattle.oai_cli.proofs.ask.ask_lines.Goals as goal

pub returns-then-is_err-clause-asked : goal.returns-then-is_err-clause-asked
returns-then-is_err-clause-asked g c =
    asked_unwritten (g.R.Read.remaining c.args.reader.now) c.args.host.now c.ask_all-asked.new.host
    (Appends (g.W.Write.contents c.args.writer.now) (g.W.Write.contents c.ask_all-asked.new.writer))
    (Appends (g.W.Write.contents c.args.writer.now) (g.W.Write.contents c.flush.new.self)) c.ask_all-asked.result c.ask_all-asked.ensures.asked

pub returns-clause-asked : goal.returns-clause-asked
returns-clause-asked g c =
    asked_kept (g.R.Read.remaining c.args.reader.now) c.args.host.now c.ask_all-asked.new.host (g.W.Write.contents c.args.writer.now)
    (g.W.Write.contents c.ask_all-asked.new.writer) (g.W.Write.contents c.flush.new.self) c.ask_all-asked.result c.flush.ensures.bytes c.ask_all-asked.ensures.asked
