-- What came, and what was written of it.
use Rattle.oai_cli.specs.Traces.{tracing}
use Rattle.oai_cli.proofs.Apart.{apart_then}
use Rattle.oai_cli.proofs.Traced.{traced_so}
use Rattle.oai_cli.proofs.UsedLemmas.{used_then}
use Rattle.oai_cli.proofs.trace.trace_event.Goals as goal

pub returns-clause-traced : goal.returns-clause-traced
returns-clause-traced g c =
    traced_so g.H.Handler.step c.args.conn c.args.event.now c.deliver.new.front (tracing c.args.front.now c.args.labels.now) (tracing c.report.new.front c.report.new.labels)
    (g.W.Write.contents c.args.writer.now) (g.W.Write.contents c.report.new.writer) c.report.result c.in_ok-deliver.ensures.came c.report.ensures.written c.report.ensures.left
    c.report.ensures.apart c.report.ensures.handler c.report.ensures.named

pub returns-clause-apart : goal.returns-clause-apart
returns-clause-apart g c = apart_then c.args.conn.number c.args.front.now c.deliver.new.front c.report.new.front c.deliver.ensures.apart c.report.ensures.apart

pub returns-clause-used : goal.returns-clause-used
returns-clause-used g c = used_then g.H.Handler.step c.args.front.now c.deliver.new.front c.report.new.front c.deliver.ensures.used c.report.ensures.used
