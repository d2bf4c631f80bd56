-- The end of a connection is seen by it alone.
use Rattle.oai_cli.proofs.Apart.{ending_apart}
use Rattle.oai_cli.proofs.UsedLemmas.{used_ending}
use Rattle.oai_cli.proofs.trace.end.Goals as goal

pub returns-clause-ended : goal.returns-clause-ended
returns-clause-ended g c = (c.end.result, c.end.ensures)

pub returns-clause-apart : goal.returns-clause-apart
returns-clause-apart g c = ending_apart c.args.conn.number c.args.front.now c.end.result c.end.new.self c.end.ensures

pub returns-clause-used : goal.returns-clause-used
returns-clause-used g c = used_ending g.H.Handler.step c.args.conn.number c.args.front.now c.end.result c.end.new.self c.end.ensures
