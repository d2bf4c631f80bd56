-- A connection that is forgotten is gone, and no other.
use Rattle.oai_cli.proofs.Apart.{forgetting_apart, forgetting_handler, forgetting_none}
use Rattle.oai_cli.proofs.UsedLemmas.{used_forgetting}
use Rattle.oai_cli.proofs.connections.forget_connection.Goals as goal

pub returns-clause-none : goal.returns-clause-none
returns-clause-none g c = forgetting_none c.args.conn.number c.args.front.now c.forget.result c.forget.new.self c.forget.ensures

pub returns-clause-apart : goal.returns-clause-apart
returns-clause-apart g c = forgetting_apart c.args.conn.number c.args.front.now c.forget.result c.forget.new.self c.forget.ensures

pub returns-clause-handler : goal.returns-clause-handler
returns-clause-handler g c = forgetting_handler c.args.conn.number c.args.front.now c.forget.result c.forget.new.self c.forget.ensures

pub returns-clause-used : goal.returns-clause-used
returns-clause-used g c = used_forgetting g.H.Handler.step c.args.conn.number c.args.front.now c.forget.result c.forget.new.self c.forget.ensures
