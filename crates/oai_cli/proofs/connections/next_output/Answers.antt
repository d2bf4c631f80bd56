-- What a front gives is the front of the output of the connection.
use Rattle.oai_cli.proofs.Apart.{none_front, output_front, output_has, output_none}
use Rattle.oai_cli.proofs.connections.next_output.Goals as goal

pub returns-in-Some-clause-front : goal.returns-in-Some-clause-front
returns-in-Some-clause-front g c = output_front c.args.conn.number c.args.front.now.connections _ c.in-Some.ensures

pub returns-in-Some-clause-has : goal.returns-in-Some-clause-has
returns-in-Some-clause-has g c = λ some. output_has c.args.conn.number c.args.front.now.connections _ c.in-Some.ensures

pub returns-in-None-clause-front : goal.returns-in-None-clause-front
returns-in-None-clause-front g c = none_front _ (output_none c.args.conn.number c.args.front.now.connections c.in-None.ensures)
