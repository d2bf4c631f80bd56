use Rattle.oai_serving.proofs.TurnLemmas.{turn_none}
use Rattle.oai_serving.proofs.links.Link.read.Goals as goal

pub returns-then-waits : goal.returns-then-waits
returns-then-waits g c = turn_none g.H.Handler.step g.S.Stream.contents g.S.Stream.remaining c.args.moment c.args.self.now c.args.handler.now
