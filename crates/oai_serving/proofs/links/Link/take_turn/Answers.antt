use Rattle.oai_serving.proofs.TurnLemmas.{turn_none}
use Rattle.oai_serving.proofs.links.Link.take_turn.Goals as goal

pub returns-else-self-2 : goal.returns-else-self-2
returns-else-self-2 g c = turn_none g.H.Handler.step g.S.Stream.contents g.S.Stream.remaining c.args.moment c.args.self.now c.args.handler.now
