-- What is noted of a listener changes nothing that a contract sees.
use Rattle.oai_serving.proofs.RoundLemmas.{written_none}
use Rattle.oai_serving.proofs.servers.Server.note.Goals as goal

pub returns-in-Some-Listener : goal.returns-in-Some-Listener
returns-in-Some-Listener g c = rw (← c.self.view_is) (written_none g.S.Stream.contents g.S.Stream.remaining _)

pub returns-in-None : goal.returns-in-None
returns-in-None g c = written_none g.S.Stream.contents g.S.Stream.remaining c.args.self.now
