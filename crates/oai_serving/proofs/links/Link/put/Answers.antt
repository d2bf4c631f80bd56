-- What is written, and then what changes in its life.
use Rattle.oai_serving.proofs.TurnLemmas.{sent_then}
use Rattle.oai_serving.proofs.links.Link.put.Goals as goal

pub returns : goal.returns
returns g c = sent_then g.S.Stream.contents g.S.Stream.remaining c.args.self.now c.write_all.new.self c.go_on.new.self (rw c.note_begun.ensures at c.write_all.ensures) c.go_on.ensures
