-- What is noted changes nothing that a contract sees.
use Rattle.std.proofs.Common.{sym}
use Rattle.oai_serving.proofs.TableLemmas.{sent_at, sent_same}
use Rattle.oai_serving.proofs.TurnLemmas.{sent_none}
use Rattle.oai_serving.proofs.tables.note_at.Goals as goal

pub returns-in-Some : goal.returns-in-Some
returns-in-Some g c =
    sent_at g.S.Stream.contents g.S.Stream.remaining c.args.links.now c.args.key c.in-Some.link.now c.note.new.self (sym c.in-Some.ensures.value)
    (rw c.note.ensures (sent_none g.S.Stream.contents g.S.Stream.remaining c.in-Some.link.now))

pub returns-in-None : goal.returns-in-None
returns-in-None g c = sent_same g.S.Stream.contents g.S.Stream.remaining c.args.links.now
