-- The link of the key is written.
use Rattle.std.proofs.Common.{sym}
use Rattle.oai_serving.proofs.TableLemmas.{sent_at, sent_same}
use Rattle.oai_serving.proofs.tables.put_at.Goals as goal

pub returns-in-Some : goal.returns-in-Some
returns-in-Some g c =
    sent_at g.S.Stream.contents g.S.Stream.remaining c.args.links.now c.args.key c.in-Some.link.now c.put.new.self (sym c.in-Some.ensures.value) c.put.ensures

pub returns-in-None : goal.returns-in-None
returns-in-None g c = sent_same g.S.Stream.contents g.S.Stream.remaining c.args.links.now
