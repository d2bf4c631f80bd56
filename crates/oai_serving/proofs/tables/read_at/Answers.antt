-- The link of the key has a turn.
use Rattle.oai_serving.specs.Links.{IsLinkStep}
use Rattle.std.proofs.Common.{◌≡◌, of_z, rules, sym, to_z, to_z-of_z, w64}
use Rattle.oai_serving.proofs.TableLemmas.{turned_at, turned_none}
use Rattle.oai_serving.proofs.tables.read_at.Goals as goal

pub returns-in-Some : goal.returns-in-Some
returns-in-Some g c =
    let is : to_z w64 (of_z w64 c.args.time.moment) ≡ c.args.time.moment = search (rules, to_z-of_z) in
    let turn : IsLinkStep g.H.Handler.step g.S.Stream.contents g.S.Stream.remaining c.args.time.moment c.in-Some.link.now c.args.handler.now c.read.new.self c.read.new.handler = rw is at c.read.ensures in
    turned_at g.H.Handler.step g.S.Stream.contents g.S.Stream.remaining c.args.time.moment c.args.links.now c.args.key c.in-Some.link.now c.read.new.self c.args.handler.now c.read.new.handler (sym c.in-Some.ensures.value) turn

pub returns-in-None : goal.returns-in-None
returns-in-None g c = turned_none g.H.Handler.step g.S.Stream.contents g.S.Stream.remaining c.args.time.moment c.args.links.now c.args.handler.now
