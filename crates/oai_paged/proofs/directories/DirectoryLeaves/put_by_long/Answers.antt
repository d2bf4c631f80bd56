use Rattle.std.proofs.Common.{◌≡◌, ◌∙◌, ◌<◌, List, arith, get_or, length, sym}
use Rattle.std.proofs.lemmas.List.{get_or_read}
use Rattle.oai_item.specs.Item.{ItemState}
use Rattle.oai_places.specs.Places.{PlaceState, first_cmp}
use Rattle.oai_places.proofs.DirectoryLemmas.{no_place, placed-cut}
use Rattle.oai_paged.proofs.LoneLemmas.{puts_before, puts_behind, puts_instead}
use Rattle.oai_places.proofs.LoneItems.{lone}
use Rattle.oai_paged.proofs.directories.DirectoryLeaves.put_by_long.Goals as goal

pub put_alone-requires-clause-puts : goal.put_alone-requires-clause-puts
put_alone-requires-clause-puts g c =
    let G = g.P.PagePool in
    let pages = G.pages c.args.pages.now in
    let item : ItemState = c.args.item.now in
    let places : List PlaceState = c.args.self.now.places.items in
    let at = c.args.at in
    let within : at < length places = omega (arith, c.requires.place.within, c.args.self.now.places.ok.0) in
    let place : PlaceState = get_or places at no_place in
    let here : c.index.result.now ≡ place = get_or_read places at c.index.result.now within c.index.ensures no_place in
    let one = lone pages place (placed-cut pages places at no_place within c.requires.stands.directory.placed).0 (c.requires.place.passes no_place) in
    let seen : c.order_to.result ≡ first_cmp place item.stamp item.identifier =
    c.order_to.ensures ∙ (λ i. first_cmp (here i) (c.key.ensures.stamp i) (c.key.ensures.identifier i)) in
    puts_behind pages places item at c.requires.stands.directory within c.requires.place.belongs one (sym seen ∙ c.in-Less.is)

pub put_alone-requires-in-Equal-clause-puts : goal.put_alone-requires-in-Equal-clause-puts
put_alone-requires-in-Equal-clause-puts g c =
    let G = g.P.PagePool in
    let pages = G.pages c.args.pages.now in
    let item : ItemState = c.args.item.now in
    let places : List PlaceState = c.args.self.now.places.items in
    let at = c.args.at in
    let within : at < length places = omega (arith, c.requires.place.within, c.args.self.now.places.ok.0) in
    let place : PlaceState = get_or places at no_place in
    let here : c.index.result.now ≡ place = get_or_read places at c.index.result.now within c.index.ensures no_place in
    let one = lone pages place (placed-cut pages places at no_place within c.requires.stands.directory.placed).0 (c.requires.place.passes no_place) in
    let seen : c.order_to.result ≡ first_cmp place item.stamp item.identifier =
    c.order_to.ensures ∙ (λ i. first_cmp (here i) (c.key.ensures.stamp i) (c.key.ensures.identifier i)) in
    puts_instead pages places item at c.requires.stands.directory within c.requires.place.belongs one (sym seen ∙ c.in-Equal.is)

pub put_alone-requires-in-Greater-clause-puts : goal.put_alone-requires-in-Greater-clause-puts
put_alone-requires-in-Greater-clause-puts g c =
    let G = g.P.PagePool in
    let pages = G.pages c.args.pages.now in
    let item : ItemState = c.args.item.now in
    let places : List PlaceState = c.args.self.now.places.items in
    let at = c.args.at in
    let within : at < length places = omega (arith, c.requires.place.within, c.args.self.now.places.ok.0) in
    let place : PlaceState = get_or places at no_place in
    let here : c.index.result.now ≡ place = get_or_read places at c.index.result.now within c.index.ensures no_place in
    let one = lone pages place (placed-cut pages places at no_place within c.requires.stands.directory.placed).0 (c.requires.place.passes no_place) in
    let seen : c.order_to.result ≡ first_cmp place item.stamp item.identifier =
    c.order_to.ensures ∙ (λ i. first_cmp (here i) (c.key.ensures.stamp i) (c.key.ensures.identifier i)) in
    puts_before pages places item at c.requires.stands.directory within c.requires.place.belongs one (sym seen ∙ c.in-Greater.is)
