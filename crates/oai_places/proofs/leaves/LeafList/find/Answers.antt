use Rattle.std.specs.Ordering.{is_eq}
use Rattle.std.proofs.Common.{◌≡◌, ◌∙◌, IsTrue, Option, arith, Ok, Err, Some, None, [], ap, false, get_or, length, pos, refl, sym}
use Rattle.std.proofs.lemmas.Bool.{eqb-true}
use Rattle.std.proofs.lemmas.List.{get_or_read, nil_from_length}
use Rattle.oai_item.specs.Item.{ItemState}
use Rattle.oai_item.specs.Order.{IsPlace}
use Rattle.oai_item.proofs.Around.{item_at-found, item_at-missing, only_place}
use Rattle.oai_item.specs.Items.{item_at}
use Rattle.oai_places.specs.Places.{PlaceState, first_cmp, items_at, items_on}
use Rattle.oai_places.specs.Searches.{BelongsAt}
use Rattle.oai_places.proofs.DirectoryLemmas.{no_place}
use Rattle.oai_places.proofs.InsidePlaces.{found_read, none_found, some_places}
use Rattle.oai_places.proofs.LoneItems.{lone_at, lone_other}
use Rattle.oai_places.proofs.ResultLemmas.{if_ok_map}
use Rattle.oai_places.proofs.ReadPlaces.{named_at_place, placed_at}
use Rattle.oai_places.proofs.leaves.LeafList.find.Goals as goal

pub returns-then-is_empty-clause-found : goal.returns-then-is_empty-clause-found
returns-then-is_empty-clause-found g c =
    λ honest. none_found (g.P.PagePool.pages c.args.pages.now) c.args.self.places.now c.args.key.stamp c.args.key.identifier.now
    (nil_from_length c.args.self.places.now (eqb-true (length c.args.self.places.now) 0 (sym c.is_empty.ensures ∙ c.if-is_empty.true)))

pub returns-in-Ok-clause-found : goal.returns-in-Ok-clause-found
returns-in-Ok-clause-found g c =
    let at = c.leaf_of-at.result in
    let d : ItemState = only_place (pos 0) [] in
    let belongs : BelongsAt c.args.self.places.now c.args.key.stamp c.args.key.identifier.now at = c.leaf_of-at.ensures in
    let place : IsPlace c.in_ok-entries.entries c.args.key.stamp c.args.key.identifier.now (Ok c.in-Ok.at) = c.in-Ok.ensures in
    λ honest. found_read (g.P.PagePool.pages c.args.pages.now) c.args.self.places.now c.args.key.stamp c.args.key.identifier.now at c.in_ok-entries.entries (Some c.in_ok-item-in-Ok.field-0)
    c.requires.directory (belongs.within (some_places c.args.self.places.now (sym c.is_empty.ensures ∙ c.if-is_empty.false))) belongs (c.in_ok-entries.ensures.items honest no_place)
    (item_at-found c.args.key.stamp c.args.key.identifier.now c.in_ok-entries.entries c.in-Ok.at d place ∙ ap Some (sym (c.in_ok-item-in-Ok.ensures d)))

pub returns-clause-found : goal.returns-clause-found
returns-clause-found g c =
    let at = c.leaf_of-at.result in
    let belongs : BelongsAt c.args.self.places.now c.args.key.stamp c.args.key.identifier.now at = c.leaf_of-at.ensures in
    let place : IsPlace c.in_ok-entries.entries c.args.key.stamp c.args.key.identifier.now (Err c.in-Err.field-0) = c.in-Err.ensures in
    λ honest. found_read (g.P.PagePool.pages c.args.pages.now) c.args.self.places.now c.args.key.stamp c.args.key.identifier.now at c.in_ok-entries.entries None
    c.requires.directory (belongs.within (some_places c.args.self.places.now (sym c.is_empty.ensures ∙ c.if-is_empty.false))) belongs (c.in_ok-entries.ensures.items honest no_place)
    (item_at-missing c.args.key.stamp c.args.key.identifier.now c.in_ok-entries.entries c.in-Err.field-0 place)

pub returns-then-is_other-clause-found : goal.returns-then-is_other-clause-found
returns-then-is_other-clause-found g c =
    let pages = g.P.PagePool.pages c.args.pages.now in
    let at = c.leaf_of-at.result in
    let belongs : BelongsAt c.args.self.places.now c.args.key.stamp c.args.key.identifier.now at = c.leaf_of-at.ensures in
    let within = belongs.within (some_places c.args.self.places.now (sym c.is_empty.ensures ∙ c.if-is_empty.false)) in
    let seen = c.is_other.ensures c.if-is_other.true in
    let place : PlaceState = c.index-places-at.result in
    let here : place ≡ get_or c.args.self.places.now at no_place = get_or_read c.args.self.places.now at place within c.index-places-at.is no_place in
    let one = lone_at pages c.args.self.places.now at place c.requires.directory within c.index-places-at.is seen.0 in
    let other : is_eq (first_cmp (get_or c.args.self.places.now at no_place) c.args.key.stamp c.args.key.identifier.now) ≡ false =
    ap (λ (q : PlaceState). is_eq (first_cmp q c.args.key.stamp c.args.key.identifier.now)) (sym here) ∙ seen.1 in
    λ honest. found_read pages c.args.self.places.now c.args.key.stamp c.args.key.identifier.now at (items_at pages (get_or c.args.self.places.now at no_place)) None
    c.requires.directory within belongs refl (lone_other pages c.args.self.places.now c.args.key.stamp c.args.key.identifier.now at c.requires.directory within belongs one other)

pub find_at-requires-clause-named : goal.find_at-requires-clause-named
find_at-requires-clause-named g c =
    let pages = g.P.PagePool.pages c.args.pages.now in
    let at = c.leaf_of-at.result in
    let belongs : BelongsAt c.args.self.places.now c.args.key.stamp c.args.key.identifier.now at = c.leaf_of-at.ensures in
    let within = belongs.within (some_places c.args.self.places.now (sym c.is_empty.ensures ∙ c.if-is_empty.false)) in
    λ n own.
    let named = named_at_place pages c.args.self.places.now at c.index-places-at-then-not-is_long.result within c.index-places-at-then-not-is_long.is n own in
    omega (arith, named, c.requires.named n)

pub find_at-requires-clause-sound : goal.find_at-requires-clause-sound
find_at-requires-clause-sound g c =
    let at = c.leaf_of-at.result in
    let belongs : BelongsAt c.args.self.places.now c.args.key.stamp c.args.key.identifier.now at = c.leaf_of-at.ensures in
    let within = belongs.within (some_places c.args.self.places.now (sym c.is_empty.ensures ∙ c.if-is_empty.false)) in
    placed_at (g.P.PagePool.pages c.args.pages.now) c.args.self.places.now at c.index-places-at-then-not-is_long.result c.requires.directory within c.index-places-at-then-not-is_long.is

pub returns-then-not-is_long-clause-found : goal.returns-then-not-is_long-clause-found
returns-then-not-is_long-clause-found g c =
    let pages = g.P.PagePool.pages c.args.pages.now in
    let at = c.leaf_of-at.result in
    let place : PlaceState = c.index-places-at-then-not-is_long.result in
    let belongs : BelongsAt c.args.self.places.now c.args.key.stamp c.args.key.identifier.now at = c.leaf_of-at.ensures in
    let within = belongs.within (some_places c.args.self.places.now (sym c.is_empty.ensures ∙ c.if-is_empty.false)) in
    let here : place ≡ get_or c.args.self.places.now at no_place = get_or_read c.args.self.places.now at place within c.index-places-at-then-not-is_long.is no_place in
    if_ok_map (λ (found : Option ItemState). IsTrue (g.P.PagePool.honest c.args.pages.now) → found ≡ item_at c.args.key.stamp c.args.key.identifier.now (items_at pages place))
    (λ (found : Option ItemState). IsTrue (g.P.PagePool.honest c.args.pages.now) → found ≡ item_at c.args.key.stamp c.args.key.identifier.now (items_on pages c.args.self.places.now)) c.find_at.result
    (λ found read honest. found_read pages c.args.self.places.now c.args.key.stamp c.args.key.identifier.now at (items_at pages place) found
    c.requires.directory within belongs (ap (items_at pages) here) (sym (read honest)))
    c.find_at.ensures.found
