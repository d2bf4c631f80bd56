use Rattle.std.proofs.Common.{◌∙◌, ◌<◌, IsTrue, arith, ℕ, subst, sym}
use Rattle.std.proofs.lemmas.List.{get_or_read}
use Rattle.std.specs.Prelude.{HoldsAt}
use Rattle.oai_places.specs.Parts.{IsKnown, IsPartTaken}
use Rattle.oai_places.specs.Picking.{IsPickable}
use Rattle.oai_places.specs.Places.{PlaceState, is_wanted, items_at}
use Rattle.oai_places.proofs.ResultLemmas.{if_ok_map}
use Rattle.oai_places.proofs.InsidePlaces.{known_past}
use Rattle.oai_places.proofs.ReadPlaces.{named_at_place, placed_at}
use Rattle.oai_places.proofs.leaves.LeafList.take_at.Goals as goal

pub pick_at-requires-clause-named : goal.pick_at-requires-clause-named
pick_at-requires-clause-named g c = λ n own.
    let named = named_at_place (g.P.PagePool.pages c.args.pages.now) c.args.self.places.now c.args.at c.index-places-at-2.result c.requires.within c.index-places-at-2.is n own in
    omega (arith, named, c.requires.stands.named n)

pub pick_at-requires-clause-pickable : goal.pick_at-requires-clause-pickable
pick_at-requires-clause-pickable g c =
    let found = rw c.in-Some-span.is at c.known_at-known.ensures.span in
    subst (λ (q : PlaceState). IsPickable q c.args.portion.wanted.filter.now.set c.in-Some-span.span) (sym c.index-places-at-2.is) (found c.index-places-at-2.result)

pub pick_at-requires-clause-sound : goal.pick_at-requires-clause-sound
pick_at-requires-clause-sound g c =
    placed_at (g.P.PagePool.pages c.args.pages.now) c.args.self.places.now c.args.at c.index-places-at-2.result c.requires.stands.directory c.requires.within c.index-places-at-2.is

pub returns-in-Some-span-clause-taken : goal.returns-in-Some-span-clause-taken
returns-in-Some-span-clause-taken g c =
    let pages = g.P.PagePool.pages c.args.pages.now in
    let p = is_wanted c.args.portion.wanted.filter.now c.args.portion.wanted.key.stamp c.args.portion.wanted.key.identifier.now in
    let place : PlaceState = c.index-places-at-2.result in
    if_ok_map (λ (left : ℕ). IsTrue (g.P.PagePool.honest c.args.pages.now) → IsPartTaken p c.args.portion.most c.args.part.now.items c.pick_at.new.part.items c.args.portion.skip left (items_at pages place))
    (λ (left : ℕ). IsTrue (g.P.PagePool.honest c.args.pages.now)
    → HoldsAt (λ q. IsPartTaken p c.args.portion.most c.args.part.now.items c.pick_at.new.part.items c.args.portion.skip left (items_at pages q)) c.args.self.places.now c.args.at) c.pick_at.result
    (λ left taken honest d. subst (λ (q : PlaceState). IsPartTaken p c.args.portion.most c.args.part.now.items c.pick_at.new.part.items c.args.portion.skip left (items_at pages q))
    (get_or_read c.args.self.places.now c.args.at place c.requires.within c.index-places-at-2.is d) (taken honest)) c.pick_at.ensures.taken

pub returns-then-portion-count-clause-taken : goal.returns-then-portion-count-clause-taken
returns-then-portion-count-clause-taken g c =
    λ honest d. known_past (g.P.PagePool.pages c.args.pages.now) c.args.self.places.now c.args.portion.wanted.filter.now c.args.portion.wanted.key.stamp c.args.portion.wanted.key.identifier.now c.args.at c.in-Some.count
    c.args.portion.most c.args.part.now.items c.args.portion.skip c.requires.stands.directory c.requires.within (omega (arith, c.if-portion-count.true)) (rw c.in-Some.is at c.known_at-known.ensures.count) d

pub take_whole-requires-clause-known : goal.take_whole-requires-clause-known
take_whole-requires-clause-known g c = λ d.
    let wanted = c.args.portion.wanted in
    let here = get_or_read c.args.self.places.now c.args.at c.index-places-at.result c.requires.within c.index-places-at.is d in
    subst (λ (q : PlaceState). IsKnown c.args.self.places.now c.args.at wanted.filter.now wanted.key.stamp wanted.key.identifier.now q.len) here
    (subst (λ (n : ℕ). IsKnown c.args.self.places.now c.args.at wanted.filter.now wanted.key.stamp wanted.key.identifier.now n) (c.if-count-len.true ∙ c.len.ensures) (rw c.in-Some.is at c.known_at-known.ensures.count))

pub take_whole-requires-clause-more : goal.take_whole-requires-clause-more
take_whole-requires-clause-more g c = λ d.
    let here = get_or_read c.args.self.places.now c.args.at c.index-places-at.result c.requires.within c.index-places-at.is d in
    subst (λ (q : PlaceState). c.args.portion.skip < q.len) here (omega (arith, c.if-portion-count.false, c.if-count-len.true, c.len.ensures))
