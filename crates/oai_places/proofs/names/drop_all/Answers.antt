use Rattle.std.proofs.Common.{◌≡◌, ◌∙◌, ◌∷◌, List, ℕ, [], ap, arith, length, subst, sym}
use Rattle.std.proofs.lemmas.List.{nil_from_length}
use Rattle.std.specs.Vec.Iter.{into_iter_items}
use Rattle.oai_places.specs.Places.{PlaceState, page_numbers}
use Rattle.oai_places.specs.Recounts.{Recounts}
use Rattle.oai_places.proofs.RecountLemmas.{all_left, spares_none, spares_then, next_dropped, next_named, page_numbers-nil, renames_dropped}
use Rattle.oai_places.proofs.names.drop_all.Goals as goal

pub loop-place-init : goal.loop-place-init
loop-place-init g c =
    let all = c.into_iter-place-iterator.ensures.into_iter_gives in
    record {
      names = rw all.0 (all_left g.P.PagePool c.args.places.items c.args.pages.now);
      pool = spares_none g.P.PagePool c.args.pages.now;
      left = all.1 ∙ c.args.places.ok.0 ∙ ap length (sym all.0);
    }

pub drop_numbers-requires : goal.drop_numbers-requires
drop_numbers-requires g c =
    let at = c.loop-place in
    let place : PlaceState = c.in-Some.place in
    let steps : into_iter_items at.place-iterator ≡ place ∷ into_iter_items c.next.new.self = c.in-Some.ensures.steps.0 in
    rw c.pages.ensures (next_named g.P.PagePool place (into_iter_items c.next.new.self) c.args.places.items c.args.pages.now at.pages c.requires
    (rw steps at at.invariant.names))

pub loop-place-preserved : goal.loop-place-preserved
loop-place-preserved g c =
    let G = g.P.PagePool in
    let at = c.loop-place in
    let place : PlaceState = c.in-Some.place in
    let steps : into_iter_items at.place-iterator ≡ place ∷ into_iter_items c.next.new.self = c.in-Some.ensures.steps.0 in
    let p = c.args.pages.now in
    let q = at.pages in
    let r = c.drop_numbers.new.pages in
    record {
      names = next_dropped G place (into_iter_items c.next.new.self) c.args.places.items p q r (rw steps at at.invariant.names)
          (rw c.pages.ensures at c.drop_numbers.ensures.names);
      pool = spares_then G p q r at.invariant.pool c.drop_numbers.ensures.pool;
      left =
          let was = at.invariant.left in
          let gone = c.in-Some.ensures.steps.1 in
          let short = ap length steps in
          omega arith;
    }

pub returns : goal.returns
returns g c =
    let at = c.loop-place in
    let none : into_iter_items at.place-iterator ≡ [] = nil_from_length _ (sym at.invariant.left ∙ c.in-None.ensures.steps.0) in
    record {
      names = renames_dropped g.P.PagePool c.args.places.items c.args.pages.now at.pages
          (subst (λ (some : List ℕ). Recounts g.P.PagePool (page_numbers c.args.places.items) some c.args.pages.now at.pages)
          (ap page_numbers none ∙ page_numbers-nil) at.invariant.names);
      pool = at.invariant.pool;
    }
