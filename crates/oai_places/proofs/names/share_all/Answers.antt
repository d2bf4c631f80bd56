use Rattle.std.proofs.Common.{◌≡◌, ◌∙◌, ◌+◌, ◌++◌, ◌∷◌, List, ℕ, [], ap, arith, is_ok, subst, sym, take, true}
use Rattle.std.proofs.lemmas.List.{take_all, take_more}
use Rattle.oai_places.specs.Places.{PlaceState, page_numbers}
use Rattle.oai_places.specs.Recounts.{Recounts}
use Rattle.oai_places.proofs.RecountLemmas.{spares_none, spares_then, full_of, named_while_shared, page_numbers-nil, place_after_shares, place_once, recounts_dropped_all, recounts_none, renames_none, renames_shared, full_place, shared_place, undone_after}
use Rattle.oai_places.proofs.names.share_all.Goals as goal

pub loop-at-init : goal.loop-at-init
loop-at-init g c = record {
  copies = c.in_ok-copies.ensures.items;
  names = subst (λ (some : List ℕ). Recounts g.P.PagePool [] some c.args.pages.now c.args.pages.now) (sym page_numbers-nil)
      (recounts_none g.P.PagePool c.args.pages.now);
  pool = spares_none g.P.PagePool c.args.pages.now;
  len = c.in_ok-copies.ensures.len;
  room = c.in_ok-copies.ensures.capacity;
}

pub share_place-requires : goal.share_place-requires
share_place-requires g c =
    let place : PlaceState = c.index-places-at.result in
    record {
      named = place_after_shares g.P.PagePool c.loop-at.at place c.args.places.now c.args.pages.now c.loop-at.pages c.loop-at-test.true
          c.index-places-at.is c.requires.named c.loop-at.invariant.names;
      once = place_once g.P.PagePool c.loop-at.at place c.args.places.now c.loop-at-test.true c.index-places-at.is c.requires.once;
    }

pub unwrap-requires : goal.unwrap-requires
unwrap-requires g c = c.push.ensures.succeeds (omega (arith, c.loop-at-test.true, c.loop-at.invariant.len, c.loop-at.invariant.room))

pub loop-at-preserved : goal.loop-at-preserved
loop-at-preserved g c =
    let G = g.P.PagePool in
    let at = c.loop-at.at in
    let so_far = c.loop-at.invariant in
    let place : PlaceState = c.index-places-at.result in
    let places : List PlaceState = c.args.places.now in
    let p = c.args.pages.now in
    let q = c.loop-at.pages in
    let r = c.share_place.new.pages in
    let done : is_ok c.push.result ≡ true = c.push.ensures.succeeds (omega (arith, c.loop-at-test.true, so_far.len, so_far.room)) in
    let pushed : c.push.new.self.items ≡ c.loop-at.copies.items ++ c.in-Ok.copy ∷ [] = rw done at c.push.ensures.items in
    let next : take (at + 1) places ≡ take at places ++ place ∷ [] = take_more places at place c.loop-at-test.true ∙ ap (λ (own : PlaceState). take at places ++ own ∷ [])
    (sym c.index-places-at.is) in
    record {
      copies = pushed ∙ (λ k. so_far.copies k ++ c.in-Ok.ensures.copy k ∷ []) ∙ sym next;
      names = shared_place G at place places p q r c.loop-at-test.true c.index-places-at.is so_far.names c.in-Ok.ensures.names;
      pool = spares_then G p q r so_far.pool c.share_place.ensures.pool;
      len = rw done at c.push.ensures.len ∙ ap (λ n. n + 1) so_far.len;
      room = omega (arith, so_far.room, c.push.ensures.capacity);
    }

pub drop_all-requires : goal.drop_all-requires
drop_all-requires g c =
    rw c.loop-at.invariant.copies (named_while_shared g.P.PagePool (page_numbers (take c.loop-at.at c.args.places.now)) c.args.pages.now c.loop-at.pages
    c.share_place.new.pages c.loop-at.invariant.names c.in-Err.ensures.undone)

pub returns-in-Err : goal.returns-in-Err
returns-in-Err g c =
    let G = g.P.PagePool in
    let so_far = c.loop-at.invariant in
    let place : PlaceState = c.index-places-at.result in
    let front : List PlaceState = take c.loop-at.at c.args.places.now in
    let p = c.args.pages.now in
    let q = c.loop-at.pages in
    let r = c.share_place.new.pages in
    let s = c.drop_all.new.pages in
    record {
      copies = tt;
      names = tt;
      undone = renames_none G p s (undone_after G (page_numbers front) p q r s so_far.names c.in-Err.ensures.undone
          (recounts_dropped_all G front r s (rw so_far.copies at c.drop_all.ensures.names)));
      fault = full_of _ _ (full_place G c.loop-at.at place c.args.places.now p q c.loop-at-test.true c.index-places-at.is c.requires.once
          so_far.names) c.in-Err.fault c.in-Err.ensures.fault;
      pool = spares_then G p q s so_far.pool (spares_then G q r s c.share_place.ensures.pool c.drop_all.ensures.pool);
    }

pub returns : goal.returns
returns g c =
    let all : take c.loop-at.at c.args.places.now ≡ c.args.places.now = take_all c.loop-at.at c.args.places.now (omega arith) in
    record {
      copies = c.loop-at.invariant.copies ∙ all;
      names = renames_shared g.P.PagePool c.args.places.now c.args.pages.now c.loop-at.pages
          (subst (λ (some : List ℕ). Recounts g.P.PagePool [] some c.args.pages.now c.loop-at.pages) (ap page_numbers all) c.loop-at.invariant.names);
      undone = tt;
      fault = tt;
      pool = c.loop-at.invariant.pool;
    }
