-- A directory cut at one of its places.
use Rattle.std.proofs.Common.{◌≡◌, ◌∙◌, ◌+◌, ◌<◌, ◌⊎◌, inl, inr, None, ℕ, ℤ, pos, suc, zero, false, List, [], ◌∷◌, ◌++◌, length, take, drop, get_or, sym, ap, subst, arith}
use Rattle.std.specs.List.{AllByRecursion}
use Rattle.std.specs.Ordering.{is_gt}
use Rattle.std.proofs.lemmas.Bool.{cases_lt}
use Rattle.std.proofs.lemmas.List.{drop_all, drop_more}
use Rattle.oai_names.proofs.Lists.{cut}
use Rattle.oai_item.specs.Item.{ItemState}
use Rattle.oai_item.specs.Items.{item_at, with_item, without_at}
use Rattle.oai_item.specs.Order.{AreAround, are_in_order}
use Rattle.oai_item.proofs.Around.{item_at-around, with_item-around, without_at-around}
use Rattle.oai_item.proofs.OrderLemmas.{in_order-with_item, in_order-without_at}
use Rattle.oai_places.specs.Directory.{IsDirectory, MayStand}
use Rattle.oai_places.specs.Pages.{begins_at}
use Rattle.oai_places.specs.Places.{IsSoundPlace, Pages, PlaceState, first_cmp, items_at, items_on}
use Rattle.oai_places.specs.Searches.{BelongsAt, MayBeAt}
use Rattle.oai_places.proofs.OrderedPlaces.{GoesOn, IsBehind, around_place, begun-append, in_order-replaced}
use Rattle.oai_places.proofs.PlaceLemmas.{items_on-append, items_on-cons, items_on-nil, placed-parts}

-- a place that is none
abbrev pub no_place : PlaceState
no_place = record { pages = []; stamp = pos 0; identifier = []; len = 0; size = 0; prefixes = []; sets = None }

-- the items of places begin where the first place says
pub goes_on : (pages : Pages) (places : List PlaceState) → AllByRecursion (IsSoundPlace pages) places → GoesOn places (items_on pages places)
goes_on pages [] h = items_on-nil pages
goes_on pages (p ∷ places) h =
    ap (begins_at p.stamp p.identifier) (items_on-cons pages p places) ∙ begun-append p.stamp p.identifier (items_at pages p) (items_on pages places) h.0.begins

-- ---- a directory before, at and behind a place

pub items-cut : (pages : Pages) (places : List PlaceState) (at : ℕ) (d : PlaceState) → at < length places
    → items_on pages places ≡ items_on pages (take at places) ++ (items_at pages (get_or places at d) ++ items_on pages (drop (at + 1) places))
items-cut pages places at d within =
    let p : PlaceState = get_or places at d in
    ap (items_on pages) (cut places at d within)
    ∙ items_on-append pages (take at places) (p ∷ drop (at + 1) places)
    ∙ ap (λ xs. items_on pages (take at places) ++ xs) (items_on-cons pages p (drop (at + 1) places))

pub placed-cut : (pages : Pages) (places : List PlaceState) (at : ℕ) (d : PlaceState) → at < length places → AllByRecursion (IsSoundPlace pages) places
    → IsSoundPlace pages (get_or places at d) × AllByRecursion (IsSoundPlace pages) (drop (at + 1) places)
placed-cut pages places at d within h =
    let p : PlaceState = get_or places at d in
    (placed-parts pages (take at places) (p ∷ drop (at + 1) places) (subst (AllByRecursion (IsSoundPlace pages)) (cut places at d within) h)).1

-- items that were read at a place may stand there
pub may_stand_read : (pages : Pages) (places : List PlaceState) (at : ℕ) (items : List ItemState) → IsDirectory pages places → at < length places → MayBeAt places at items
    → MayStand pages places at 1 items
may_stand_read pages places at items h within read =
    let p : PlaceState = get_or places at no_place in
    let parts = placed-cut pages places at no_place within h.placed in
    in_order-replaced p.stamp p.identifier (drop (at + 1) places) (items_on pages (take at places)) (items_at pages p) items (items_on pages (drop (at + 1) places))
    (sym (ap are_in_order (items-cut pages places at no_place within)) ∙ h.rising)
    parts.0.begins (goes_on pages (drop (at + 1) places) parts.1) read.page.rising (read.begins no_place) read.below

-- the next place is behind a key that belongs to this one
next_behind : (places : List PlaceState) (stamp : ℤ) (identifier : List ℕ) (at : ℕ) → BelongsAt places stamp identifier at → IsBehind (drop (at + 1) places) stamp identifier
next_behind places stamp identifier at belongs =
    elim (cases_lt (at + 1) (length places)) [
      | inl within ↦ subst (λ (next : List PlaceState). IsBehind next stamp identifier) (sym (drop_more places (at + 1) no_place within)) (belongs.below within no_place)
      | inr end ↦ subst (λ (next : List PlaceState). IsBehind next stamp identifier) (sym (drop_all (at + 1) places end)) tt
    ]

-- the places before a key that belongs to this one
not_before : (pages : Pages) (places : List PlaceState) (stamp : ℤ) (identifier : List ℕ) (at : ℕ) → BelongsAt places stamp identifier at
    → (items_on pages (take at places) ≡ []) ⊎ (is_gt (first_cmp (get_or places at no_place) stamp identifier) ≡ false)
not_before pages places stamp identifier zero belongs = inl (items_on-nil pages)
not_before pages places stamp identifier (suc at) belongs = inr (belongs.not_above (omega arith) no_place)

-- all before the place are below the key that belongs to it, and all behind above
pub around_cut : (pages : Pages) (places : List PlaceState) (stamp : ℤ) (identifier : List ℕ) (at : ℕ) → IsDirectory pages places → at < length places → BelongsAt places stamp identifier at
    → AreAround stamp identifier (items_on pages (take at places)) (items_on pages (drop (at + 1) places))
around_cut pages places stamp identifier at h within belongs =
    let p : PlaceState = get_or places at no_place in
    let parts = placed-cut pages places at no_place within h.placed in
    around_place p.stamp stamp p.identifier identifier (drop (at + 1) places) (items_on pages (take at places)) (items_at pages p) (items_on pages (drop (at + 1) places))
    (sym (ap are_in_order (items-cut pages places at no_place within)) ∙ h.rising)
    parts.0.begins (goes_on pages (drop (at + 1) places) parts.1)
    (not_before pages places stamp identifier at belongs) (next_behind places stamp identifier at belongs)

-- ---- what is looked up, put in and taken out at the place to which it belongs

pub item_at-cut : (pages : Pages) (places : List PlaceState) (stamp : ℤ) (identifier : List ℕ) (at : ℕ) → IsDirectory pages places → at < length places → BelongsAt places stamp identifier at
    → item_at stamp identifier (items_on pages places) ≡ item_at stamp identifier (items_at pages (get_or places at no_place))
item_at-cut pages places stamp identifier at h within belongs =
    ap (item_at stamp identifier) (items-cut pages places at no_place within)
    ∙ item_at-around stamp identifier (items_on pages (take at places)) (items_at pages (get_or places at no_place)) (items_on pages (drop (at + 1) places)) (around_cut pages places stamp identifier at h within belongs)

pub with_item-cut : (pages : Pages) (places : List PlaceState) (item : ItemState) (at : ℕ) → IsDirectory pages places → at < length places → BelongsAt places item.stamp item.identifier at
    → with_item item (items_on pages places)
    ≡ items_on pages (take at places) ++ (with_item item (items_at pages (get_or places at no_place)) ++ items_on pages (drop (at + 1) places))
with_item-cut pages places item at h within belongs =
    ap (with_item item) (items-cut pages places at no_place within)
    ∙ with_item-around item (items_on pages (take at places)) (items_at pages (get_or places at no_place)) (items_on pages (drop (at + 1) places)) (around_cut pages places item.stamp item.identifier at h within belongs)

pub without_at-cut : (pages : Pages) (places : List PlaceState) (stamp : ℤ) (identifier : List ℕ) (at : ℕ) → IsDirectory pages places → at < length places → BelongsAt places stamp identifier at
    → without_at stamp identifier (items_on pages places)
    ≡ items_on pages (take at places) ++ (without_at stamp identifier (items_at pages (get_or places at no_place)) ++ items_on pages (drop (at + 1) places))
without_at-cut pages places stamp identifier at h within belongs =
    ap (without_at stamp identifier) (items-cut pages places at no_place within)
    ∙ without_at-around stamp identifier (items_on pages (take at places)) (items_at pages (get_or places at no_place)) (items_on pages (drop (at + 1) places)) (around_cut pages places stamp identifier at h within belongs)

-- items that were read, with one more or without one, may stand there too
pub may_stand_with : (pages : Pages) (places : List PlaceState) (item : ItemState) (at : ℕ) (items : List ItemState) → IsDirectory pages places → at < length places
    → BelongsAt places item.stamp item.identifier at → MayBeAt places at items → MayStand pages places at 1 (with_item item items)
may_stand_with pages places item at items h within belongs read =
    let before = items_on pages (take at places) in
    let behind = items_on pages (drop (at + 1) places) in
    ap are_in_order (sym (with_item-around item before items behind (around_cut pages places item.stamp item.identifier at h within belongs)))
    ∙ in_order-with_item item (before ++ (items ++ behind)) (may_stand_read pages places at items h within read)

pub may_stand_without : (pages : Pages) (places : List PlaceState) (stamp : ℤ) (identifier : List ℕ) (at : ℕ) (items : List ItemState) → IsDirectory pages places → at < length places
    → BelongsAt places stamp identifier at → MayBeAt places at items → MayStand pages places at 1 (without_at stamp identifier items)
may_stand_without pages places stamp identifier at items h within belongs read =
    let before = items_on pages (take at places) in
    let behind = items_on pages (drop (at + 1) places) in
    ap are_in_order (sym (without_at-around stamp identifier before items behind (around_cut pages places stamp identifier at h within belongs)))
    ∙ in_order-without_at stamp identifier (before ++ (items ++ behind)) (may_stand_read pages places at items h within read)
