-- The position of an item in a directory, or where it would be inserted.
use Rattle.std.specs.Prelude.{◌≡◌, ◌==◌, ◌&&◌, ◌⊎◌, ◌+◌, ◌<◌, ◌≤◌, ℕ, ℤ, Bool, true, false, List, [], length, drop, HoldsAt}
use Rattle.std.specs.Ordering.{is_gt}
use Rattle.oai_item.specs.Item.{ItemState}
use Rattle.oai_item.specs.Selection.{Filter}
use Rattle.oai_places.specs.Pages.{FitPage, begins_at, fit_one, size_of}
use Rattle.oai_places.specs.Places.{PlaceState, are_below, first_cmp}

-- that datestamp and identifier belong to this leaf: no leaf up to it begins after them, and the next one does. If
-- there is no leaf, it is 0
pub record BelongsAt (places : List PlaceState) (stamp : ℤ) (identifier : List ℕ) (at : ℕ) : Type 0 where
  pub within : 0 < length places → at < length places
  pub first : length places ≡ 0 → at ≡ 0
  pub not_above : 0 < at → HoldsAt (λ place. is_gt (first_cmp place stamp identifier) ≡ false) places at
  pub below : at + 1 < length places → HoldsAt (λ place. is_gt (first_cmp place stamp identifier) ≡ true) places (at + 1)

-- the leaf at `at` is one of that many, passes the test, and is the one to which an item with that datestamp and
-- identifier belongs
pub record IsPlaceFor (test : PlaceState → Type 0) (places : List PlaceState) (count : ℕ) (stamp : ℤ) (identifier : List ℕ) (at : ℕ) : Type 0 where
  pub within : at < count
  pub passes : HoldsAt test places at
  pub belongs : BelongsAt places stamp identifier at

-- the items are as many, and of as many bytes, as those of the place, the first is the one that the place names, and
-- each stands before the first one of the next places
abbrev pub are_of : PlaceState → List PlaceState → List ItemState → Bool
are_of place next items =
    length items == place.len && size_of items == place.size && begins_at place.stamp place.identifier items && are_below items next

-- items that may have been read at this leaf: those of a page, as many and of as many bytes as the leaf has, of which
-- the first is the one that the leaf names, and the last precedes the first of the next leaf; those of a leaf of one
-- page fit on it
pub record MayBeAt (places : List PlaceState) (at : ℕ) (items : List ItemState) : Type 0 where
  pub page : FitPage items
  pub fits : HoldsAt (λ place. length place.pages ≤ 1 → fit_one items ≡ true) places at
  pub whole : HoldsAt (λ place. (length items ≡ place.len) × (size_of items ≡ place.size)) places at
  pub begins : HoldsAt (λ place. begins_at place.stamp place.identifier items ≡ true) places at
  pub below : are_below items (drop (at + 1) places) ≡ true

-- the items before this leaf precede the lower bound of the filter, or do not come after that datestamp and identifier
pub record StartsAt (places : List PlaceState) (asked : Filter) (stamp : ℤ) (identifier : List ℕ) (at : ℕ) : Type 0 where
  pub within : 0 < length places → at < length places
  pub first : length places ≡ 0 → at ≡ 0
  pub before : 0 < at → HoldsAt (λ place. (is_gt (first_cmp place asked.lower []) ≡ false)
      ⊎ (is_gt (first_cmp place stamp identifier) ≡ false)) places at
