-- What is known of the items of a leaf without reading them, and parts of what is wanted.
use Rattle.std.specs.Prelude.{◌≡◌, ◌⊎◌, ◌+◌, ◌-◌, ◌<◌, ◌≤ℤ◌, int_le, ◌++◌, ℕ, ℤ, Bool, true, false, List, [], ◌∷◌, Some, length, take, drop, filter, HoldsAt}
use Rattle.std.specs.Ordering.{is_gt}
use Rattle.oai_item.specs.Item.{ItemState}
use Rattle.oai_item.specs.Selection.{Filter}
use Rattle.oai_names.specs.Names.{is_among}
use Rattle.oai_time.specs.declared.text.TheConstants.{LAST_SECOND}
use Rattle.oai_places.specs.Places.{PlaceState, first_cmp, known_in}

-- items before these leaves have no later datestamp than that one
abbrev pub EndsBy : List PlaceState → ℤ → Type 0
EndsBy [] upper = LAST_SECOND ≤ℤ upper
EndsBy (next ∷ _) upper = next.stamp ≤ℤ upper

-- each item of this leaf that is in the set, if one is given, passes the filter, and comes after that datestamp and
-- identifier
pub record IsInside (places : List PlaceState) (at : ℕ) (asked : Filter) (stamp : ℤ) (identifier : List ℕ) : Type 0 where
  pub lower : HoldsAt (λ place. asked.lower ≤ℤ place.stamp) places at
  pub behind : HoldsAt (λ place. is_gt (first_cmp place stamp identifier) ≡ true) places at
  pub prefix : HoldsAt (λ place. is_among place.prefixes asked.prefix ≡ true) places at
  pub upper : EndsBy (drop (at + 1) places) asked.upper

-- the leaf has one item alone, which continues on overflow pages, and does not pass the filter, or does not come after
-- that datestamp and identifier
pub record IsOutside (places : List PlaceState) (at : ℕ) (asked : Filter) (stamp : ℤ) (identifier : List ℕ) : Type 0 where
  pub long : HoldsAt (λ place. 1 < length place.pages) places at
  pub out : HoldsAt (λ place. (int_le asked.lower place.stamp ≡ false) ⊎ (is_gt (first_cmp place stamp identifier) ≡ false)) places at

-- that many items of the leaf are known to pass the filter, and to come after that datestamp and identifier: none, or
-- all that are in the set, if one is given
abbrev pub IsKnown : List PlaceState → ℕ → Filter → ℤ → List ℕ → ℕ → Type 0
IsKnown places at asked stamp identifier n =
    (IsOutside places at asked stamp identifier × (n ≡ 0))
    ⊎ (HoldsAt (λ place. known_in place asked.set ≡ Some n) places at × ((n ≡ 0) ⊎ IsInside places at asked stamp identifier))

-- of those of the items that pass, all after the first `skip` were appended to the part, as long as it then has at most
-- that many; whatever items come next, that many of these remain to be skipped
abbrev pub IsPartTaken : (ItemState → Bool) → ℕ → List ItemState → List ItemState → ℕ → ℕ → List ItemState → Type 0
IsPartTaken passes most old new skip left items =
    (rest : List ItemState) → new ++ take (most - length new) (drop left (filter passes rest))
    ≡ old ++ take (most - length old) (drop skip (filter passes (items ++ rest)))
