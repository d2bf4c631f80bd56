-- Items of a directory in their order: where a datestamp and identifier are among its places, and other items in the place of those of one.
use Rattle.std.specs.Prelude.{⊤}
use Rattle.std.proofs.Common.{◌≡◌, ◌∙◌, ◌⊎◌, ⊎_elim, ℕ, ℤ, true, false, List, [], ◌∷◌, ◌++◌, refl, sym, ap}
use Rattle.std.specs.List.{list_all}
use Rattle.std.specs.Ordering.{is_gt, is_lt}
use Rattle.std.specs.declared.cmp.Ordering.{Ordering}
use Rattle.std.specs.declared.cmp.Ordering.TheVariants.{Less, Equal, Greater}
use Rattle.std.proofs.lemmas.Bool.{and_from, and_parts, false≢true}
use Rattle.std.proofs.lemmas.Cmp.{alike_right}
use Rattle.oai_names.proofs.Lists.{all-weaker}
use Rattle.oai_item.specs.Item.{ItemState}
use Rattle.oai_item.specs.Items.{is_at}
use Rattle.oai_item.specs.Order.{AreAround, are_in_order, item_cmp, place_cmp, precedes}
use Rattle.oai_item.proofs.Around.{in_order-append, in_order-join, only_place}
use Rattle.oai_item.proofs.OrderLemmas.{behind-precedes, is_at-Equal, is_equal, precedes-trans, total}
use Rattle.oai_places.specs.Pages.{begins_at}
use Rattle.oai_places.specs.Places.{PlaceState, are_below, first_cmp}

-- ---- items that begin at a key

-- an item at a datestamp and identifier stands to all others as these do
pub at-cmp : (stamp : ℤ) (identifier : List ℕ) (x y : ItemState) → is_at stamp identifier x ≡ true → item_cmp y x ≡ place_cmp y stamp identifier
at-cmp stamp identifier x y h = alike_right total x (only_place stamp identifier) y (is_equal (place_cmp x stamp identifier) (sym (is_at-Equal stamp identifier x) ∙ h))

-- before the first of items in order, before each of them
pub before_all : (x y : ItemState) (items : List ItemState) → are_in_order (y ∷ items) ≡ true → precedes x y ≡ true → list_all (precedes x) (y ∷ items) ≡ true
before_all x y items h before =
    and_from (precedes x y) (list_all (precedes x) items) before
    (all-weaker (precedes y) (precedes x) (λ z later. precedes-trans x y z before later) items (and_parts (list_all (precedes y) items) (are_in_order items) h).0)

-- before a key, before each of the items that begin at it
pub before_begun : (stamp : ℤ) (identifier : List ℕ) (x : ItemState) (items : List ItemState) → are_in_order items ≡ true → begins_at stamp identifier items ≡ true
    → is_lt (place_cmp x stamp identifier) ≡ true → list_all (precedes x) items ≡ true
before_begun stamp identifier x [] h begins before = refl
before_begun stamp identifier x (y ∷ items) h begins before =
    before_all x y items h (ap is_lt (at-cmp stamp identifier y x begins) ∙ before)

-- before the items that begin at a key, before it
pub before_key : (stamp : ℤ) (identifier : List ℕ) (x : ItemState) (items : List ItemState) → begins_at stamp identifier items ≡ true
    → list_all (precedes x) items ≡ true → is_lt (place_cmp x stamp identifier) ≡ true
before_key stamp identifier x [] begins before = cc
before_key stamp identifier x (y ∷ items) begins before =
    sym (ap is_lt (at-cmp stamp identifier y x begins)) ∙ (and_parts (precedes x y) (list_all (precedes x) items) before).0

pub begun-append : (stamp : ℤ) (identifier : List ℕ) (a b : List ItemState) → begins_at stamp identifier a ≡ true → begins_at stamp identifier (a ++ b) ≡ true
begun-append stamp identifier [] b h = cc
begun-append stamp identifier (x ∷ a) b h = h

-- ---- other items in the place of some

-- items behind, which begin at the key of the next place, where there is one
abbrev pub GoesOn : List PlaceState → List ItemState → Type 0
GoesOn [] items = items ≡ []
GoesOn (next ∷ _) items = begins_at next.stamp next.identifier items ≡ true

below_behind : (next : List PlaceState) (items behind : List ItemState) → are_in_order behind ≡ true → GoesOn next behind → are_below items next ≡ true
    → list_all (λ x. list_all (precedes x) behind) items ≡ true
below_behind [] items behind h goes below = all-weaker (λ (x : ItemState). true) (λ x. list_all (precedes x) behind) (λ x _. rw goes refl) items (all_true items) where
  all_true : (xs : List ItemState) → list_all (λ x. true) xs ≡ true
  all_true [] = refl
  all_true (x ∷ xs) = all_true xs
below_behind (next ∷ _) items behind h goes below =
    all-weaker (λ (x : ItemState). is_lt (place_cmp x next.stamp next.identifier)) (λ x. list_all (precedes x) behind)
    (λ x before. before_begun next.stamp next.identifier x behind h goes before) items below

-- items of a place that begin where its items begin, and end before the next place, in place of these: all are in order
pub in_order-replaced : (stamp : ℤ) (identifier : List ℕ) (next : List PlaceState) (before own items behind : List ItemState) → are_in_order (before ++ (own ++ behind)) ≡ true
    → begins_at stamp identifier own ≡ true → GoesOn next behind → are_in_order items ≡ true → begins_at stamp identifier items ≡ true → are_below items next ≡ true
    → are_in_order (before ++ (items ++ behind)) ≡ true
in_order-replaced stamp identifier next before own items behind h begins goes rising begun below =
    let outer = in_order-append before (own ++ behind) h in
    let inner = in_order-append own behind outer.1 in
    let joined : are_in_order (items ++ behind) ≡ true = in_order-join items behind rising inner.1 (below_behind next items behind inner.1 goes below) in
    in_order-join before (items ++ behind) outer.0 joined
    (all-weaker (λ (x : ItemState). list_all (precedes x) (own ++ behind)) (λ x. list_all (precedes x) (items ++ behind))
    (λ x ahead. before_begun stamp identifier x (items ++ behind) joined (begun-append stamp identifier items behind begun)
    (before_key stamp identifier x (own ++ behind) (begun-append stamp identifier own behind begins) ahead))
    before outer.2)

-- ---- where a key is

-- an item before another key that is not above, before it
below_not_above : (x y : ItemState) (stamp : ℤ) (identifier : List ℕ) → precedes x y ≡ true → is_gt (place_cmp y stamp identifier) ≡ false → is_lt (place_cmp x stamp identifier) ≡ true
below_not_above x y stamp identifier before not_above =
    let place : ItemState = only_place stamp identifier in
    by_cases (item_cmp y place) refl where
      by_cases : (o : Ordering) → item_cmp y (only_place stamp identifier) ≡ o → is_lt (place_cmp x stamp identifier) ≡ true
      by_cases Less e = precedes-trans x y (only_place stamp identifier) before (ap is_lt e)
      by_cases Equal e = sym (ap is_lt (alike_right total y (only_place stamp identifier) x e)) ∙ before
      by_cases Greater e = absurd (false≢true (sym not_above ∙ ap is_gt e))

-- the next place, where there is one, begins behind the key
abbrev pub IsBehind : List PlaceState → ℤ → List ℕ → Type 0
IsBehind [] stamp identifier = ⊤
IsBehind (next ∷ _) stamp identifier = is_gt (first_cmp next stamp identifier) ≡ true

pub all_above : (next : List PlaceState) (stamp : ℤ) (identifier : List ℕ) (behind : List ItemState) → are_in_order behind ≡ true → GoesOn next behind → IsBehind next stamp identifier
    → list_all (λ item. is_gt (place_cmp item stamp identifier)) behind ≡ true
all_above [] stamp identifier behind h goes later = rw goes refl
all_above (next ∷ _) stamp identifier behind h goes later =
    let place : ItemState = only_place stamp identifier in
    all-weaker (precedes place) (λ (y : ItemState). is_gt (item_cmp y place)) (λ y after. behind-precedes y place ∙ after) behind
    (before_begun next.stamp next.identifier place behind h goes (sym (behind-precedes (only_place next.stamp next.identifier) place) ∙ later))

-- of items in order, those before a place that does not begin behind a key are below it
pub below_place : (own_stamp stamp : ℤ) (own_identifier identifier : List ℕ) (before own behind : List ItemState) → are_in_order (before ++ (own ++ behind)) ≡ true
    → begins_at own_stamp own_identifier own ≡ true
    → (before ≡ []) ⊎ (is_gt (place_cmp (only_place own_stamp own_identifier) stamp identifier) ≡ false)
    → list_all (λ item. is_lt (place_cmp item stamp identifier)) before ≡ true
below_place own_stamp stamp own_identifier identifier before own behind h begins first =
    let outer = in_order-append before (own ++ behind) h in
    ⊎_elim
    (λ none. rw none refl)
    (λ not_above. all-weaker (λ (x : ItemState). list_all (precedes x) (own ++ behind)) (λ x. is_lt (place_cmp x stamp identifier))
    (λ x ahead. below_not_above x (only_place own_stamp own_identifier) stamp identifier
    (before_key own_stamp own_identifier x (own ++ behind) (begun-append own_stamp own_identifier own behind begins) ahead) not_above)
    before outer.2)
    first

-- and those of places that begin behind it are above
pub around_place : (own_stamp stamp : ℤ) (own_identifier identifier : List ℕ) (next : List PlaceState) (before own behind : List ItemState) → are_in_order (before ++ (own ++ behind)) ≡ true
    → begins_at own_stamp own_identifier own ≡ true → GoesOn next behind
    → (before ≡ []) ⊎ (is_gt (place_cmp (only_place own_stamp own_identifier) stamp identifier) ≡ false)
    → IsBehind next stamp identifier
    → AreAround stamp identifier before behind
around_place own_stamp stamp own_identifier identifier next before own behind h begins goes first later =
    let outer = in_order-append before (own ++ behind) h in
    record {
      below = below_place own_stamp stamp own_identifier identifier before own behind h begins first;
      above = all_above next stamp identifier behind (in_order-append own behind outer.1).1 goes later;
    }

-- items of a place end before the next one
pub own_below : (next : List PlaceState) (own behind : List ItemState) → are_in_order (own ++ behind) ≡ true → GoesOn next behind → are_below own next ≡ true
own_below [] own behind h goes = refl
own_below (next ∷ _) own behind h goes =
    let parts = in_order-append own behind h in
    all-weaker (λ (x : ItemState). list_all (precedes x) behind) (λ x. is_lt (place_cmp x next.stamp next.identifier))
    (λ x ahead. before_key next.stamp next.identifier x behind goes ahead) own parts.2
