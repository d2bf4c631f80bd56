-- Items in order, cut around a place: those before it, those at it or near it, and those behind it. What is done at the place is done in
-- the middle part alone.
use Rattle.std.proofs.Common.{◌≡◌, ◌+◌, ◌<◌, ◌≤◌, ℕ, ℤ, suc, zero, Bool, true, false, not, cond, List, [], ◌∷◌, ◌++◌, None, Some, Result, Ok, Err, length, take, drop, get_or, set, refl, sym, ◌∙◌, ap, arith, add-one}
use Rattle.std.specs.Prelude.{filter}
use Rattle.std.specs.List.{AllWithin, HoldsAt, insert, remove, list_all}
use Rattle.std.specs.List.Sorted.{IsBinarySearchResult, IsNonDecreasingBy, IsSearchInRange}
use Rattle.std.specs.Ordering.{is_lt, is_gt, is_eq, ordering_index}
use Rattle.std.specs.declared.cmp.Ordering.TheVariants.{Less, Equal, Greater}
use Rattle.std.proofs.lemmas.Bool.{and_from, and_parts, cond-true, cond-false, cond_both, not_from_false}
use Rattle.std.proofs.lemmas.Cmp.{alike_right}
use Rattle.std.proofs.lemmas.List.{get_or-drop, get_or-take, length-drop, length-take-le, take-append-drop}
use Rattle.std.proofs.lemmas.List.Elements.{filter-append}
use Rattle.std.proofs.lemmas.List.Folds.{list_all-append}
use Rattle.std.proofs.lemmas.List.Sorted.{searchable_from_sorted}
use Rattle.std.proofs.lemmas.List.Sums.{list_all-from_AllPass}
use Rattle.oai_names.proofs.Lists.{all-weaker, cut, filter_all, filter_none, find_before, find_past, set_cut}
use Rattle.oai_item.specs.Item.{ItemState}
use Rattle.oai_item.specs.Items.{is_at, item_at, items_after, without_at, placed, with_item}
use Rattle.oai_item.specs.Order.{AreAround, IsPlace, place_cmp, item_cmp, precedes, are_in_order}
use Rattle.oai_item.proofs.OrderLemmas.{behind-precedes, is_at-Equal, not_above-at, not_above-below, not_at-above, not_at-below, not_precedes-above, placed-cons, placed-nil, total}

-- ---- no item before a place, or behind it, is at it

pub front_free : (stamp : ℤ) (identifier : List ℕ) (before : List ItemState) → list_all (λ item. is_lt (place_cmp item stamp identifier)) before ≡ true → list_all (λ item. not (is_at stamp identifier item)) before ≡ true
front_free stamp identifier before h =
    all-weaker (λ (item : ItemState). is_lt (place_cmp item stamp identifier)) (λ item. not (is_at stamp identifier item)) (λ item below. not_from_false _ (not_at-below stamp identifier item below)) before h

pub back_free : (stamp : ℤ) (identifier : List ℕ) (behind : List ItemState) → list_all (λ item. is_gt (place_cmp item stamp identifier)) behind ≡ true → list_all (λ item. not (is_at stamp identifier item)) behind ≡ true
back_free stamp identifier behind h =
    all-weaker (λ (item : ItemState). is_gt (place_cmp item stamp identifier)) (λ item. not (is_at stamp identifier item)) (λ item above. not_from_false _ (not_at-above stamp identifier item above)) behind h

-- ---- what is done at a place is done in the middle

pub item_at-around : (stamp : ℤ) (identifier : List ℕ) (before items behind : List ItemState) → AreAround stamp identifier before behind
    → item_at stamp identifier (before ++ (items ++ behind)) ≡ item_at stamp identifier items
unfolding item_at
item_at-around stamp identifier before items behind around =
    find_past (is_at stamp identifier) before (items ++ behind) (front_free stamp identifier before around.below)
    ∙ find_before (is_at stamp identifier) items behind (back_free stamp identifier behind around.above)

pub without_at-around : (stamp : ℤ) (identifier : List ℕ) (before items behind : List ItemState) → AreAround stamp identifier before behind
    → without_at stamp identifier (before ++ (items ++ behind)) ≡ before ++ (without_at stamp identifier items ++ behind)
unfolding without_at
without_at-around stamp identifier before items behind around =
    let stays : ItemState → Bool = λ item. not (is_at stamp identifier item) in
    filter-append stays before (items ++ behind)
    ∙ ap (λ ys. ys ++ filter stays (items ++ behind)) (filter_all stays before (front_free stamp identifier before around.below))
    ∙ ap (λ ys. before ++ ys) (filter-append stays items behind ∙ ap (λ ys. filter stays items ++ ys) (filter_all stays behind (back_free stamp identifier behind around.above)))

placed_front : (item : ItemState) (before items : List ItemState) → list_all (λ other. is_lt (item_cmp other item)) before ≡ true → placed item (before ++ items) ≡ before ++ placed item items
placed_front item [] items h = refl
placed_front item (x ∷ before) items h =
    let parts = and_parts (precedes x item) (list_all (λ other. is_lt (item_cmp other item)) before) h in
    placed-cons item x (before ++ items)
    ∙ cond-false (precedes item x) (item ∷ x ∷ (before ++ items)) (x ∷ placed item (before ++ items)) (not_precedes-above x item parts.0)
    ∙ ap (λ ys. x ∷ ys) (placed_front item before items parts.1)

placed_at_front : (item : ItemState) (behind : List ItemState) → list_all (λ other. is_gt (item_cmp other item)) behind ≡ true → placed item behind ≡ item ∷ behind
placed_at_front item [] h = placed-nil item
placed_at_front item (x ∷ behind) h =
    let parts = and_parts (is_gt (item_cmp x item)) (list_all (λ other. is_gt (item_cmp other item)) behind) h in
    placed-cons item x behind ∙ cond-true (precedes item x) (item ∷ x ∷ behind) (x ∷ placed item behind) (sym (behind-precedes x item) ∙ parts.0)

placed_back : (item : ItemState) (items behind : List ItemState) → list_all (λ other. is_gt (item_cmp other item)) behind ≡ true → placed item (items ++ behind) ≡ placed item items ++ behind
placed_back item [] behind h = placed_at_front item behind h ∙ ap (λ ys. ys ++ behind) (sym (placed-nil item))
placed_back item (x ∷ items) behind h =
    placed-cons item x (items ++ behind)
    ∙ ap (λ ys. cond (precedes item x) (item ∷ x ∷ (items ++ behind)) (x ∷ ys)) (placed_back item items behind h)
    ∙ cond_both (precedes item x) (item ∷ x ∷ items) (x ∷ placed item items) (λ ys. cond (precedes item x) (item ∷ x ∷ (items ++ behind)) (x ∷ (placed item items ++ behind)) ≡ ys ++ behind)
    (λ front. cond-true (precedes item x) _ _ front)
    (λ later. cond-false (precedes item x) _ _ later)
    ∙ ap (λ ys. ys ++ behind) (sym (placed-cons item x items))

pub placed-around : (item : ItemState) (before items behind : List ItemState) → AreAround item.stamp item.identifier before behind
    → placed item (before ++ (items ++ behind)) ≡ before ++ (placed item items ++ behind)
placed-around item before items behind around =
    placed_front item before (items ++ behind) around.below ∙ ap (λ ys. before ++ ys) (placed_back item items behind around.above)

pub with_item-around : (item : ItemState) (before items behind : List ItemState) → AreAround item.stamp item.identifier before behind
    → with_item item (before ++ (items ++ behind)) ≡ before ++ (with_item item items ++ behind)
unfolding with_item
with_item-around item before items behind around =
    ap (placed item) (without_at-around item.stamp item.identifier before items behind around)
    ∙ placed-around item before (without_at item.stamp item.identifier items) behind around

-- ---- order of two parts

-- two lists are in order one after the other exactly where each is, and each item of the first precedes those of the second
pub in_order-append : (a b : List ItemState) → are_in_order (a ++ b) ≡ true → (are_in_order a ≡ true) × (are_in_order b ≡ true) × (list_all (λ x. list_all (precedes x) b) a ≡ true)
in_order-append [] b h = (refl, h, refl)
in_order-append (x ∷ a) b h =
    let parts = and_parts (list_all (precedes x) (a ++ b)) (are_in_order (a ++ b)) h in
    let here = and_parts (list_all (precedes x) a) (list_all (precedes x) b) (sym (list_all-append (precedes x) a b) ∙ parts.0) in
    let rest = in_order-append a b parts.1 in
    (and_from (list_all (precedes x) a) (are_in_order a) here.0 rest.0, rest.1, and_from (list_all (precedes x) b) (list_all (λ y. list_all (precedes y) b) a) here.1 rest.2)

pub in_order-join : (a b : List ItemState) → are_in_order a ≡ true → are_in_order b ≡ true → list_all (λ x. list_all (precedes x) b) a ≡ true → are_in_order (a ++ b) ≡ true
in_order-join [] b h g before = g
in_order-join (x ∷ a) b h g before =
    let parts = and_parts (list_all (precedes x) a) (are_in_order a) h in
    let ahead = and_parts (list_all (precedes x) b) (list_all (λ y. list_all (precedes y) b) a) before in
    and_from (list_all (precedes x) (a ++ b)) (are_in_order (a ++ b)) (list_all-append (precedes x) a b ∙ and_from (list_all (precedes x) a) (list_all (precedes x) b) parts.0 ahead.0) (in_order-join a b parts.1 g ahead.1)

-- ---- where a search ends

-- an item that is only its place
abbrev pub only_place : ℤ → List ℕ → ItemState
only_place stamp identifier = record { identifier = identifier; stamp = stamp; live = true; sets = []; formats = [] }

-- of items in order, those around an item at a place are around that place
pub around_item : (stamp : ℤ) (identifier : List ℕ) (before behind : List ItemState) (x : ItemState) → place_cmp x stamp identifier ≡ Equal
    → are_in_order (before ++ x ∷ behind) ≡ true → AreAround stamp identifier before behind
around_item stamp identifier before behind x here h =
    let place : ItemState = only_place stamp identifier in
    let parts = in_order-append before (x ∷ behind) h in
    let later = and_parts (list_all (precedes x) behind) (are_in_order behind) parts.1 in
    record {
      below = all-weaker (λ (y : ItemState). list_all (precedes y) (x ∷ behind)) (λ y. is_lt (item_cmp y place))
          (λ y ahead. ap is_lt (sym (alike_right total x place y here)) ∙ (and_parts (precedes y x) (list_all (precedes y) behind) ahead).0)
          before parts.2;
      above = all-weaker (precedes x) (λ y. is_gt (item_cmp y place))
          (λ y after. behind-precedes y place ∙ ap is_lt (sym (total.congr x place y here)) ∙ after)
          behind later.0;
    }

-- items in order do not fall
not_falling : (items : List ItemState) (k : ℕ) (d : ItemState) → are_in_order items ≡ true → suc k < length items → precedes (get_or items (suc k) d) (get_or items k d) ≡ false
not_falling [] k d h within = absurd (omega arith)
not_falling (x ∷ []) k d h within = absurd (omega arith)
not_falling (x ∷ y ∷ items) zero d h within =
    let parts = and_parts (list_all (precedes x) (y ∷ items)) (are_in_order (y ∷ items)) h in
    not_precedes-above x y (and_parts (precedes x y) (list_all (precedes x) items) parts.0).0
not_falling (x ∷ y ∷ items) (suc k) d h within =
    let parts = and_parts (list_all (precedes x) (y ∷ items)) (are_in_order (y ∷ items)) h in
    not_falling (y ∷ items) k d parts.1 (omega arith)

-- so a search by halves finds its way among them
pub searchable : (stamp : ℤ) (identifier : List ℕ) (items : List ItemState) → are_in_order items ≡ true → IsNonDecreasingBy (λ item. ordering_index (place_cmp item stamp identifier)) items
searchable stamp identifier items h =
    searchable_from_sorted total (λ (item : ItemState). item) items (only_place stamp identifier) (λ k d low within. rw add-one (not_falling items k d h (omega arith)))

pub front_below : (stamp : ℤ) (identifier : List ℕ) (items : List ItemState) (at : ℕ) → at ≤ length items
    → AllWithin (λ item. place_cmp item stamp identifier ≡ Less) items 0 at → list_all (λ item. is_lt (place_cmp item stamp identifier)) (take at items) ≡ true
front_below stamp identifier items at within h =
    let p : ItemState → Bool = λ item. is_lt (place_cmp item stamp identifier) in
    list_all-from_AllPass p (take at items)
    (λ k d below.
    let inside : k < at = omega (arith, length-take-le at items within) in
    ap p (get_or-take at items k d inside) ∙ ap is_lt (h k d (omega arith) inside))

pub back_above : (stamp : ℤ) (identifier : List ℕ) (items : List ItemState) (at : ℕ) → at ≤ length items
    → AllWithin (λ item. place_cmp item stamp identifier ≡ Greater) items at (length items) → list_all (λ item. is_gt (place_cmp item stamp identifier)) (drop at items) ≡ true
back_above stamp identifier items at within h =
    let p : ItemState → Bool = λ item. is_gt (place_cmp item stamp identifier) in
    list_all-from_AllPass p (drop at items)
    (λ k d below.
    let inside : at + k < length items = omega (arith, length-drop at items) in
    ap p (get_or-drop at items k d) ∙ ap is_gt (h (at + k) d (omega arith) inside))

-- an item found at a place stands there
pub found_place : (stamp : ℤ) (identifier : List ℕ) (items : List ItemState) (at : ℕ) → are_in_order items ≡ true → at < length items
    → HoldsAt (λ item. place_cmp item stamp identifier ≡ Equal) items at → AreAround stamp identifier (take at items) (drop (at + 1) items)
found_place stamp identifier items at h within here =
    let d : ItemState = only_place stamp identifier in
    around_item stamp identifier (take at items) (drop (at + 1) items) (get_or items at d) (here d) (ap are_in_order (sym (cut items at d within)) ∙ h)

-- what a search by halves answers
pub is_place : (stamp : ℤ) (identifier : List ℕ) (items : List ItemState) (result : Result ℕ ℕ) → are_in_order items ≡ true
    → IsSearchInRange result (length items) → IsBinarySearchResult (λ item. place_cmp item stamp identifier) items result → IsPlace items stamp identifier result
is_place stamp identifier items (Ok at) h within here = (within, here, found_place stamp identifier items at h within here)
is_place stamp identifier items (Err at) h within parted =
    let point = parted (searchable stamp identifier items h) in
    (within, record { below = front_below stamp identifier items at within point.0; above = back_above stamp identifier items at within point.1 })

-- ---- one list, by where a place is in it

at_found : (stamp : ℤ) (identifier : List ℕ) (item : ItemState) → place_cmp item stamp identifier ≡ Equal → is_at stamp identifier item ≡ true
at_found stamp identifier item h = is_at-Equal stamp identifier item ∙ ap is_eq h

-- the item at a place that was found
pub item_at-found : (stamp : ℤ) (identifier : List ℕ) (items : List ItemState) (at : ℕ) (d : ItemState) → IsPlace items stamp identifier (Ok at) → item_at stamp identifier items ≡ Some (get_or items at d)
unfolding item_at
item_at-found stamp identifier items at d place =
    let x : ItemState = get_or items at d in
    ap (item_at stamp identifier) (cut items at d place.0)
    ∙ item_at-around stamp identifier (take at items) (x ∷ []) (drop (at + 1) items) place.2
    ∙ cond-true (is_at stamp identifier x) (Some x) None (at_found stamp identifier x (place.1 d))

pub item_at-missing : (stamp : ℤ) (identifier : List ℕ) (items : List ItemState) (at : ℕ) → IsPlace items stamp identifier (Err at) → item_at stamp identifier items ≡ None
unfolding item_at
item_at-missing stamp identifier items at place =
    ap (item_at stamp identifier) (sym (take-append-drop at items)) ∙ item_at-around stamp identifier (take at items) [] (drop at items) place.1

-- the items without the one at a place
pub without_at-found : (stamp : ℤ) (identifier : List ℕ) (items : List ItemState) (at : ℕ) (d : ItemState) → IsPlace items stamp identifier (Ok at) → without_at stamp identifier items ≡ remove items at
unfolding without_at
without_at-found stamp identifier items at d place =
    let x : ItemState = get_or items at d in
    ap (without_at stamp identifier) (cut items at d place.0)
    ∙ without_at-around stamp identifier (take at items) (x ∷ []) (drop (at + 1) items) place.2
    ∙ ap (λ ys. take at items ++ (ys ++ drop (at + 1) items)) (cond-false (not (is_at stamp identifier x)) (x ∷ []) [] (ap not (at_found stamp identifier x (place.1 d))))
    ∙ ap (λ n. take at items ++ drop n items) (add-one at)

pub without_at-missing : (stamp : ℤ) (identifier : List ℕ) (items : List ItemState) (at : ℕ) → IsPlace items stamp identifier (Err at) → without_at stamp identifier items ≡ items
unfolding without_at
without_at-missing stamp identifier items at place =
    ap (without_at stamp identifier) (sym (take-append-drop at items))
    ∙ without_at-around stamp identifier (take at items) [] (drop at items) place.1
    ∙ take-append-drop at items

-- the items with one in place of that at its place
pub with_item-found : (item : ItemState) (items : List ItemState) (at : ℕ) (d : ItemState) → IsPlace items item.stamp item.identifier (Ok at) → with_item item items ≡ set items at item
unfolding with_item without_at
with_item-found item items at d place =
    let x : ItemState = get_or items at d in
    ap (with_item item) (cut items at d place.0)
    ∙ with_item-around item (take at items) (x ∷ []) (drop (at + 1) items) place.2
    ∙ ap (λ ys. take at items ++ (placed item ys ++ drop (at + 1) items)) (cond-false (not (is_at item.stamp item.identifier x)) (x ∷ []) [] (ap not (at_found item.stamp item.identifier x (place.1 d))))
    ∙ ap (λ ys. take at items ++ (ys ++ drop (at + 1) items)) (placed-nil item)
    ∙ sym (set_cut items at item place.0)

pub with_item-missing : (item : ItemState) (items : List ItemState) (at : ℕ) → IsPlace items item.stamp item.identifier (Err at) → with_item item items ≡ insert items at item
unfolding with_item without_at
with_item-missing item items at place =
    ap (with_item item) (sym (take-append-drop at items))
    ∙ with_item-around item (take at items) [] (drop at items) place.1
    ∙ ap (λ ys. take at items ++ (ys ++ drop at items)) (placed-nil item)

-- ---- what stands behind a place

behind_around : (stamp : ℤ) (identifier : List ℕ) (before behind : List ItemState) → AreAround stamp identifier before behind
    → items_after stamp identifier (before ++ behind) ≡ behind
unfolding items_after
behind_around stamp identifier before behind around =
    let above : ItemState → Bool = λ item. is_gt (place_cmp item stamp identifier) in
    let none : list_all (λ item. not (above item)) before ≡ true =
    all-weaker (λ (item : ItemState). is_lt (place_cmp item stamp identifier)) (λ item. not (above item)) (λ item below. not_from_false _ (not_above-below stamp identifier item below)) before around.below
    in
    filter-append above before behind ∙ ap (λ ys. ys ++ filter above behind) (filter_none above before none) ∙ filter_all above behind around.above

pub items_after-found : (stamp : ℤ) (identifier : List ℕ) (items : List ItemState) (at : ℕ) → IsPlace items stamp identifier (Ok at) → drop (at + 1) items ≡ items_after stamp identifier items
unfolding items_after
items_after-found stamp identifier items at place =
    let d : ItemState = only_place stamp identifier in
    let x : ItemState = get_or items at d in
    let above : ItemState → Bool = λ item. is_gt (place_cmp item stamp identifier) in
    let behind = drop (at + 1) items in
    let front = sym (behind_around stamp identifier (take at items) behind place.2) ∙ filter-append above (take at items) behind in
    let skips : filter above (x ∷ behind) ≡ filter above behind = cond-false (above x) (x ∷ filter above behind) (filter above behind) (not_above-at stamp identifier x (place.1 d)) in
    front ∙ ap (λ ys. filter above (take at items) ++ ys) (sym skips) ∙ sym (filter-append above (take at items) (x ∷ behind)) ∙ ap (items_after stamp identifier) (sym (cut items at d place.0))

pub items_after-missing : (stamp : ℤ) (identifier : List ℕ) (items : List ItemState) (at : ℕ) → IsPlace items stamp identifier (Err at) → drop at items ≡ items_after stamp identifier items
items_after-missing stamp identifier items at place =
    sym (behind_around stamp identifier (take at items) (drop at items) place.1) ∙ ap (items_after stamp identifier) (take-append-drop at items)
