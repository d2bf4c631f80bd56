-- The mark of a list is a place among its items, and what stands behind the mark's item is what stands behind the place.
use Rattle.std.proofs.Common.{◌≡◌, ◌∙◌, inl, inr, ℕ, ℤ, suc, zero, ◌+◌, ◌<◌, Bool, true, not, List, [], ◌∷◌, ◌++◌, append_assoc, length, take, drop, Option, None, Some, Result, Ok, Err, IfOk, IfSome, ◌-◌, arith, slice_get, refl, sym, ap, subst}
use Rattle.std.specs.Prelude.{filter}
use Rattle.std.specs.List.{list_all}
use Rattle.std.specs.Ordering.{int_eq, is_eq, is_gt, is_lt}
use Rattle.std.specs.Str.{bytes_eq}
use Rattle.std.specs.declared.cmp.Ordering.{Ordering}
use Rattle.std.specs.declared.cmp.Ordering.TheVariants.{Less, Equal, Greater}
use Rattle.std.proofs.lemmas.Bool.{and_from, cases_Bool, cond-true, cond-false, not_from_false}
use Rattle.std.proofs.lemmas.Bool.Decides.{Decides-int_eq}
use Rattle.std.proofs.lemmas.Slice.Eq.{bytes_eq-Decides}
use Rattle.std.proofs.lemmas.List.{length-take, take-append-drop, take-take}
use Rattle.std.proofs.lemmas.List.Elements.{filter-append}
use Rattle.oai_names.proofs.Lists.{all-weaker, filter_all, filter_none}
use Rattle.oai_item.specs.Item.{ItemState}
use Rattle.oai_item.specs.Items.{is_at, items_after}
use Rattle.oai_item.specs.Order.{are_in_order, place_cmp}
use Rattle.oai_item.specs.Selection.{Filter, passes, selected}
use Rattle.oai_item.specs.declared.faults.Fault.{Fault}
use Rattle.oai_item.proofs.Around.{around_item}
use Rattle.oai_item.proofs.OrderLemmas.{is_at-Equal, not_above-at, not_above-below}
use Rattle.oai_item.proofs.Selecting.{in_order-selected}
use Rattle.oai_catalogue.specs.Store.{AreInOrder, VersionLists, list_at}
use Rattle.oai_lists.specs.declared.open_lists.Mark.{Mark}
use Rattle.oai_lists.specs.declared.open_lists.OpenList.{OpenList}
use Rattle.oai_repo.specs.Fields.{ends_at, is_marked, is_place_in, items_frozen}
use Rattle.oai_repo.specs.Tables.{IsMarkBehind}

-- ---- a list that ends with an item

ends_cons : (stamp : ℤ) (identifier : List ℕ) (x : ItemState) (items : List ItemState) → ends_at stamp identifier items ≡ true → ends_at stamp identifier (x ∷ items) ≡ true
ends_cons stamp identifier x [] h = cc
ends_cons stamp identifier x (y ∷ items) h = h

ends_behind : (stamp : ℤ) (identifier : List ℕ) (front items : List ItemState) → ends_at stamp identifier items ≡ true → ends_at stamp identifier (front ++ items) ≡ true
ends_behind stamp identifier [] items h = h
ends_behind stamp identifier (x ∷ front) items h = ends_cons stamp identifier x (front ++ items) (ends_behind stamp identifier front items h)

-- the items with the last one apart
record EndsWith (stamp : ℤ) (identifier : List ℕ) (items : List ItemState) : Type 0 where
  pub front : List ItemState
  pub last : ItemState
  pub whole : items ≡ front ++ last ∷ []
  pub there : is_at stamp identifier last ≡ true

ends_with : (stamp : ℤ) (identifier : List ℕ) (items : List ItemState) → ends_at stamp identifier items ≡ true → EndsWith stamp identifier items
ends_with stamp identifier [] h = cc
ends_with stamp identifier (x ∷ []) h = record { front = []; last = x; whole = refl; there = h }
ends_with stamp identifier (x ∷ y ∷ items) h =
    let rest = ends_with stamp identifier (y ∷ items) h in
    record { front = x ∷ rest.front; last = rest.last; whole = ap (λ (ys : List ItemState). x ∷ ys) rest.whole; there = rest.there }

-- an item stands at its own datestamp and identifier
at_itself : (x : ItemState) → is_at x.stamp x.identifier x ≡ true
at_itself x =
    and_from (int_eq x.stamp x.stamp) (bytes_eq x.identifier x.identifier) ((Decides-int_eq x.stamp x.stamp).1 refl) ((bytes_eq-Decides x.identifier x.identifier).1 refl)

pub last_ends : (items : List ItemState) (x : ItemState) → Some x ≡ slice_get items (length items - 1) → ends_at x.stamp x.identifier items ≡ true
last_ends [] x h = cc
last_ends (y ∷ []) x h =
    let first : length (y ∷ []) - 1 ≡ 0 = omega arith in
    let is : Some x ≡ Some y = h ∙ ap (slice_get (y ∷ [])) first in
    let same : x ≡ y = cc in
    subst (λ (z : ItemState). is_at x.stamp x.identifier z ≡ true) same (at_itself x)
last_ends (y ∷ z ∷ items) x h =
    let next : length (y ∷ z ∷ items) - 1 ≡ suc (length (z ∷ items) - 1) = omega arith in
    last_ends (z ∷ items) x (h ∙ ap (slice_get (y ∷ z ∷ items)) next)

-- ---- a part of a list, and what stands up to its end

take_none : {A : Type 0} (n : ℕ) → take {A = A} n [] ≡ []
take_none zero = refl
take_none (suc n) = refl

take_two : {A : Type 0} (a n : ℕ) (xs : List A) → take (a + n) xs ≡ take a xs ++ take n (drop a xs)
take_two {A} zero n xs = let e : 0 + n ≡ n = omega arith in ap (λ m. take m xs) e
take_two {A} (suc a) n [] = take_none (suc a + n) ∙ sym (take_none n)
take_two {A} (suc a) n (x ∷ xs) = let e : suc a + n ≡ suc (a + n) = omega arith in ap (λ m. take m (x ∷ xs)) e ∙ ap (λ ys. x ∷ ys) (take_two a n xs)

take_taken : {A : Type 0} (n : ℕ) (xs : List A) → take (length (take n xs)) xs ≡ take n xs
take_taken zero xs = refl
take_taken (suc n) [] = refl
take_taken (suc n) (x ∷ xs) = ap (λ ys. x ∷ ys) (take_taken n xs)

-- a mark behind a part is a place among all items
pub mark_place : (all items : List ItemState) (cursor chunk : ℕ) (mark : Option Mark) → items ≡ take chunk (drop cursor all) → IfSome mark (IsMarkBehind items (cursor + length items)) → is_place_in all mark ≡ true
mark_place all items cursor chunk None is behind = refl
mark_place all items cursor chunk (Some mark) is behind =
    let part : take (length items) (drop cursor all) ≡ items = ap (λ (xs : List ItemState). take (length xs) (drop cursor all)) is ∙ take_taken chunk (drop cursor all) ∙ sym is in
    let upto : take mark.cursor all ≡ take cursor all ++ items =
    ap (λ n. take n all) behind.0 ∙ take_two cursor (length items) all ∙ ap (λ ys. take cursor all ++ ys) part
    in
    ap (ends_at mark.stamp mark.identifier) upto ∙ ends_behind mark.stamp mark.identifier (take cursor all) items behind.1

-- a mark behind the first part, which was read with one item more
pub mark_first : (all first : List ItemState) (chunk : ℕ) (mark : Option Mark) → first ≡ take (chunk + 1) all → chunk < length first → IfSome mark (IsMarkBehind (take chunk first) chunk) → is_place_in all mark ≡ true
mark_first all first chunk mark is more behind =
    let whole : take chunk first ≡ take chunk (drop 0 all) = ap (take chunk) is ∙ take-take chunk (chunk + 1) all (omega arith) in
    let size = length-take chunk first in
    let upto : chunk ≡ 0 + length (take chunk first) = omega (arith, size, more) in
    mark_place all (take chunk first) 0 chunk mark whole (subst (λ (n : ℕ). IfSome mark (IsMarkBehind (take chunk first) n)) upto behind)

-- ---- what stands behind a place

equal_is : (o : Ordering) → is_eq o ≡ true → o ≡ Equal
equal_is Less h = cc
equal_is Equal h = refl
equal_is Greater h = cc

filter_swap : (p q : ItemState → Bool) (items : List ItemState) → filter p (filter q items) ≡ filter q (filter p items)
filter_swap p q [] = refl
filter_swap p q (x ∷ items) =
    let rest = filter_swap p q items in
    elim (cases_Bool (p x)) [
      | inl is_p ↦
          elim (cases_Bool (q x)) [
            | inl is_q ↦
                ap (filter p) (cond-true (q x) (x ∷ filter q items) (filter q items) is_q)
                ∙ cond-true (p x) (x ∷ filter p (filter q items)) (filter p (filter q items)) is_p
                ∙ ap (λ ys. x ∷ ys) rest
                ∙ sym (cond-true (q x) (x ∷ filter q (filter p items)) (filter q (filter p items)) is_q)
                ∙ ap (filter q) (sym (cond-true (p x) (x ∷ filter p items) (filter p items) is_p))
            | inr not_q ↦
                ap (filter p) (cond-false (q x) (x ∷ filter q items) (filter q items) not_q)
                ∙ rest
                ∙ sym (cond-false (q x) (x ∷ filter q (filter p items)) (filter q (filter p items)) not_q)
                ∙ ap (filter q) (sym (cond-true (p x) (x ∷ filter p items) (filter p items) is_p))
          ]
      | inr not_p ↦
          elim (cases_Bool (q x)) [
            | inl is_q ↦
                ap (filter p) (cond-true (q x) (x ∷ filter q items) (filter q items) is_q)
                ∙ cond-false (p x) (x ∷ filter p (filter q items)) (filter p (filter q items)) not_p
                ∙ rest
                ∙ ap (filter q) (sym (cond-false (p x) (x ∷ filter p items) (filter p items) not_p))
            | inr not_q ↦
                ap (filter p) (cond-false (q x) (x ∷ filter q items) (filter q items) not_q)
                ∙ rest
                ∙ ap (filter q) (sym (cond-false (p x) (x ∷ filter p items) (filter p items) not_p))
          ]
    ]

-- what is selected of the items behind a place stands behind it in the selection
selected_after : (asked : Filter) (stamp : ℤ) (identifier : List ℕ) (items : List ItemState) → selected asked (items_after stamp identifier items) ≡ items_after stamp identifier (selected asked items)
unfolding selected items_after
selected_after asked stamp identifier items = filter_swap (passes asked) (λ item. is_gt (place_cmp item stamp identifier)) items

after_last : (stamp : ℤ) (identifier : List ℕ) (front behind : List ItemState) (x : ItemState) → is_at stamp identifier x ≡ true → are_in_order (front ++ x ∷ behind) ≡ true
    → items_after stamp identifier (front ++ x ∷ behind) ≡ behind
unfolding items_after
after_last stamp identifier front behind x here order =
    let equal : place_cmp x stamp identifier ≡ Equal = equal_is (place_cmp x stamp identifier) (sym (is_at-Equal stamp identifier x) ∙ here) in
    let around = around_item stamp identifier front behind x equal order in
    let above : ItemState → Bool = λ item. is_gt (place_cmp item stamp identifier) in
    let none : list_all (λ item. not (above item)) front ≡ true =
    all-weaker (λ (item : ItemState). is_lt (place_cmp item stamp identifier)) (λ item. not (above item)) (λ item below. not_from_false _ (not_above-below stamp identifier item below)) front around.below
    in
    filter-append above front (x ∷ behind)
    ∙ ap (λ ys. ys ++ filter above (x ∷ behind)) (filter_none above front none)
    ∙ cond-false (above x) (x ∷ filter above behind) (filter above behind) (not_above-at stamp identifier x equal)
    ∙ filter_all above behind around.above

behind_place : (stamp : ℤ) (identifier : List ℕ) (cursor : ℕ) (items : List ItemState) → are_in_order items ≡ true → ends_at stamp identifier (take cursor items) ≡ true → items_after stamp identifier items ≡ drop cursor items
behind_place stamp identifier cursor items order ends =
    let parts = ends_with stamp identifier (take cursor items) ends in
    let behind : List ItemState = drop cursor items in
    let whole : items ≡ parts.front ++ parts.last ∷ behind =
    sym (take-append-drop cursor items) ∙ ap (λ ys. ys ++ behind) parts.whole ∙ append_assoc parts.front (parts.last ∷ []) behind
    in
    ap (items_after stamp identifier) whole ∙ after_last stamp identifier parts.front behind parts.last parts.there (ap are_in_order (sym whole) ∙ order)

after_mark : (asked : Filter) (items : List ItemState) (mark : Mark) → are_in_order items ≡ true → is_place_in (selected asked items) (Some mark) ≡ true
    → selected asked (items_after mark.stamp mark.identifier items) ≡ drop mark.cursor (selected asked items)
after_mark asked items mark order place =
    selected_after asked mark.stamp mark.identifier items ∙ behind_place mark.stamp mark.identifier mark.cursor (selected asked items) (in_order-selected asked items order) place

-- what the store gives behind the item of a list's mark
pub part_after_mark : (result : Result (List ItemState) Fault) (Honest : Type 0) (all : VersionLists) (list : OpenList) (mark : Mark) (most cursor : ℕ) → list.mark ≡ Some mark → mark.cursor ≡ cursor
    → (Honest → is_marked all list ≡ true) → AreInOrder all
    → IfOk result (λ items. Honest → items ≡ take most (selected list.filter (items_after mark.stamp mark.identifier (list_at all list.version))))
    → IfOk result (λ items. Honest → items ≡ take most (drop cursor (items_frozen all list)))
part_after_mark (Ok items) Honest all list mark most cursor is at marked order part =
    λ honest.
    let place : is_place_in (items_frozen all list) (Some mark) ≡ true = ap (is_place_in (items_frozen all list)) (sym is) ∙ marked honest in
    part honest ∙ ap (take most) (after_mark list.filter (list_at all list.version) mark (order list.version) place ∙ ap (λ n. drop n (items_frozen all list)) at)
part_after_mark (Err fault) Honest all list mark most cursor is at marked order part = part
