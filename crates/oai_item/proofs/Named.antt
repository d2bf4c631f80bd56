-- Items looked up by their identifiers, where no two have one: what stands under an identifier after a change, and that a change by
-- datestamp and identifier is one by identifier.
use Rattle.std.proofs.Common.{◌≡◌, ◌∙◌, ◌+◌, ℕ, ℤ, Bool, true, false, not, ◌&&◌, cond, List, [], ◌∷◌, length, Option, None, Some, inl, inr, refl, sym, ap, subst, arith}
use Rattle.std.specs.Prelude.{filter, find}
use Rattle.std.specs.List.{list_all}
use Rattle.std.specs.Ordering.{int_eq}
use Rattle.std.specs.Str.{bytes_eq}
use Rattle.std.proofs.lemmas.Bool.{and_parts, both_ways, cases_Bool, cond-true, cond-false, not-true, not_from_false}
use Rattle.std.proofs.lemmas.Slice.Eq.{bytes_eq-Decides}
use Rattle.oai_item.specs.Item.{ItemState}
use Rattle.oai_item.specs.Items.{is_named, is_apart, are_apart, is_at, item_at, item_named, placed, with_item, without, without_at}
use Rattle.oai_item.specs.Order.{precedes}
use Rattle.oai_names.proofs.Lists.{all-filter_same, all-weaker, filter_all}
use Rattle.oai_item.proofs.OrderLemmas.{placed-cons, placed-nil}

-- ---- what is found

-- nothing is found where nothing passes, and where nothing is found nothing passes
none_passes : (p : ItemState → Bool) (items : List ItemState) → find p items ≡ None → list_all (λ item. not (p item)) items ≡ true
none_passes p [] h = refl
none_passes p (x ∷ items) h = by_test (p x) h (none_passes p items)
  where
    by_test : (b : Bool) → cond b (Some x) (find p items) ≡ None → (find p items ≡ None → list_all (λ item. not (p item)) items ≡ true)
        → (not b && list_all (λ item. not (p item)) items) ≡ true
    by_test true found later = cc
    by_test false found later = later found

-- no item has the identifier
abbrev pub none_named : List ℕ → List ItemState → Bool
none_named identifier items = list_all (λ item. not (is_named identifier item)) items

pub none_named-from : (identifier : List ℕ) (items : List ItemState) → item_named identifier items ≡ None → none_named identifier items ≡ true
unfolding item_named
none_named-from identifier items h = none_passes (is_named identifier) items h

-- what is found has the identifier that was looked for
pub found_name : (identifier : List ℕ) (items : List ItemState) (item : ItemState) → item_named identifier items ≡ Some item → item.identifier ≡ identifier
unfolding item_named
found_name identifier [] item h = cc
found_name identifier (x ∷ items) item h = by_test (bytes_eq x.identifier identifier) ((bytes_eq-Decides x.identifier identifier).0) h (found_name identifier items item)
  where
    by_test : (b : Bool) → (b ≡ true → x.identifier ≡ identifier) → cond b (Some x) (find (is_named identifier) items) ≡ Some item
        → (find (is_named identifier) items ≡ Some item → item.identifier ≡ identifier) → item.identifier ≡ identifier
    by_test true same found later = let e : x ≡ item = cc in ap (λ (i : ItemState). i.identifier) (sym e) ∙ same refl
    by_test false same found later = later found

-- and what is true of all is true of it
pub of_found : (p : ItemState → Bool) (identifier : List ℕ) (items : List ItemState) (item : ItemState) → item_named identifier items ≡ Some item
    → list_all p items ≡ true → p item ≡ true
unfolding item_named
of_found p identifier [] item h all = cc
of_found p identifier (x ∷ items) item h all =
    let parts = and_parts (p x) (list_all p items) all in
    by_test (bytes_eq x.identifier identifier) h parts.0 (λ later. of_found p identifier items item later parts.1)
  where
    by_test : (b : Bool) → cond b (Some x) (find (is_named identifier) items) ≡ Some item → p x ≡ true
        → (find (is_named identifier) items ≡ Some item → p item ≡ true) → p item ≡ true
    by_test true found here later = let e : x ≡ item = cc in ap p (sym e) ∙ here
    by_test false found here later = later found

-- ---- by identifier and by place

-- an item of another identifier stands at another place
not_at : (stamp : ℤ) (identifier : List ℕ) (item : ItemState) → not (is_named identifier item) ≡ true → not (is_at stamp identifier item) ≡ true
not_at stamp identifier item h = by_test (int_eq item.stamp stamp) (is_named identifier item) h
  where
    by_test : (a b : Bool) → not b ≡ true → not (a && b) ≡ true
    by_test true b h = h
    by_test false b h = refl

not_at-all : (stamp : ℤ) (identifier : List ℕ) (items : List ItemState) → none_named identifier items ≡ true → list_all (λ item. not (is_at stamp identifier item)) items ≡ true
not_at-all stamp identifier items h = all-weaker (λ (item : ItemState). not (is_named identifier item)) (λ item. not (is_at stamp identifier item)) (λ item. not_at stamp identifier item) items h

-- where no item has the identifier, the items without it are all of them
pub without-none : (identifier : List ℕ) (items : List ItemState) → item_named identifier items ≡ None → without identifier items ≡ items
unfolding without
without-none identifier items h = filter_all (λ (item : ItemState). not (is_named identifier item)) items (none_named-from identifier items h)

pub without_at-none : (stamp : ℤ) (identifier : List ℕ) (items : List ItemState) → none_named identifier items ≡ true → without_at stamp identifier items ≡ items
unfolding without_at
without_at-none stamp identifier items h = filter_all (λ (item : ItemState). not (is_at stamp identifier item)) items (not_at-all stamp identifier items h)

-- those that are apart from an item have not its identifier
apart_none : (identifier : List ℕ) (x : ItemState) (items : List ItemState) → x.identifier ≡ identifier → list_all (is_apart x) items ≡ true → none_named identifier items ≡ true
apart_none identifier x items same h = subst (λ i. none_named i items ≡ true) same h

int_eq-itself : (z : ℤ) → int_eq z z ≡ true
int_eq-itself z = grind (arith)

bytes_eq-itself : (bs : List ℕ) → bytes_eq bs bs ≡ true
bytes_eq-itself bs = (bytes_eq-Decides bs bs).1 refl

-- an item stands at its own place
at_own : (item : ItemState) (identifier : List ℕ) → item.identifier ≡ identifier → is_at item.stamp identifier item ≡ true
at_own item identifier same = rw (int_eq-itself item.stamp, same) (bytes_eq-itself identifier)

-- the item of the identifier is the one at its datestamp and the identifier
pub item_at-named : (identifier : List ℕ) (items : List ItemState) (item : ItemState) → item_named identifier items ≡ Some item → item_at item.stamp identifier items ≡ Some item
unfolding item_named item_at
item_at-named identifier [] item h = h
item_at-named identifier (x ∷ items) item h = elim (cases_Bool (is_named identifier x)) [
  | inl here ↦
      let found : Some x ≡ Some item = sym (cond-true (is_named identifier x) (Some x) (find (is_named identifier) items) here) ∙ h in
      let same : x ≡ item = cc in
      cond-true (is_at item.stamp identifier x) (Some x) (find (is_at item.stamp identifier) items)
      (subst (λ (y : ItemState). is_at y.stamp identifier x ≡ true) same (at_own x identifier ((bytes_eq-Decides x.identifier identifier).0 here)))
      ∙ found
  | inr other ↦
      cond-false (is_at item.stamp identifier x) (Some x) (find (is_at item.stamp identifier) items) (not-true _ (not_at item.stamp identifier x (not_from_false _ other)))
      ∙ item_at-named identifier items item (sym (cond-false (is_named identifier x) (Some x) (find (is_named identifier) items) other) ∙ h)
]

-- without the item of the identifier the items are the same by its place and by the identifier
pub without_at-named : (identifier : List ℕ) (items : List ItemState) (item : ItemState) → item_named identifier items ≡ Some item → are_apart items ≡ true
    → without_at item.stamp identifier items ≡ without identifier items
unfolding item_named without without_at
without_at-named identifier [] item h apart = cc
without_at-named identifier (x ∷ items) item h apart =
    let parts = and_parts (list_all (is_apart x) items) (are_apart items) apart in
    let by_place : List ItemState = filter (λ other. not (is_at item.stamp identifier other)) items in
    let by_name : List ItemState = filter (λ other. not (is_named identifier other)) items in
    elim (cases_Bool (is_named identifier x)) [
      | inl here ↦
          let found : Some x ≡ Some item = sym (cond-true (is_named identifier x) (Some x) (find (is_named identifier) items) here) ∙ h in
          let same : x ≡ item = cc in
          let name : x.identifier ≡ identifier = (bytes_eq-Decides x.identifier identifier).0 here in
          let others : none_named identifier items ≡ true = apart_none identifier x items name parts.0 in
          let at : is_at item.stamp identifier x ≡ true = subst (λ (y : ItemState). is_at y.stamp identifier x ≡ true) same (at_own x identifier name) in
          cond-false (not (is_at item.stamp identifier x)) (x ∷ by_place) by_place (ap not at)
          ∙ filter_all (λ (other : ItemState). not (is_at item.stamp identifier other)) items (not_at-all item.stamp identifier items others)
          ∙ sym (filter_all (λ (other : ItemState). not (is_named identifier other)) items others)
          ∙ sym (cond-false (not (is_named identifier x)) (x ∷ by_name) by_name (ap not here))
      | inr other ↦
          let later : find (is_named identifier) items ≡ Some item = sym (cond-false (is_named identifier x) (Some x) (find (is_named identifier) items) other) ∙ h in
          cond-true (not (is_at item.stamp identifier x)) (x ∷ by_place) by_place (not_at item.stamp identifier x (not_from_false _ other))
          ∙ ap (λ ys. x ∷ ys) (without_at-named identifier items item later parts.1)
          ∙ sym (cond-true (not (is_named identifier x)) (x ∷ by_name) by_name (not_from_false _ other))
    ]

-- one item less
pub length-without : (identifier : List ℕ) (items : List ItemState) (item : ItemState) → item_named identifier items ≡ Some item → are_apart items ≡ true
    → length (without identifier items) + 1 ≡ length items
unfolding item_named without
length-without identifier [] item h apart = cc
length-without identifier (x ∷ items) item h apart =
    let parts = and_parts (list_all (is_apart x) items) (are_apart items) apart in
    let by_name : List ItemState = filter (λ other. not (is_named identifier other)) items in
    elim (cases_Bool (is_named identifier x)) [
      | inl here ↦
          let name : x.identifier ≡ identifier = (bytes_eq-Decides x.identifier identifier).0 here in
          let all : by_name ≡ items = filter_all (λ (other : ItemState). not (is_named identifier other)) items (apart_none identifier x items name parts.0) in
          let left = ap length (cond-false (not (is_named identifier x)) (x ∷ by_name) by_name (ap not here) ∙ all) in
          omega (arith, left)
      | inr other ↦
          let later : find (is_named identifier) items ≡ Some item = sym (cond-false (is_named identifier x) (Some x) (find (is_named identifier) items) other) ∙ h in
          let rest = length-without identifier items item later parts.1 in
          let left = ap length (cond-true (not (is_named identifier x)) (x ∷ by_name) by_name (not_from_false _ other)) in
          omega (arith, left, rest)
    ]

-- ---- after a change

-- none of the items but those of the identifier has it
pub none_left : (identifier : List ℕ) (items : List ItemState) → none_named identifier (without identifier items) ≡ true
unfolding without
none_left identifier items = all-filter_same (λ (other : ItemState). not (is_named identifier other)) items

-- what is found once an item is taken out
pub item_named-without : (gone q : List ℕ) (items : List ItemState) → item_named q (without gone items) ≡ cond (bytes_eq gone q) None (item_named q items)
unfolding item_named without
item_named-without gone q [] = by_test (bytes_eq gone q)
  where
    nothing : Option ItemState
    nothing = None

    by_test : (b : Bool) → nothing ≡ cond b nothing nothing
    by_test true = refl
    by_test false = refl
item_named-without gone q (x ∷ items) = elim (cases_Bool (is_named gone x)) [
  | inl here ↦
      let name : x.identifier ≡ gone = (bytes_eq-Decides x.identifier gone).0 here in
      ap (find (is_named q)) (cond-false (not (is_named gone x)) (x ∷ left) left (ap not here)) ∙ item_named-without gone q items ∙ dropped (bytes_eq gone q) (ap (λ i. bytes_eq i q) name)
  | inr other ↦
      ap (find (is_named q)) (cond-true (not (is_named gone x)) (x ∷ left) left (not_from_false _ other))
      ∙ kept (bytes_eq gone q) (is_named q x) (λ a b. both_ways (is_named gone x) other ((bytes_eq-Decides x.identifier gone).1 ((bytes_eq-Decides x.identifier q).0 b ∙ sym ((bytes_eq-Decides gone q).0 a)))) (item_named-without gone q items)
]
  where
    left : List ItemState
    left = filter (λ item. not (is_named gone item)) items

    dropped : (b : Bool) → bytes_eq x.identifier q ≡ b → cond b None (find (is_named q) items) ≡ cond b None (cond (is_named q x) (Some x) (find (is_named q) items))
    dropped true e = refl
    dropped false e = sym (cond-false (is_named q x) (Some x) (find (is_named q) items) e)

    kept : (a b : Bool) → (a ≡ true → b ≡ true → ⊥) → find (is_named q) left ≡ cond a None (find (is_named q) items)
        → cond b (Some x) (find (is_named q) left) ≡ cond a None (cond b (Some x) (find (is_named q) items))
    kept true true apart later = absurd (apart refl refl)
    kept true false apart later = later
    kept false true apart later = refl
    kept false false apart later = later

-- what is found once an item is put among others that have not its identifier
pub item_named-placed : (item : ItemState) (q : List ℕ) (items : List ItemState) → none_named item.identifier items ≡ true
    → item_named q (placed item items) ≡ cond (bytes_eq item.identifier q) (Some item) (item_named q items)
unfolding item_named
item_named-placed item q [] none = ap (find (is_named q)) (placed-nil item)
item_named-placed item q (x ∷ items) none =
    let parts = and_parts (not (is_named item.identifier x)) (none_named item.identifier items) none in
    ap (find (is_named q)) (placed-cons item x items)
    ∙ by_test (precedes item x) (bytes_eq item.identifier q) (is_named q x)
    (λ a b. both_ways (is_named item.identifier x) (not-true _ parts.0) ((bytes_eq-Decides x.identifier item.identifier).1 ((bytes_eq-Decides x.identifier q).0 b ∙ sym ((bytes_eq-Decides item.identifier q).0 a))))
    (item_named-placed item q items parts.1) refl refl
  where
    by_test : (c a b : Bool) → (a ≡ true → b ≡ true → ⊥) → find (is_named q) (placed item items) ≡ cond a (Some item) (find (is_named q) items)
        → bytes_eq item.identifier q ≡ a → is_named q x ≡ b
        → find (is_named q) (cond c (item ∷ x ∷ items) (x ∷ placed item items)) ≡ cond a (Some item) (cond b (Some x) (find (is_named q) items))
    by_test true a b apart later is here = rw (is, here) refl
    by_test false true true apart later is here = absurd (apart refl refl)
    by_test false true false apart later is here = rw here later
    by_test false false true apart later is here = rw here refl
    by_test false false false apart later is here = rw here later

-- an item put in place of the one of its identifier, if there is one
pub item_named-new : (item : ItemState) (q : List ℕ) (items : List ItemState)
    → item_named q (placed item (without item.identifier items)) ≡ cond (bytes_eq item.identifier q) (Some item) (item_named q items)
item_named-new item q items =
    item_named-placed item q (without item.identifier items) (none_left item.identifier items) ∙ ap (cond (bytes_eq item.identifier q) (Some item)) (item_named-without item.identifier q items)
    ∙ twice (bytes_eq item.identifier q)
  where
    twice : (b : Bool) → cond b (Some item) (cond b None (item_named q items)) ≡ cond b (Some item) (item_named q items)
    twice true = refl
    twice false = refl

-- ---- a change by place

-- an item of a new identifier
pub with_item-new : (item : ItemState) (items : List ItemState) → item_named item.identifier items ≡ None → with_item item items ≡ placed item (without item.identifier items)
unfolding with_item
with_item-new item items h = ap (placed item) (without_at-none item.stamp item.identifier items (none_named-from item.identifier items h) ∙ sym (without-none item.identifier items h))

-- an item in place of one of its identifier and datestamp
pub with_item-same : (item old : ItemState) (items : List ItemState) → item_named item.identifier items ≡ Some old → old.stamp ≡ item.stamp → are_apart items ≡ true
    → with_item item items ≡ placed item (without item.identifier items)
unfolding with_item
with_item-same item old items h same apart =
    ap (placed item) (ap (λ (stamp : ℤ). without_at stamp item.identifier items) (sym same) ∙ without_at-named item.identifier items old h apart)

-- an item put in once the one of its identifier is taken out
pub with_item-moved : (item old : ItemState) (items : List ItemState) → item_named item.identifier items ≡ Some old → are_apart items ≡ true
    → with_item item (without_at old.stamp old.identifier items) ≡ placed item (without item.identifier items)
unfolding with_item
with_item-moved item old items h apart =
    let name : old.identifier ≡ item.identifier = found_name item.identifier items old h in
    let out : without_at old.stamp old.identifier items ≡ without item.identifier items =
    ap (λ i. without_at old.stamp i items) name ∙ without_at-named item.identifier items old h apart
    in
    ap (with_item item) out ∙ ap (placed item) (without_at-none item.stamp item.identifier (without item.identifier items) (none_left item.identifier items))
