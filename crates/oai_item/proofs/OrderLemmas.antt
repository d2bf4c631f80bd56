-- The order of items is total, and items stay in order, and apart, when one is taken out and another is put in.
use Rattle.std.proofs.Common.{◌≡◌, ◌↔◌, ◌⊎◌, inl, inr, ◌+◌, ℕ, ℤ, suc, Bool, true, false, not, ◌&&◌, cond, List, [], ◌∷◌, None, Some, refl, sym, ◌∙◌, ap, arith}
use Rattle.std.specs.Prelude.{filter, find}
use Rattle.std.specs.List.{Contains, insert, list_all, position_or_len}
use Rattle.std.specs.Cmp.{IsTotalOrder}
use Rattle.std.specs.Cmp.Lexicographic.{slice_cmp}
use Rattle.std.specs.Ordering.{nat_cmp, int_cmp, int_eq, is_lt, is_gt, is_eq, ordering_then, ordering_reverse}
use Rattle.std.specs.declared.cmp.Ordering.{Ordering}
use Rattle.std.specs.declared.cmp.Ordering.TheVariants.{Less, Equal, Greater}
use Rattle.std.proofs.lemmas.Bool.{and_from, and_parts, and_right, cases_Bool, cond_both, not-true, not_from_false}
use Rattle.std.proofs.lemmas.Cmp.{on_total, then_total, int_cmp_total, nat_list_cmp_total, nat_list_eq_equiv, tied_itself}
use Rattle.std.proofs.lemmas.Map.Text.{is_eq-slice_cmp}
use Rattle.oai_names.proofs.Lists.{all-filter, all-filter_same, all-weaker}
use Rattle.oai_item.specs.Item.{ItemState}
use Rattle.oai_item.specs.Items.{is_named, is_apart, are_apart, is_at, item_at, without, without_at, placed, with_item}
use Rattle.oai_item.specs.Order.{place_cmp, item_cmp, precedes, are_in_order}
use Rattle.oai_item.proofs.Members.{Member, Member-filter, contains_from, member_from}

-- ---- the order

pub total : IsTotalOrder item_cmp
total = then_total (on_total (λ (item : ItemState). item.stamp) int_cmp_total) (on_total (λ (item : ItemState). item.identifier) nat_list_cmp_total)

pub is_less : (o : Ordering) → is_lt o ≡ true → o ≡ Less
is_less Less h = refl
is_less Equal h = cc
is_less Greater h = cc

pub is_equal : (o : Ordering) → is_eq o ≡ true → o ≡ Equal
is_equal Less h = cc
is_equal Equal h = refl
is_equal Greater h = cc

gt_reverse : (o : Ordering) → is_gt (ordering_reverse o) ≡ is_lt o
gt_reverse Less = refl
gt_reverse Equal = refl
gt_reverse Greater = refl

pub precedes-trans : (a b c : ItemState) → precedes a b ≡ true → precedes b c ≡ true → precedes a c ≡ true
precedes-trans a b c h g = ap is_lt (total.trans a b c (is_less (item_cmp a b) h) (is_less (item_cmp b c) g))

pub precedes-itself : (a : ItemState) → precedes a a ≡ false
precedes-itself a = ap is_lt (tied_itself total a)

-- an item stands behind another exactly where that one precedes it
pub behind-precedes : (a b : ItemState) → is_gt (item_cmp a b) ≡ precedes b a
behind-precedes a b = ap is_gt (total.antisymm a b) ∙ gt_reverse (item_cmp b a)

eq_then : (o p : Ordering) → is_eq (ordering_then o p) ≡ (is_eq o && is_eq p)
eq_then Less p = refl
eq_then Equal p = refl
eq_then Greater p = refl

-- an item has that datestamp and identifier exactly where it stands at them
pub is_at-Equal : (stamp : ℤ) (identifier : List ℕ) (item : ItemState) → is_at stamp identifier item ≡ is_eq (place_cmp item stamp identifier)
is_at-Equal stamp identifier item =
    sym (eq_then (int_cmp item.stamp stamp) (slice_cmp nat_cmp item.identifier identifier) ∙ ap (λ b. int_eq item.stamp stamp && b) (is_eq-slice_cmp item.identifier identifier))

lt_not_eq : (o : Ordering) → is_lt o ≡ true → is_eq o ≡ false
lt_not_eq Less h = refl
lt_not_eq Equal h = cc
lt_not_eq Greater h = cc

gt_not_eq : (o : Ordering) → is_gt o ≡ true → is_eq o ≡ false
gt_not_eq Less h = cc
gt_not_eq Equal h = cc
gt_not_eq Greater h = refl

gt_not_lt : (o : Ordering) → is_lt o ≡ true → is_gt o ≡ false
gt_not_lt Less h = refl
gt_not_lt Equal h = cc
gt_not_lt Greater h = cc

eq_not_gt : (o : Ordering) → o ≡ Equal → is_gt o ≡ false
eq_not_gt o e = ap is_gt e

pub not_above-below : (stamp : ℤ) (identifier : List ℕ) (item : ItemState) → is_lt (place_cmp item stamp identifier) ≡ true → is_gt (place_cmp item stamp identifier) ≡ false
not_above-below stamp identifier item h = gt_not_lt (place_cmp item stamp identifier) h

pub not_above-at : (stamp : ℤ) (identifier : List ℕ) (item : ItemState) → place_cmp item stamp identifier ≡ Equal → is_gt (place_cmp item stamp identifier) ≡ false
not_above-at stamp identifier item e = eq_not_gt (place_cmp item stamp identifier) e

pub not_at-below : (stamp : ℤ) (identifier : List ℕ) (item : ItemState) → is_lt (place_cmp item stamp identifier) ≡ true → is_at stamp identifier item ≡ false
not_at-below stamp identifier item h = is_at-Equal stamp identifier item ∙ lt_not_eq (place_cmp item stamp identifier) h

pub not_at-above : (stamp : ℤ) (identifier : List ℕ) (item : ItemState) → is_gt (place_cmp item stamp identifier) ≡ true → is_at stamp identifier item ≡ false
not_at-above stamp identifier item h = is_at-Equal stamp identifier item ∙ gt_not_eq (place_cmp item stamp identifier) h

pub not_precedes-above : (a b : ItemState) → precedes a b ≡ true → precedes b a ≡ false
not_precedes-above a b h = sym (behind-precedes a b) ∙ gt_not_lt (item_cmp a b) h

-- where the first neither precedes the second nor stands at its place, the second precedes the first
turned : (o p : Ordering) → p ≡ ordering_reverse o → is_lt o ≡ false → is_eq p ≡ false → is_lt p ≡ true
turned Less p e h g = cc
turned Equal p e h g = cc
turned Greater p e h g = ap is_lt e

pub precedes-turned : (a b : ItemState) → precedes a b ≡ false → is_at a.stamp a.identifier b ≡ false → precedes b a ≡ true
precedes-turned a b h g =
    turned (item_cmp a b) (item_cmp b a) (total.antisymm b a) h (sym (is_at-Equal a.stamp a.identifier b) ∙ g)

-- ---- what holds of each item, after an item is taken out or put in

insert-suc : (x : ItemState) (items : List ItemState) (n : ℕ) (item : ItemState) → insert (x ∷ items) (1 + n) item ≡ x ∷ insert items n item
insert-suc x items n item = let e : 1 + n ≡ suc n = omega arith in rw e refl

placed_at : (x : ItemState) (items : List ItemState) (n : ℕ) (item : ItemState) (test : Bool) → insert (x ∷ items) (cond (not test) (1 + n) 0) item ≡ cond test (item ∷ x ∷ items) (x ∷ insert items n item)
placed_at x items n item true = refl
placed_at x items n item false = insert-suc x items n item

-- an item is put before the first that it precedes
pub placed-cons : (item x : ItemState) (items : List ItemState) → placed item (x ∷ items) ≡ cond (precedes item x) (item ∷ x ∷ items) (x ∷ placed item items)
unfolding placed
placed-cons item x items = placed_at x items (position_or_len (precedes item) items) item (precedes item x)

pub placed-nil : (item : ItemState) → placed item [] ≡ item ∷ []
unfolding placed
placed-nil item = refl

pub all-placed : (p : ItemState → Bool) (item : ItemState) (items : List ItemState) → p item ≡ true → list_all p items ≡ true → list_all p (placed item items) ≡ true
all-placed p item [] h g = rw placed-nil (and_from (p item) true h refl)
all-placed p item (x ∷ items) h g =
    let parts = and_parts (p x) (list_all p items) g in
    rw placed-cons (cond_both (precedes item x) (item ∷ x ∷ items) (x ∷ placed item items) (λ ys. list_all p ys ≡ true)
    (λ _. and_from (p item) (list_all p (x ∷ items)) h g)
    (λ _. and_from (p x) (list_all p (placed item items)) parts.0 (all-placed p item items h parts.1)))

-- ---- taking out

pub in_order-filter : (q : ItemState → Bool) (items : List ItemState) → are_in_order items ≡ true → are_in_order (filter q items) ≡ true
in_order-filter q [] h = refl
in_order-filter q (x ∷ items) h =
    let parts = and_parts (list_all (precedes x) items) (are_in_order items) h in
    let rest = in_order-filter q items parts.1 in
    cond_both (q x) (x ∷ filter q items) (filter q items) (λ ys. are_in_order ys ≡ true)
    (λ _. and_from (list_all (precedes x) (filter q items)) (are_in_order (filter q items)) (all-filter (precedes x) q items parts.0) rest)
    (λ _. rest)

pub apart-filter : (q : ItemState → Bool) (items : List ItemState) → are_apart items ≡ true → are_apart (filter q items) ≡ true
apart-filter q [] h = refl
apart-filter q (x ∷ items) h =
    let parts = and_parts (list_all (is_apart x) items) (are_apart items) h in
    let rest = apart-filter q items parts.1 in
    cond_both (q x) (x ∷ filter q items) (filter q items) (λ ys. are_apart ys ≡ true)
    (λ _. and_from (list_all (is_apart x) (filter q items)) (are_apart (filter q items)) (all-filter (is_apart x) q items parts.0) rest)
    (λ _. rest)

-- ---- putting in

-- no item stands at the place of that one
abbrev pub none_at : ItemState → List ItemState → Bool
none_at item items = list_all (λ other. not (is_at item.stamp item.identifier other)) items

pub in_order-placed : (item : ItemState) (items : List ItemState) → are_in_order items ≡ true → none_at item items ≡ true → are_in_order (placed item items) ≡ true
in_order-placed item [] h free = rw placed-nil refl
in_order-placed item (x ∷ items) h free =
    let parts = and_parts (list_all (precedes x) items) (are_in_order items) h in
    let others = and_parts (not (is_at item.stamp item.identifier x)) (none_at item items) free in
    rw placed-cons (cond_both (precedes item x) (item ∷ x ∷ items) (x ∷ placed item items) (λ ys. are_in_order ys ≡ true)
    (λ before. and_from (list_all (precedes item) (x ∷ items)) (are_in_order (x ∷ items))
    (and_from (precedes item x) (list_all (precedes item) items) before (all-weaker (precedes x) (precedes item) (λ y later. precedes-trans item x y before later) items parts.0))
    h)
    (λ behind. and_from (list_all (precedes x) (placed item items)) (are_in_order (placed item items))
    (all-placed (precedes x) item items (precedes-turned item x behind (not-true _ others.0)) parts.0)
    (in_order-placed item items parts.1 others.1)))

-- the first has another identifier than the second exactly where the second has another than the first
is_apart-back : (a b : ItemState) → is_apart a b ≡ true → is_apart b a ≡ true
is_apart-back a b h = ap not (nat_list_eq_equiv.symm a.identifier b.identifier) ∙ h

pub apart-placed : (item : ItemState) (items : List ItemState) → are_apart items ≡ true → list_all (is_apart item) items ≡ true → are_apart (placed item items) ≡ true
apart-placed item [] h apart = rw placed-nil refl
apart-placed item (x ∷ items) h apart =
    let parts = and_parts (list_all (is_apart x) items) (are_apart items) h in
    let others = and_parts (is_apart item x) (list_all (is_apart item) items) apart in
    rw placed-cons (cond_both (precedes item x) (item ∷ x ∷ items) (x ∷ placed item items) (λ ys. are_apart ys ≡ true)
    (λ _. and_from (list_all (is_apart item) (x ∷ items)) (are_apart (x ∷ items)) apart h)
    (λ _. and_from (list_all (is_apart x) (placed item items)) (are_apart (placed item items))
    (all-placed (is_apart x) item items (is_apart-back item x others.0) parts.0)
    (apart-placed item items parts.1 others.1)))

-- ---- both

-- an item of another identifier stands at another place
not_at-apart : (item other : ItemState) → is_apart item other ≡ true → not (is_at item.stamp item.identifier other) ≡ true
not_at-apart item other h = not_from_false _ (and_right (int_eq other.stamp item.stamp) (is_named item.identifier other) (not-true _ h))

-- the items but those of the identifier, and the item, are in order
pub in_order-changed : (item : ItemState) (items : List ItemState) → are_in_order items ≡ true → are_in_order (placed item (without item.identifier items)) ≡ true
unfolding without
in_order-changed item items h =
    let q : ItemState → Bool = λ other. not (is_named item.identifier other) in
    in_order-placed item (filter q items) (in_order-filter q items h) (all-weaker (is_apart item) (λ other. not (is_at item.stamp item.identifier other)) (λ other. not_at-apart item other) (filter q items) (all-filter_same q items))

-- and no two have one identifier
pub apart-changed : (item : ItemState) (items : List ItemState) → are_apart items ≡ true → are_apart (placed item (without item.identifier items)) ≡ true
unfolding without
apart-changed item items h =
    let q : ItemState → Bool = λ other. not (is_named item.identifier other) in
    apart-placed item (filter q items) (apart-filter q items h) (all-filter_same q items)

-- the items but those of the datestamp and identifier, and the item, are in order
pub in_order-with_item : (item : ItemState) (items : List ItemState) → are_in_order items ≡ true → are_in_order (with_item item items) ≡ true
unfolding with_item without_at
in_order-with_item item items h =
    let q : ItemState → Bool = λ other. not (is_at item.stamp item.identifier other) in
    in_order-placed item (filter q items) (in_order-filter q items h) (all-filter_same q items)

pub in_order-without_at : (stamp : ℤ) (identifier : List ℕ) (items : List ItemState) → are_in_order items ≡ true → are_in_order (without_at stamp identifier items) ≡ true
unfolding without_at
in_order-without_at stamp identifier items h = in_order-filter (λ item. not (is_at stamp identifier item)) items h

-- ---- what is found

none_found : (p : ItemState → Bool) (items : List ItemState) → find p items ≡ None → list_all (λ item. not (p item)) items ≡ true
none_found p [] h = refl
none_found p (x ∷ items) h =
    elim (cases_Bool (p x)) [
      | inl passes ↦ let found : cond (p x) (Some x) (find p items) ≡ Some x = rw passes refl in cc
      | inr fails ↦
          let later : cond (p x) (Some x) (find p items) ≡ find p items = rw fails refl in
          and_from (not (p x)) _ (not_from_false (p x) fails) (none_found p items (sym later ∙ h))
    ]

-- no item is found at the place
pub none_at-from : (item : ItemState) (items : List ItemState) → item_at item.stamp item.identifier items ≡ None → none_at item items ≡ true
unfolding item_at
none_at-from item items h = none_found (is_at item.stamp item.identifier) items h

-- ---- members

member_put : (item : ItemState) (items : List ItemState) (other : ItemState) → Member other (placed item items) ↔ ((other ≡ item) ⊎ Member other items)
member_put item [] other = rw placed-nil (λ h. h, λ h. h)
member_put item (x ∷ items) other =
    rw placed-cons (cond_both (precedes item x) (item ∷ x ∷ items) (x ∷ placed item items) (λ ys. Member other ys ↔ ((other ≡ item) ⊎ Member other (x ∷ items)))
    (λ _. (λ h. h, λ h. h))
    (λ _. (
      (λ h. elim h [
        | inl here ↦ inr (inl here)
        | inr later ↦ elim ((member_put item items other).0 later) [ inl new ↦ inl new | inr old ↦ inr (inr old) ]
      ]),
      (λ h. elim h [
        | inl new ↦ inr ((member_put item items other).1 (inl new))
        | inr old ↦ elim old [ inl here ↦ inl here | inr later ↦ inr ((member_put item items other).1 (inr later)) ]
      ]),
    )))

-- the members are the new item and the old ones
pub contains_placed : (item : ItemState) (items : List ItemState) (other : ItemState) → Contains (placed item items) other ↔ ((other ≡ item) ⊎ Contains items other)
contains_placed item items other = (
  (λ h. elim ((member_put item items other).0 (member_from (placed item items) other h)) [ inl new ↦ inl new | inr old ↦ inr (contains_from items other old) ]),
  (λ h. contains_from (placed item items) other ((member_put item items other).1 (elim h [ inl new ↦ inl new | inr old ↦ inr (member_from items other old) ]))),
)

-- and of the items but those of a datestamp and identifier they are the others
pub contains_without_at : (stamp : ℤ) (identifier : List ℕ) (items : List ItemState) (other : ItemState)
    → Contains (without_at stamp identifier items) other ↔ (Contains items other × (is_at stamp identifier other ≡ false))
unfolding without_at
contains_without_at stamp identifier items other =
    let q : ItemState → Bool = λ item. not (is_at stamp identifier item) in
    let kept = Member-filter q items other in (
      (λ h. let found = kept.0 (member_from (filter q items) other h) in (contains_from items other found.0, not-true (is_at stamp identifier other) found.1)),
      (λ h. contains_from (filter q items) other (kept.1 (member_from items other h.0, not_from_false (is_at stamp identifier other) h.1))),
    )
