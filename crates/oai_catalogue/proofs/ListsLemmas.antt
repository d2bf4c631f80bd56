-- Lists put under a number, and taken away.
use Rattle.std.proofs.Common.{◌≡◌, ◌≢◌, ◌∙◌, inl, inr, ℕ, true, false, eqb, cond, List, [], Option, None, Some, IsSome, unwrap_or, refl, sym, ap, subst}
use Rattle.std.proofs.lemmas.Bool.{cases_Bool, cond-true, cond-false, cond_both, eq-eqb, eqb-true, ne_eqb}
use Rattle.oai_item.specs.Item.{ItemState}
use Rattle.oai_catalogue.specs.Store.{VersionLists, list_at, with_list, without_list}

-- two maps that agree at each number are one
pub same_lists : (a b : VersionLists) → ((n : ℕ) → a n ≡ b n) → a ≡ b
same_lists a b h = λ i n. h n i

itself : (n : ℕ) → eqb n n ≡ true
itself n = eq-eqb n n refl

some_own : (o : Option (List ItemState)) → IsSome o → Some (unwrap_or o []) ≡ o
some_own None h = cc
some_own (Some items) h = refl

-- the list that stands under a number is under it
pub with_own : (v : ℕ) (lists : VersionLists) → IsSome (lists v) → with_list v (list_at lists v) lists ≡ lists
with_own v lists stands =
    same_lists (with_list v (list_at lists v) lists) lists
    (λ n. cond_both (eqb n v) (Some (list_at lists v)) (lists n) (λ o. o ≡ lists n) (λ same. some_own (lists v) stands ∙ ap lists (sym (eqb-true n v same))) (λ _. refl))

pub with_twice : (v : ℕ) (a b : List ItemState) (lists : VersionLists) → with_list v a (with_list v b lists) ≡ with_list v a lists
with_twice v a b lists =
    same_lists (with_list v a (with_list v b lists)) (with_list v a lists)
    (λ n. elim (cases_Bool (eqb n v)) [
      | inl same ↦ cond-true (eqb n v) (Some a) (with_list v b lists n) same ∙ sym (cond-true (eqb n v) (Some a) (lists n) same)
      | inr other ↦ ap (cond (eqb n v) (Some a)) (cond-false (eqb n v) (Some b) (lists n) other)
    ])

-- a list under a number that was not in use, taken away again
pub without_with : (v : ℕ) (items : List ItemState) (lists : VersionLists) → lists v ≡ None → without_list v (with_list v items lists) ≡ lists
without_with v items lists unused =
    same_lists (without_list v (with_list v items lists)) lists
    (λ n. cond_both (eqb n v) None (with_list v items lists n) (λ o. o ≡ lists n)
    (λ same. sym unused ∙ ap lists (sym (eqb-true n v same)))
    (λ other. cond-false (eqb n v) (Some items) (lists n) other))

pub list_at-with : (v : ℕ) (items : List ItemState) (lists : VersionLists) → list_at (with_list v items lists) v ≡ items
list_at-with v items lists = ap (λ o. unwrap_or o []) (cond-true (eqb v v) (Some items) (lists v) (itself v))

pub stands-with : (v : ℕ) (items : List ItemState) (lists : VersionLists) → IsSome (with_list v items lists v)
stands-with v items lists = subst IsSome (sym (cond-true (eqb v v) (Some items) (lists v) (itself v))) refl

pub at_other : (v w : ℕ) (items : List ItemState) (lists : VersionLists) → v ≢ w → with_list w items lists v ≡ lists v
at_other v w items lists apart = cond-false (eqb v w) (Some items) (lists v) (ne_eqb v w apart)

none_some : (o : Option (List ItemState)) → IsSome o → o ≡ None → ⊥
none_some None h e = cc
none_some (Some items) h e = cc

-- a number that is in use, and one that is not
pub numbers_apart : (v w : ℕ) (lists : VersionLists) → IsSome (lists v) → lists w ≡ None → v ≢ w
numbers_apart v w lists stands unused same = none_some (lists v) stands (ap lists same ∙ unused)

-- one number taken away beside another
pub without_beside : (v w : ℕ) (items : List ItemState) (lists : VersionLists) → v ≢ w → without_list v (with_list w items lists) ≡ with_list w items (without_list v lists)
without_beside v w items lists apart =
    same_lists (without_list v (with_list w items lists)) (with_list w items (without_list v lists))
    (λ n. elim (cases_Bool (eqb n v)) [
      | inl here ↦
          let other : eqb n w ≡ false = ne_eqb n w (λ same. apart (sym (eqb-true n v here) ∙ same)) in
          cond-true (eqb n v) None (with_list w items lists n) here
          ∙ sym (cond-true (eqb n v) None (lists n) here)
          ∙ sym (cond-false (eqb n w) (Some items) (without_list v lists n) other)
      | inr there ↦
          cond-false (eqb n v) None (with_list w items lists n) there
          ∙ ap (cond (eqb n w) (Some items)) (sym (cond-false (eqb n v) None (lists n) there))
    ])
