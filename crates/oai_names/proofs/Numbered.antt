-- Things whose numbers rise: where the one of a number is.
use Rattle.std.proofs.Common.{◌≡◌, ◌∙◌, ℕ, suc, zero, ◌+◌, ◌<◌, ◌≤◌, inl, inr, Bool, true, false, not, cond, eqb, List, [], ◌∷◌, ◌++◌, None, Some, Ok, Err, length, take, drop, get_or, refl, sym, ap, arith, add-one}
use Rattle.std.specs.Prelude.{find, nat_lt}
use Rattle.std.specs.List.{AllWithin, HoldsAt, list_all}
use Rattle.std.specs.List.Sorted.{IsBinarySearchResult, IsNonDecreasingBy}
use Rattle.std.specs.Ordering.{is_lt, nat_cmp, ordering_index}
use Rattle.std.specs.declared.cmp.Ordering.TheVariants.{Less, Equal, Greater}
use Rattle.std.proofs.lemmas.Bool.{and_from, and_parts, cond-true, cond-false, cases_Bool, eq-eqb, eqb-true, le-ltb, ltb-true, ne_eqb, not_from_false}
use Rattle.std.proofs.lemmas.Cmp.{nat_cmp_total}
use Rattle.std.proofs.lemmas.List.{get_or-drop, get_or-take, length-drop, length-take-le, take-append-drop}
use Rattle.std.proofs.lemmas.List.Folds.{list_all-append}
use Rattle.std.proofs.lemmas.List.Sorted.{searchable_from_sorted}
use Rattle.std.proofs.lemmas.List.Sums.{list_all-from_AllPass}
use Rattle.oai_names.specs.Numbered.{IsPlaceOf, has_number, is_lower, none_has, numbers_rise}
use Rattle.oai_names.proofs.Lists.{all-weaker, cut, find_none, find_past}

-- ---- the thing of a number

pub found-placed : {A : Type 0} (number_of : A → ℕ) (number : ℕ) (xs : List A) (at : ℕ) (d : A) → IsPlaceOf number_of number xs (Some at) → find (has_number number_of number) xs ≡ Some (get_or xs at d)
found-placed number_of number xs at d placed =
    let x = get_or xs at d in
    ap (find (has_number number_of number)) (cut xs at d placed.0)
    ∙ find_past (has_number number_of number) (take at xs) (x ∷ drop (at + 1) xs) placed.2
    ∙ cond-true (has_number number_of number x) (Some x) (find (has_number number_of number) (drop (at + 1) xs)) (placed.1 d)

pub found-none : {A : Type 0} (number_of : A → ℕ) (number : ℕ) (xs : List A) → none_has number_of number xs → find (has_number number_of number) xs ≡ None
found-none number_of number xs h = find_none (has_number number_of number) xs h

-- ---- two lists of things, one after the other

pub rise-append : {A : Type 0} (number_of : A → ℕ) (a b : List A) → numbers_rise number_of (a ++ b) ≡ true
    → (numbers_rise number_of a ≡ true) × (numbers_rise number_of b ≡ true) × (list_all (λ x. list_all (is_lower number_of x) b) a ≡ true)
rise-append number_of [] b h = (refl, h, refl)
rise-append number_of (x ∷ a) b h =
    let parts = and_parts (list_all (is_lower number_of x) (a ++ b)) (numbers_rise number_of (a ++ b)) h in
    let here = and_parts (list_all (is_lower number_of x) a) (list_all (is_lower number_of x) b) (sym (list_all-append (is_lower number_of x) a b) ∙ parts.0) in
    let rest = rise-append number_of a b parts.1 in
    (and_from (list_all (is_lower number_of x) a) (numbers_rise number_of a) here.0 rest.0, rest.1, and_from (list_all (is_lower number_of x) b) (list_all (λ y. list_all (is_lower number_of y) b) a) here.1 rest.2)

pub rise-join : {A : Type 0} (number_of : A → ℕ) (a b : List A) → numbers_rise number_of a ≡ true → numbers_rise number_of b ≡ true → list_all (λ x. list_all (is_lower number_of x) b) a ≡ true
    → numbers_rise number_of (a ++ b) ≡ true
rise-join number_of [] b h g before = g
rise-join number_of (x ∷ a) b h g before =
    let parts = and_parts (list_all (is_lower number_of x) a) (numbers_rise number_of a) h in
    let ahead = and_parts (list_all (is_lower number_of x) b) (list_all (λ y. list_all (is_lower number_of y) b) a) before in
    and_from (list_all (is_lower number_of x) (a ++ b)) (numbers_rise number_of (a ++ b)) (list_all-append (is_lower number_of x) a b ∙ and_from (list_all (is_lower number_of x) a) (list_all (is_lower number_of x) b) parts.0 ahead.0) (rise-join number_of a b parts.1 g ahead.1)

-- ---- a search by halves

-- a number that stands at a place stands nowhere else
placed_at : {A : Type 0} (number_of : A → ℕ) (number : ℕ) (xs : List A) (at : ℕ) (d : A) → numbers_rise number_of xs ≡ true → at < length xs
    → HoldsAt (λ x. has_number number_of number x ≡ true) xs at → IsPlaceOf number_of number xs (Some at)
placed_at number_of number xs at d h within here =
    let x = get_or xs at d in
    let same : number_of x ≡ number = eqb-true (number_of x) number (here d) in
    let parts = rise-append number_of (take at xs) (x ∷ drop (at + 1) xs) (ap (numbers_rise number_of) (sym (cut xs at d within)) ∙ h) in
    let later = and_parts (list_all (is_lower number_of x) (drop (at + 1) xs)) (numbers_rise number_of (drop (at + 1) xs)) parts.1 in (
      within,
      here,
      all-weaker (λ y. list_all (is_lower number_of y) (x ∷ drop (at + 1) xs)) (λ y. not (has_number number_of number y))
          (λ y ahead. not_from_false _ (ne_eqb (number_of y) number (λ e. absurd (omega (arith, e, same, ltb-true (number_of y) (number_of x) (and_parts (is_lower number_of y x) (list_all (is_lower number_of y) (drop (at + 1) xs)) ahead).0)))))
          (take at xs) parts.2,
      all-weaker (is_lower number_of x) (λ y. not (has_number number_of number y))
          (λ y after. not_from_false _ (ne_eqb (number_of y) number (λ e. absurd (omega (arith, e, same, ltb-true (number_of x) (number_of y) after)))))
          (drop (at + 1) xs) later.0,
    )

above : (a b : ℕ) → b < a → is_lt (nat_cmp a b) ≡ false
above a b h =
    ap is_lt (cond-false (nat_lt a b) Less (cond (eqb a b) Equal Greater) (le-ltb a b (omega arith)) ∙ cond-false (eqb a b) Equal Greater (ne_eqb a b (λ e. absurd (omega (arith, e)))))

itself : (a : ℕ) → nat_cmp a a ≡ Equal
itself a = cond-false (nat_lt a a) Less (cond (eqb a a) Equal Greater) (le-ltb a a (omega arith)) ∙ cond-true (eqb a a) Equal Greater (eq-eqb a a refl)

differ : Equal ≡ Less → ⊥
differ e = cc

differ_too : Equal ≡ Greater → ⊥
differ_too e = cc

equal_number : (a b : ℕ) → nat_cmp a b ≡ Equal → eqb a b ≡ true
equal_number a b h = elim (cases_Bool (nat_lt a b)) [
  | inl less ↦ let e : nat_cmp a b ≡ Less = cond-true (nat_lt a b) Less (cond (eqb a b) Equal Greater) less in cc
  | inr least ↦ elim (cases_Bool (eqb a b)) [
    | inl same ↦ same
    | inr other ↦ let e : nat_cmp a b ≡ Greater = cond-false (nat_lt a b) Less (cond (eqb a b) Equal Greater) least ∙ cond-false (eqb a b) Equal Greater other in cc
  ]
]

less_number : (a b : ℕ) → nat_cmp a b ≡ Less → eqb a b ≡ false
less_number a b h = ne_eqb a b (λ e. let same : nat_cmp a a ≡ Less = ap (nat_cmp a) e ∙ h in let own : nat_cmp a a ≡ Equal = itself a in absurd (differ (sym own ∙ same)))

greater_number : (a b : ℕ) → nat_cmp a b ≡ Greater → eqb a b ≡ false
greater_number a b h = ne_eqb a b (λ e. let same : nat_cmp a a ≡ Greater = ap (nat_cmp a) e ∙ h in let own : nat_cmp a a ≡ Equal = itself a in absurd (differ_too (sym own ∙ same)))

not_falling : {A : Type 0} (number_of : A → ℕ) (xs : List A) (k : ℕ) (d : A) → numbers_rise number_of xs ≡ true → suc k < length xs
    → is_lt (nat_cmp (number_of (get_or xs (suc k) d)) (number_of (get_or xs k d))) ≡ false
not_falling number_of [] k d h within = absurd (omega arith)
not_falling number_of (x ∷ []) k d h within = absurd (omega arith)
not_falling number_of (x ∷ y ∷ xs) zero d h within =
    let parts = and_parts (list_all (is_lower number_of x) (y ∷ xs)) (numbers_rise number_of (y ∷ xs)) h in
    let less : number_of x < number_of y = ltb-true (number_of x) (number_of y) (and_parts (is_lower number_of x y) (list_all (is_lower number_of x) xs) parts.0).0 in
    above (number_of y) (number_of x) less
not_falling number_of (x ∷ y ∷ xs) (suc k) d h within =
    let parts = and_parts (list_all (is_lower number_of x) (y ∷ xs)) (numbers_rise number_of (y ∷ xs)) h in
    not_falling number_of (y ∷ xs) k d parts.1 (omega arith)

searchable : {A : Type 0} (number_of : A → ℕ) (number : ℕ) (xs : List A) → numbers_rise number_of xs ≡ true → IsNonDecreasingBy (λ x. ordering_index (nat_cmp (number_of x) number)) xs
searchable number_of number xs h =
    searchable_from_sorted nat_cmp_total number_of xs number (λ k d low within. rw add-one (not_falling number_of xs k d h (omega arith)))

-- the part in front of a place, and that from it on
less_front : {A : Type 0} (number_of : A → ℕ) (number : ℕ) (xs : List A) (at : ℕ) → at ≤ length xs → AllWithin (λ x. nat_cmp (number_of x) number ≡ Less) xs 0 at → none_has number_of number (take at xs)
less_front {A} number_of number xs at within h =
    let p : A → Bool = λ x. not (has_number number_of number x) in
    list_all-from_AllPass p (take at xs)
    (λ k d below.
    let inside : k < at = omega (arith, length-take-le at xs within) in
    ap p (get_or-take at xs k d inside) ∙ not_from_false _ (less_number (number_of (get_or xs k d)) number (h k d (omega arith) inside)))

greater_back : {A : Type 0} (number_of : A → ℕ) (number : ℕ) (xs : List A) (at : ℕ) → at ≤ length xs → AllWithin (λ x. nat_cmp (number_of x) number ≡ Greater) xs at (length xs)
    → none_has number_of number (drop at xs)
greater_back {A} number_of number xs at within h =
    let p : A → Bool = λ x. not (has_number number_of number x) in
    list_all-from_AllPass p (drop at xs)
    (λ k d below.
    let inside : at + k < length xs = omega (arith, length-drop at xs) in
    ap p (get_or-drop at xs k d) ∙ not_from_false _ (greater_number (number_of (get_or xs (at + k) d)) number (h (at + k) d (omega arith) inside)))

-- what a search by halves answers
pub found_at : {A : Type 0} (number_of : A → ℕ) (number : ℕ) (xs : List A) (at : ℕ) → numbers_rise number_of xs ≡ true → at < length xs
    → IsBinarySearchResult (λ x. nat_cmp (number_of x) number) xs (Ok at) → IsPlaceOf number_of number xs (Some at)
found_at number_of number [] at h within here = absurd (omega arith)
found_at number_of number (x ∷ xs) at h within here = placed_at number_of number (x ∷ xs) at x h within (λ d. equal_number (number_of (get_or (x ∷ xs) at d)) number (here d))

pub found_none : {A : Type 0} (number_of : A → ℕ) (number : ℕ) (xs : List A) (at : ℕ) → numbers_rise number_of xs ≡ true → at ≤ length xs
    → IsBinarySearchResult (λ x. nat_cmp (number_of x) number) xs (Err at) → none_has number_of number xs
found_none {A} number_of number xs at h within parted =
    let point = parted (searchable number_of number xs h) in
    let p : A → Bool = λ x. not (has_number number_of number x) in
    ap (list_all p) (sym (take-append-drop at xs)) ∙ list_all-append p (take at xs) (drop at xs)
    ∙ and_from (list_all p (take at xs)) (list_all p (drop at xs)) (less_front number_of number xs at within point.0) (greater_back number_of number xs at within point.1)
