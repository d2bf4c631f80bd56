-- Lists of anything: tests that all pass or that all fail, the first that passes, and a list cut at a place.
use Rattle.std.proofs.Common.{◌≡◌, ◌∙◌, ℕ, ◌+◌, ◌<◌, Bool, true, not, cond, List, [], ◌∷◌, ◌++◌, None, Some, length, take, drop, set, get_or, refl, sym, ap, add-one, drop-cons}
use Rattle.std.specs.Prelude.{filter, find}
use Rattle.std.specs.List.{list_all}
use Rattle.std.proofs.lemmas.Bool.{and_from, and_parts, cond-true, cond-false, cond_both, not-true}
use Rattle.std.proofs.lemmas.List.{drop-set, take-append-drop, take-set}

-- ---- tests that all pass

pub all-weaker : {A : Type 0} (p q : A → Bool) → ((x : A) → p x ≡ true → q x ≡ true) → (xs : List A) → list_all p xs ≡ true → list_all q xs ≡ true
all-weaker p q weaker [] h = refl
all-weaker p q weaker (x ∷ xs) h =
    let parts = and_parts (p x) (list_all p xs) h in
    and_from (q x) (list_all q xs) (weaker x parts.0) (all-weaker p q weaker xs parts.1)

pub all-filter : {A : Type 0} (p q : A → Bool) (xs : List A) → list_all p xs ≡ true → list_all p (filter q xs) ≡ true
all-filter p q [] h = refl
all-filter p q (x ∷ xs) h =
    let parts = and_parts (p x) (list_all p xs) h in
    let rest = all-filter p q xs parts.1 in
    cond_both (q x) (x ∷ filter q xs) (filter q xs) (λ ys. list_all p ys ≡ true) (λ _. and_from (p x) (list_all p (filter q xs)) parts.0 rest) (λ _. rest)

-- what a filter keeps passes
pub all-filter_same : {A : Type 0} (q : A → Bool) (xs : List A) → list_all q (filter q xs) ≡ true
all-filter_same q [] = refl
all-filter_same q (x ∷ xs) =
    let rest = all-filter_same q xs in
    cond_both (q x) (x ∷ filter q xs) (filter q xs) (λ ys. list_all q ys ≡ true) (λ passes. and_from (q x) (list_all q (filter q xs)) passes rest) (λ _. rest)

-- a filter that all pass keeps all
pub filter_all : {A : Type 0} (p : A → Bool) (xs : List A) → list_all p xs ≡ true → filter p xs ≡ xs
filter_all p [] h = refl
filter_all p (x ∷ xs) h =
    let parts = and_parts (p x) (list_all p xs) h in
    cond-true (p x) (x ∷ filter p xs) (filter p xs) parts.0 ∙ ap (λ ys. x ∷ ys) (filter_all p xs parts.1)

-- a filter that none passes keeps none
pub filter_none : {A : Type 0} (p : A → Bool) (xs : List A) → list_all (λ x. not (p x)) xs ≡ true → filter p xs ≡ []
filter_none p [] h = refl
filter_none p (x ∷ xs) h =
    let parts = and_parts (not (p x)) (list_all (λ y. not (p y)) xs) h in
    cond-false (p x) (x ∷ filter p xs) (filter p xs) (not-true (p x) parts.0) ∙ filter_none p xs parts.1

-- ---- the first that passes

pub find_none : {A : Type 0} (p : A → Bool) (xs : List A) → list_all (λ x. not (p x)) xs ≡ true → find p xs ≡ None
find_none p [] h = refl
find_none p (x ∷ xs) h =
    let parts = and_parts (not (p x)) (list_all (λ y. not (p y)) xs) h in
    cond-false (p x) (Some x) (find p xs) (not-true (p x) parts.0) ∙ find_none p xs parts.1

pub find_past : {A : Type 0} (p : A → Bool) (front xs : List A) → list_all (λ x. not (p x)) front ≡ true → find p (front ++ xs) ≡ find p xs
find_past p [] xs h = refl
find_past p (x ∷ front) xs h =
    let parts = and_parts (not (p x)) (list_all (λ y. not (p y)) front) h in
    cond-false (p x) (Some x) (find p (front ++ xs)) (not-true (p x) parts.0) ∙ find_past p front xs parts.1

pub find_before : {A : Type 0} (p : A → Bool) (xs back : List A) → list_all (λ x. not (p x)) back ≡ true → find p (xs ++ back) ≡ find p xs
find_before p [] back h = find_none p back h
find_before p (x ∷ xs) back h = ap (cond (p x) (Some x)) (find_before p xs back h)

-- ---- a list cut at a place

pub cut : {A : Type 0} (xs : List A) (at : ℕ) (d : A) → at < length xs → xs ≡ take at xs ++ (get_or xs at d ∷ drop (at + 1) xs)
cut xs at d within = sym (take-append-drop at xs) ∙ ap (λ ys. take at xs ++ ys) (drop-cons xs at d within ∙ ap (λ n. get_or xs at d ∷ drop n xs) (sym (add-one at)))

pub set_cut : {A : Type 0} (xs : List A) (at : ℕ) (x : A) → at < length xs → set xs at x ≡ take at xs ++ (x ∷ drop (at + 1) xs)
set_cut xs at x within = sym (take-append-drop at (set xs at x)) ∙ rw (take-set xs at x, drop-set xs at x within) refl
