-- Sums over slots, of which each is empty or has a value.
use Rattle.std.proofs.Common.{◌≡◌, ◌≢◌, ◌∙◌, ◌+◌, ◌≤◌, ℕ, suc, zero, List, [], ◌∷◌, Option, None, Some, get_or, refl, sym, ap, arith}
use Rattle.std.specs.Prelude.{count_by, is_some, cond, sum_by}
use Rattle.std.proofs.lemmas.List.Sums.{sum_by-cons}

suc_apart : (j : ℕ) → suc j ≢ 0
suc_apart j e = omega (arith, e)

zero_apart : (j : ℕ) → 0 ≢ suc j
zero_apart j e = omega (arith, e)

both_apart : (j k : ℕ) → j ≢ k → suc j ≢ suc k
both_apart j k apart e = apart (omega (arith, e))

module _ {X : Type 0} (f : Option X → ℕ) (none : f None ≡ 0) where
  -- empty slots alone
  pub sum-empty : (xs : List (Option X)) → ((k : ℕ) → get_or xs k None ≡ None) → sum_by f xs ≡ 0
  sum-empty [] h = refl
  sum-empty (x ∷ xs) h =
      let here : f x ≡ 0 = ap f (h 0) ∙ none in
      omega (arith, sum_by-cons f x xs, here, sum-empty xs (λ k. h (suc k)))

  -- slots that agree, however many empty ones are at the end
  pub sum-same : (xs ys : List (Option X)) → ((k : ℕ) → get_or ys k None ≡ get_or xs k None) → sum_by f ys ≡ sum_by f xs
  sum-same [] ys h = sum-empty ys h
  sum-same (x ∷ xs) [] h = sym (sum-empty (x ∷ xs) (λ k. sym (h k)))
  sum-same (x ∷ xs) (y ∷ ys) h =
      let here : f y ≡ f x = ap f (h 0) in
      omega (arith, sum_by-cons f x xs, sum_by-cons f y ys, here, sum-same xs ys (λ k. h (suc k)))

  -- slots that agree but for one
  pub sum-changed : (k : ℕ) (xs ys : List (Option X)) → ((j : ℕ) → j ≢ k → get_or ys j None ≡ get_or xs j None)
      → sum_by f ys + f (get_or xs k None) ≡ sum_by f xs + f (get_or ys k None)
  sum-changed k [] [] h = refl
  sum-changed zero [] (y ∷ ys) h =
      let rest : sum_by f ys ≡ 0 = sum-empty ys (λ j. h (suc j) (suc_apart j)) in
      omega (arith, sum_by-cons f y ys, rest, none)
  sum-changed zero (x ∷ xs) [] h =
      let rest : sum_by f xs ≡ 0 = sum-empty xs (λ j. sym (h (suc j) (suc_apart j))) in
      omega (arith, sum_by-cons f x xs, rest, none)
  sum-changed zero (x ∷ xs) (y ∷ ys) h =
      let rest : sum_by f ys ≡ sum_by f xs = sum-same xs ys (λ j. h (suc j) (suc_apart j)) in
      omega (arith, sum_by-cons f x xs, sum_by-cons f y ys, rest)
  sum-changed (suc k) [] (y ∷ ys) h =
      let here : f y ≡ 0 = ap f (h 0 (zero_apart k)) ∙ none in
      let rest : sum_by f ys + f None ≡ 0 + f (get_or ys k None) = sum-changed k [] ys (λ j apart. h (suc j) (both_apart j k apart)) in
      omega (arith, sum_by-cons f y ys, here, rest)
  sum-changed (suc k) (x ∷ xs) [] h =
      let here : f x ≡ 0 = ap f (sym (h 0 (zero_apart k))) ∙ none in
      let rest : 0 + f (get_or xs k None) ≡ sum_by f xs + f None = sum-changed k xs [] (λ j apart. h (suc j) (both_apart j k apart)) in
      omega (arith, sum_by-cons f x xs, here, rest)
  sum-changed (suc k) (x ∷ xs) (y ∷ ys) h =
      let here : f y ≡ f x = ap f (h 0 (zero_apart k)) in
      let rest = sum-changed k xs ys (λ j apart. h (suc j) (both_apart j k apart)) in
      omega (arith, sum_by-cons f x xs, sum_by-cons f y ys, here, rest)

  -- one slot, and two
  pub sum-part : (k : ℕ) (xs : List (Option X)) → f (get_or xs k None) ≤ sum_by f xs
  sum-part k [] = omega (arith, none)
  sum-part zero (x ∷ xs) = omega (arith, sum_by-cons f x xs)
  sum-part (suc k) (x ∷ xs) = omega (arith, sum_by-cons f x xs, sum-part k xs)

  pub sum-two : (j k : ℕ) (xs : List (Option X)) → j ≢ k → f (get_or xs j None) + f (get_or xs k None) ≤ sum_by f xs
  sum-two j k [] apart = omega (arith, none)
  sum-two zero zero (x ∷ xs) apart = absurd (apart refl)
  sum-two zero (suc k) (x ∷ xs) apart = omega (arith, sum_by-cons f x xs, sum-part k xs)
  sum-two (suc j) zero (x ∷ xs) apart = omega (arith, sum_by-cons f x xs, sum-part j xs)
  sum-two (suc j) (suc k) (x ∷ xs) apart = omega (arith, sum_by-cons f x xs, sum-two j k xs (λ e. apart (ap suc e)))

-- a sum that is one at most in each slot
pub sum-few : {X : Type 0} (f : Option X → ℕ) → f None ≡ 0 → (xs : List (Option X)) → ((k : ℕ) → f (get_or xs k None) ≤ 1) → sum_by f xs ≤ count_by is_some xs
sum-few f none [] h = omega arith
sum-few {X} f none (None ∷ xs) h =
    let empty : Option X = None in
    let long : count_by is_some (empty ∷ xs) ≡ count_by is_some xs = refl in
    omega (arith, long, none, sum_by-cons f None xs, sum-few f none xs (λ k. h (suc k)))
sum-few {X} f none (Some x ∷ xs) h =
    let long : count_by is_some (Some x ∷ xs) ≡ 1 + count_by is_some xs = sum_by-cons (λ (y : Option X). cond (is_some y) 1 0) (Some x) xs in
    omega (arith, long, h 0, sum_by-cons f (Some x) xs, sum-few f none xs (λ k. h (suc k)))
