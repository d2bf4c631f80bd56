-- Sums over slots, of which each is empty or has a value.
use Rattle.std.proofs.Common.{◌≡◌, ◌≢◌, ◌∙◌, ◌+◌, ◌≤◌, ℕ, suc, zero, List, [], ◌∷◌, Option, None, length, take, drop, get_or, refl, sym, ap, arith, add-one, inl, inr}
use Rattle.std.specs.Prelude.{sum_by}
use Rattle.std.proofs.lemmas.Bool.{cases_lt}
use Rattle.std.proofs.lemmas.List.{get_or-drop, take_all}
use Rattle.std.proofs.lemmas.List.Sums.{sum_by-cons, sum_by-take-drop, sum_by_more}

suc_apart : (j : ℕ) → suc j ≢ 0
suc_apart j e = omega (arith, e)

zero_apart : (j : ℕ) → 0 ≢ suc j
zero_apart j e = omega (arith, e)

both_apart : (j k : ℕ) → j ≢ k → suc j ≢ suc k
both_apart j k apart e = apart (omega (arith, e))

module _ {X : Type 0} (f : Option X → ℕ) (none : f None ≡ 0) where
  -- empty slots alone
  pub sum-empty : (xs : List (Option X)) → ((k : ℕ) → get_or xs k None ≡ None) → sum_by f xs ≡ 0
  sum-empty [] h = refl
  sum-empty (x ∷ xs) h =
      let here : f x ≡ 0 = ap f (h 0) ∙ none in
      omega (arith, sum_by-cons f x xs, here, sum-empty xs (λ k. h (suc k)))

  -- slots that agree, however many empty ones are at the end
  pub sum-same : (xs ys : List (Option X)) → ((k : ℕ) → get_or ys k None ≡ get_or xs k None) → sum_by f ys ≡ sum_by f xs
  sum-same [] ys h = sum-empty ys h
  sum-same (x ∷ xs) [] h = sym (sum-empty (x ∷ xs) (λ k. sym (h k)))
  sum-same (x ∷ xs) (y ∷ ys) h =
      let here : f y ≡ f x = ap f (h 0) in
      omega (arith, sum_by-cons f x xs, sum_by-cons f y ys, here, sum-same xs ys (λ k. h (suc k)))

  -- slots that agree but for one
  pub sum-changed : (k : ℕ) (xs ys : List (Option X)) → ((j : ℕ) → j ≢ k → get_or ys j None ≡ get_or xs j None)
      → sum_by f ys + f (get_or xs k None) ≡ sum_by f xs + f (get_or ys k None)
  sum-changed k [] [] h = refl
  sum-changed zero [] (y ∷ ys) h =
      let rest : sum_by f ys ≡ 0 = sum-empty ys (λ j. h (suc j) (suc_apart j)) in
      omega (arith, sum_by-cons f y ys, rest, none)
  sum-changed zero (x ∷ xs) [] h =
      let rest : sum_by f xs ≡ 0 = sum-empty xs (λ j. sym (h (suc j) (suc_apart j))) in
      omega (arith, sum_by-cons f x xs, rest, none)
  sum-changed zero (x ∷ xs) (y ∷ ys) h =
      let rest : sum_by f ys ≡ sum_by f xs = sum-same xs ys (λ j. h (suc j) (suc_apart j)) in
      omega (arith, sum_by-cons f x xs, sum_by-cons f y ys, rest)
  sum-changed (suc k) [] (y ∷ ys) h =
      let here : f y ≡ 0 = ap f (h 0 (zero_apart k)) ∙ none in
      let rest : sum_by f ys + f None ≡ 0 + f (get_or ys k None) = sum-changed k [] ys (λ j apart. h (suc j) (both_apart j k apart)) in
      omega (arith, sum_by-cons f y ys, here, rest)
  sum-changed (suc k) (x ∷ xs) [] h =
      let here : f x ≡ 0 = ap f (sym (h 0 (zero_apart k))) ∙ none in
      let rest : 0 + f (get_or xs k None) ≡ sum_by f xs + f None = sum-changed k xs [] (λ j apart. h (suc j) (both_apart j k apart)) in
      omega (arith, sum_by-cons f x xs, here, rest)
  sum-changed (suc k) (x ∷ xs) (y ∷ ys) h =
      let here : f y ≡ f x = ap f (h 0 (zero_apart k)) in
      let rest = sum-changed k xs ys (λ j apart. h (suc j) (both_apart j k apart)) in
      omega (arith, sum_by-cons f x xs, sum_by-cons f y ys, here, rest)

  -- one slot, and two
  pub sum-part : (k : ℕ) (xs : List (Option X)) → f (get_or xs k None) ≤ sum_by f xs
  sum-part k [] = omega (arith, none)
  sum-part zero (x ∷ xs) = omega (arith, sum_by-cons f x xs)
  sum-part (suc k) (x ∷ xs) = omega (arith, sum_by-cons f x xs, sum-part k xs)

  pub sum-two : (j k : ℕ) (xs : List (Option X)) → j ≢ k → f (get_or xs j None) + f (get_or xs k None) ≤ sum_by f xs
  sum-two j k [] apart = omega (arith, none)
  sum-two zero zero (x ∷ xs) apart = absurd (apart refl)
  sum-two zero (suc k) (x ∷ xs) apart = omega (arith, sum_by-cons f x xs, sum-part k xs)
  sum-two (suc j) zero (x ∷ xs) apart = omega (arith, sum_by-cons f x xs, sum-part j xs)
  sum-two (suc j) (suc k) (x ∷ xs) apart = omega (arith, sum_by-cons f x xs, sum-two j k xs (λ e. apart (ap suc e)))

  -- one more of the first slots
  pub sum-first : (k : ℕ) (xs : List (Option X)) → sum_by f (take (suc k) xs) ≤ sum_by f (take k xs) + f (get_or xs k None)
  sum-first k xs =
      elim (cases_lt k (length xs)) [
        | inl within ↦
            let more : sum_by f (take (suc k) xs) ≡ sum_by f (take k xs) + f (get_or xs k None) = rw add-one at
            (sum_by_more f xs k None within) in
            omega (arith, more)
        | inr past ↦
            let long : take (suc k) xs ≡ xs = take_all (suc k) xs (omega (arith, past)) in
            let whole : take k xs ≡ xs = take_all k xs past in
            let same : sum_by f (take (suc k) xs) ≡ sum_by f (take k xs) = ap (sum_by f) (long ∙ sym whole) in
            omega (arith, same)
      ]

  -- all behind the first slots are empty
  pub sum-all : (limit : ℕ) (xs : List (Option X)) → ((k : ℕ) → limit ≤ k → get_or xs k None ≡ None)
      → sum_by f xs ≡ sum_by f (take limit xs)
  sum-all limit xs empty =
      let rest : sum_by f (drop limit xs) ≡ 0 = sum-empty (drop limit xs)
      (λ k. get_or-drop limit xs k None ∙ empty (limit + k) (omega arith)) in
      omega (arith, sum_by-take-drop f xs limit, rest)
