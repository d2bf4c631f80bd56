-- That no setSpec covers another, as a test.
use Rattle.std.proofs.Common.{◌≡◌, ℕ, zero, suc, Bool, true, not, List, [], ◌∷◌, Some, refl, arith}
use Rattle.std.specs.List.{list_all, slice_get}
use Rattle.std.proofs.lemmas.Bool.{and_from, and_parts, not-true, not_from_false}
use Rattle.std.proofs.lemmas.Option.{same_Some}
use Rattle.oai_names.specs.Sets.{covers}
use Rattle.oai_item.specs.Membership.{NoneCovers, neither_covers, none_covers}

all_pass_at : {A : Type 0} (test : A → Bool) (xs : List A) (i : ℕ) (x : A) → list_all test xs ≡ true → slice_get xs i ≡ Some x → test x ≡ true
all_pass_at test [] i x all at = absurd cc
all_pass_at test (y ∷ ys) zero x all at = rw (← (same_Some y x at)) (and_parts (test y) (list_all test ys) all).0
all_pass_at test (y ∷ ys) (suc i) x all at = all_pass_at test ys i x (and_parts (test y) (list_all test ys) all).1 at

all_from : {A : Type 0} (test : A → Bool) (xs : List A) → ((i : ℕ) (x : A) → slice_get xs i ≡ Some x → test x ≡ true) → list_all test xs ≡ true
all_from test [] h = refl
all_from test (x ∷ xs) h = and_from _ _ (h zero x refl) (all_from test xs (λ i y at. h (suc i) y at))

pub none_from : (sets : List (List ℕ)) → none_covers sets ≡ true → NoneCovers sets
none_from [] h i j s t at_i at_j ne = absurd cc
none_from (x ∷ xs) h zero zero s t at_i at_j ne = absurd (ne refl)
none_from (x ∷ xs) h zero (suc j) s t at_i at_j ne =
    let two = and_parts (list_all (neither_covers x) xs) (none_covers xs) h in
    let both = and_parts (not (covers x t)) (not (covers t x)) (all_pass_at (neither_covers x) xs j t two.0 at_j) in
    rw (← (same_Some x s at_i)) (not-true (covers x t) both.0)
none_from (x ∷ xs) h (suc i) zero s t at_i at_j ne =
    let two = and_parts (list_all (neither_covers x) xs) (none_covers xs) h in
    let both = and_parts (not (covers x s)) (not (covers s x)) (all_pass_at (neither_covers x) xs i s two.0 at_i) in
    rw (← (same_Some x t at_j)) (not-true (covers s x) both.1)
none_from (x ∷ xs) h (suc i) (suc j) s t at_i at_j ne =
    let two = and_parts (list_all (neither_covers x) xs) (none_covers xs) h in
    none_from xs two.1 i j s t at_i at_j (λ e. ne (omega (arith, e)))

pub none_test : (sets : List (List ℕ)) → NoneCovers sets → none_covers sets ≡ true
none_test [] apart = refl
none_test (x ∷ xs) apart =
    and_from _ _
    (all_from (neither_covers x) xs (λ j t at.
    and_from _ _
    (not_from_false (covers x t) (apart zero (suc j) x t refl at (λ e. omega (arith, e))))
    (not_from_false (covers t x) (apart (suc j) zero t x at refl (λ e. omega (arith, e))))))
    (none_test xs (λ i j s t at_i at_j ne. apart (suc i) (suc j) s t at_i at_j (λ e. ne (omega (arith, e)))))
