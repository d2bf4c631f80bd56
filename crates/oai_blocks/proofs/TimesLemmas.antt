-- How often a number is among numbers that are put in, taken out and exchanged.
use Rattle.std.proofs.Common.{◌≡◌, ◌≢◌, ◌∙◌, ◌+◌, ◌<◌, ◌≤◌, ℕ, cond, eqb, List, [], ◌∷◌, ◌++◌, length, take, get_or, set, refl, arith}
use Rattle.std.specs.Prelude.{sum_by}
use Rattle.std.specs.List.{insert, remove}
use Rattle.std.proofs.lemmas.Bool.{cond-false, cond-true, eq-eqb, ne_eqb}
use Rattle.std.proofs.lemmas.List.Sums.{get_or-le-sum_by, sum_by-append, sum_by-cons, sum_by-insert, sum_by-remove, sum_by-set, sum_by-take-le, sum_by_more}
use Rattle.oai_blocks.specs.Blocks.{times_named}

abbrev one : ℕ → ℕ → ℕ
one b k = cond (eqb b k) 1 0

single : (b k : ℕ) → sum_by (one b) (k ∷ []) ≡ one b k
single b k =
    let none : sum_by (one b) [] ≡ 0 = refl in
    omega (arith, none, sum_by-cons (one b) k [])

pub times-nil : (b : ℕ) → times_named b [] ≡ 0
unfolding times_named
times-nil b = refl

pub times-same : (b : ℕ) → times_named b (b ∷ []) ≡ 1
unfolding times_named
times-same b = single b b ∙ cond-true (eqb b b) 1 0 (eq-eqb b b refl)

pub times-other : (b k : ℕ) → b ≢ k → times_named b (k ∷ []) ≡ 0
unfolding times_named
times-other b k apart = single b k ∙ cond-false (eqb b k) 1 0 (ne_eqb b k apart)

pub times-cons : (b k : ℕ) (ks : List ℕ) → times_named b (k ∷ ks) ≡ times_named b (k ∷ []) + times_named b ks
unfolding times_named
times-cons b k ks = omega (arith, sum_by-cons (one b) k ks, single b k)

pub times-append : (b : ℕ) (ks js : List ℕ) → times_named b (ks ++ js) ≡ times_named b ks + times_named b js
unfolding times_named
times-append b ks js = sum_by-append (one b) ks js

pub times-set : (b : ℕ) (ks : List ℕ) (j c d : ℕ) → j < length ks → times_named b (set ks j c) + times_named b (get_or ks j d ∷ []) ≡ times_named b ks + times_named b (c ∷ [])
unfolding times_named
times-set b ks j c d within = omega (arith, sum_by-set (one b) ks j c d within, single b (get_or ks j d), single b c)

pub times-remove : (b : ℕ) (ks : List ℕ) (j d : ℕ) → j < length ks → times_named b (remove ks j) + times_named b (get_or ks j d ∷ []) ≡ times_named b ks
unfolding times_named
times-remove b ks j d within = omega (arith, sum_by-remove (one b) ks j d within, single b (get_or ks j d))

pub times-insert : (b : ℕ) (ks : List ℕ) (j c : ℕ) → times_named b (insert ks j c) ≡ times_named b ks + times_named b (c ∷ [])
unfolding times_named
times-insert b ks j c = omega (arith, sum_by-insert (one b) ks j c, single b c)

pub times-more : (b : ℕ) (ks : List ℕ) (i d : ℕ) → i < length ks → times_named b (take (i + 1) ks) ≡ times_named b (take i ks) + times_named b (get_or ks i d ∷ [])
unfolding times_named
times-more b ks i d within = omega (arith, sum_by_more (one b) ks i d within, single b (get_or ks i d))

-- the number at a place is among them
pub times-at : (b : ℕ) (ks : List ℕ) (j d : ℕ) → j < length ks → times_named b (get_or ks j d ∷ []) ≤ times_named b ks
unfolding times_named
times-at b ks j d within = omega (arith, get_or-le-sum_by (one b) ks j d within, single b (get_or ks j d))

pub times-within : (ks : List ℕ) (j d : ℕ) → j < length ks → 1 ≤ times_named (get_or ks j d) ks
times-within ks j d within = omega (arith, times-same (get_or ks j d), times-at (get_or ks j d) ks j d within)

pub times-take : (b : ℕ) (ks : List ℕ) (i : ℕ) → times_named b (take i ks) ≤ times_named b ks
unfolding times_named
times-take b ks i = sum_by-take-le (one b) ks i
