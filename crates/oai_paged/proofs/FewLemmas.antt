-- Numbers that are named: those below a limit, none of them twice, are no more than the limit; and no more are used than are named.
use Rattle.std.proofs.Common.{◌≡◌, ◌≢◌, ◌∙◌, ◌+◌, ◌≤◌, nat_eq, ℕ, suc, zero, List, [], ◌∷◌, length, length-append, min, refl, sym, ap, subst, arith, cond, inl, inr}
use Rattle.std.specs.List.{AllByRecursion}
use Rattle.std.specs.Cmp.{nat_eq_equiv}
use Rattle.std.proofs.lemmas.Bool.{cases_eq, cases_lt, cond-false, cond-true, ne_eqb}
use Rattle.std.proofs.lemmas.List.Sums.{sum_by-cons}
use Rattle.oai_pool.specs.Counts.{count_of, used_of}
use Rattle.oai_pool.specs.Names.{times}
use Rattle.oai_pool.specs.declared.pools.PagePool.{Ghosts}
use Rattle.oai_pool.specs.declared.pools.TheConstants.{MAX_PAGES}
use Rattle.oai_places.specs.Directory.{StandsIn}
use Rattle.oai_places.specs.Places.{IsSoundPlace, Pages, PlaceState, page_numbers}
use Rattle.oai_places.proofs.NameLemmas.{times-cons, times-here, times-nil}

-- ---- one number taken out of others

abbrev without : ℕ → List ℕ → List ℕ
without n [] = []
without n (k ∷ ks) = cond (nat_eq n k) (without n ks) (k ∷ without n ks)

times-there : (n k : ℕ) (ks : List ℕ) → n ≢ k → times n (k ∷ ks) ≡ times n ks
times-there n k ks apart =
    let other : times n (k ∷ ks) ≡ 0 + times n ks = times-cons n k ks ∙ ap (λ b. cond b 1 0 + times n ks) (ne_eqb n k apart) in
    omega (arith, other)

without-here : (k : ℕ) (ks : List ℕ) → without k (k ∷ ks) ≡ without k ks
without-here k ks = cond-true (nat_eq k k) (without k ks) (k ∷ without k ks) (nat_eq_equiv.refl k)

without-there : (n k : ℕ) (ks : List ℕ) → n ≢ k → without n (k ∷ ks) ≡ k ∷ without n ks
without-there n k ks apart = cond-false (nat_eq n k) (without n ks) (k ∷ without n ks) (ne_eqb n k apart)

length-without : (n : ℕ) (ks : List ℕ) → length (without n ks) + times n ks ≡ length ks
length-without n [] = omega (arith, times-nil n)
length-without n (k ∷ ks) =
    elim (cases_eq n k) [
      | inl same ↦
          let shorter : length (without n (k ∷ ks)) ≡ length (without n ks) = subst
          (λ (m : ℕ). length (without m (k ∷ ks)) ≡ length (without m ks)) (sym same) (ap length (without-here k ks)) in
          let counted : times n (k ∷ ks) ≡ 1 + times n ks = subst (λ (m : ℕ). times m (k ∷ ks) ≡ 1 + times m ks) (sym same)
          (times-here k ks) in
          omega (arith, shorter, counted, length-without n ks)
      | inr apart ↦
          let longer : length (without n (k ∷ ks)) ≡ suc (length (without n ks)) = ap length (without-there n k ks apart) in
          omega (arith, longer, times-there n k ks apart, length-without n ks)
    ]

times-without_same : (n : ℕ) (ks : List ℕ) → times n (without n ks) ≡ 0
times-without_same n [] = times-nil n
times-without_same n (k ∷ ks) =
    elim (cases_eq n k) [
      | inl same ↦ ap (times n) (subst (λ (m : ℕ). without m (k ∷ ks) ≡ without m ks) (sym same) (without-here k ks)) ∙ times-without_same
          n ks
      | inr apart ↦ ap (times n) (without-there n k ks apart) ∙ times-there n k (without n ks) apart ∙ times-without_same n ks
    ]

times-without_other : (m n : ℕ) (ks : List ℕ) → m ≢ n → times m (without n ks) ≡ times m ks
times-without_other m n [] other = refl
times-without_other m n (k ∷ ks) other =
    elim (cases_eq n k) [
      | inl same ↦
          ap (times m) (subst (λ (l : ℕ). without l (k ∷ ks) ≡ without l ks) (sym same) (without-here k ks))
          ∙ times-without_other m n ks other
          ∙ sym (times-there m k ks (λ e. other (e ∙ sym same)))
      | inr apart ↦
          ap (times m) (without-there n k ks apart)
          ∙ times-cons m k (without n ks)
          ∙ ap (λ rest. cond (nat_eq m k) 1 0 + rest) (times-without_other m n ks other)
          ∙ sym (times-cons m k ks)
    ]

-- ---- numbers below a limit

pub few_numbers : (limit : ℕ) (ks : List ℕ) → ((n : ℕ) → times n ks ≤ 1) → ((n : ℕ) → limit ≤ n → times n ks ≡ 0) → length ks ≤ limit
few_numbers zero [] once below = omega arith
few_numbers zero (k ∷ ks) once below = absurd (let none = below k (omega arith) in omega (arith, none, times-here k ks))
few_numbers (suc limit) ks once below =
    let rest : length (without limit ks) ≤ limit = few_numbers limit (without limit ks)
    (λ n. elim (cases_eq n limit) [
      | inl same ↦ let none : times n (without limit ks) ≡ 0 = ap (λ m. times m (without limit ks)) same ∙ times-without_same limit
          ks in omega (arith, none)
      | inr apart ↦ let as_before = times-without_other n limit ks apart in let one = once n in omega (arith, as_before, one)
    ])
    (λ n above. elim (cases_eq n limit) [
      | inl same ↦ ap (λ m. times m (without limit ks)) same ∙ times-without_same limit ks
      | inr apart ↦ times-without_other n limit ks apart ∙ below n (higher n limit above apart)
    ]) in
    let one = once limit in
    omega (arith, length-without limit ks, one, rest)
  where
    higher : (n m : ℕ) → m ≤ n → n ≢ m → suc m ≤ n
    higher n m above apart = elim (cases_lt m n) [
      | inl less ↦ omega (arith, less)
      | inr more ↦ absurd (apart (omega (arith, above, more)))
    ]

-- ---- numbers that are used

used_from : (counts : List ℕ) (first : ℕ) (ks : List ℕ) → ((n : ℕ) → count_of counts n ≤ times (first + n) ks) → used_of counts ≤ length ks
used_from [] first ks named = omega arith
used_from (c ∷ counts) first ks named =
    let own : used_of (c ∷ counts) ≡ min c 1 + used_of counts = sum_by-cons (λ count. min count 1) c counts in
    let here : c ≤ times first ks = subst (λ (m : ℕ). c ≤ times m ks) (plain first) (named 0) in
    elim (cases_lt 0 c) [
      | inl some ↦
          let rest : used_of counts ≤ length (without first ks) = used_from counts (suc first) (without first ks)
          (λ n. let as_before : times (suc first + n) (without first ks) ≡ times (suc first + n) ks = times-without_other
          (suc first + n) first ks (λ e. later first n e) in
          let there : count_of counts n ≤ times (suc first + n) ks = subst (λ (m : ℕ). count_of counts n ≤ times m ks)
          (shift first n) (named (suc n)) in
          omega (arith, as_before, there)) in
          omega (arith, own, here, some, rest, length-without first ks)
      | inr none ↦
          let rest : used_of counts ≤ length ks = used_from counts (suc first) ks
          (λ n. subst (λ (m : ℕ). count_of counts n ≤ times m ks) (shift first n) (named (suc n))) in
          omega (arith, own, none, rest)
    ]
  where
    plain : (first : ℕ) → first + 0 ≡ first
    plain first = omega arith

    shift : (first n : ℕ) → first + suc n ≡ suc first + n
    shift first n = omega arith

    later : (first n : ℕ) → suc first + n ≡ first → ⊥
    later first n e = omega (arith, e)

pub used_few : (counts ks : List ℕ) → ((n : ℕ) → count_of counts n ≤ times n ks) → used_of counts ≤ length ks
used_few counts ks named = used_from counts 0 ks (λ n. subst (λ (m : ℕ). count_of counts n ≤ times m ks) (plain n) (named n)) where
  plain : (n : ℕ) → n ≡ 0 + n
  plain n = omega arith

-- ---- the places of a directory

pub length-numbers : (pages : Pages) (places : List PlaceState) → AllByRecursion (IsSoundPlace pages) places
    → length places ≤ length (page_numbers places)
unfolding page_numbers
length-numbers pages [] h = omega arith
length-numbers pages (place ∷ places) h =
    let some = h.0.many.some in
    omega (arith, length-append place.pages (page_numbers places), some, length-numbers pages places h.1)

pub few_places : {P : Type 0} (g : Ghosts P) (pool : P) (places : List PlaceState)
    → ((n : ℕ) → MAX_PAGES ≤ n → count_of (g.counts pool) n ≡ 0) → StandsIn g pool places → length places ≤ MAX_PAGES
few_places g pool places limited stands =
    let few : length (page_numbers places) ≤ MAX_PAGES = few_numbers MAX_PAGES (page_numbers places) stands.directory.once
    (λ n above. let none = limited n above in let most = stands.named n in omega (arith, none, most)) in
    let more = length-numbers (g.pages pool) places stands.directory.placed in
    omega (arith, few, more)
