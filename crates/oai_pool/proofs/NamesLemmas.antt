-- How the counts of names and the free numbers go together, after each change of them.
use Rattle.std.proofs.Common.{◌≡◌, ℕ, zero, suc, ◌+◌, ◌-◌, ◌<◌, ◌==◌, if◌then◌else◌, Bool, true, false, cond, List, [], ◌∷◌, ◌++◌, length, length-append, take, set, get_or, min, refl, sym, ap, inl, inr, ◌∙◌, arith, nat_eq}
use Rattle.std.proofs.lemmas.Bool.{cases_lt}
use Rattle.std.proofs.lemmas.Bool.Decides.{eqb_tells, nat_tests}
use Rattle.std.proofs.lemmas.List.{get_or_past, get_or_default, get_or-set_same, get_or-set_other, get_or_append_left, get_or_push, get_or_read, take_all, take_more}
use Rattle.std.specs.Cmp.{nat_eq_equiv}
use Rattle.std.proofs.lemmas.List.Sums.{sum_by_push, sum_by-set}
use Rattle.oai_pool.specs.Counts.{AddsName, count_of, used_of}
use Rattle.oai_pool.specs.Names.{is_free, number_to_give, times}

-- the free numbers are those that were given and are named no more, each once
abbrev pub AreListed : List ℕ → List ℕ → Type 0
AreListed counts free = (n : ℕ) → times n free ≡ (if is_free counts n then 1 else 0)

-- ---- one count

-- a number that is named was given
pub named_is_given : (counts : List ℕ) (k : ℕ) → 0 < count_of counts k → k < length counts
named_is_given counts k named = grind (arith, get_or_past counts k 0)

-- of a number that was given, its count tells whether it is free
is_free_given : (counts : List ℕ) (k : ℕ) → k < length counts → is_free counts k ≡ (count_of counts k == 0)
unfolding is_free
is_free_given counts k given = ap (λ count. nat_eq count 0) (get_or_default counts k 1 0 given)

-- a free number was given, and is named no more
free_is_given : (counts : List ℕ) (k : ℕ) → is_free counts k ≡ true → (k < length counts) × (count_of counts k ≡ 0)
unfolding is_free
free_is_given counts k free =
    let given : k < length counts = grind (arith, nat_tests, get_or_past counts k 1) in
    let none : get_or counts k 1 ≡ 0 = grind (arith, nat_tests) in
    (given, sym (get_or_default counts k 1 0 given) ∙ none)

-- whether a number is free after the count of one was set
is_free-set : (counts : List ℕ) (k v n : ℕ) → k < length counts → is_free (set counts k v) n ≡ (if n == k then v == 0 else is_free counts n)
unfolding is_free
is_free-set counts k v n given = elim (eqb_tells n k) [
  | inl same ↦ rw same.0 (ap (λ count. nat_eq count 0) (ap (λ m. get_or (set counts k v) m 1) same.1 ∙ get_or-set_same counts k v 1 given))
  | inr other ↦ rw other.0 (ap (λ count. nat_eq count 0) (get_or-set_other counts k n v 1 other.1))
]

-- whether a number is free after one more was given and named
is_free-push : (counts : List ℕ) (n : ℕ) → is_free (counts ++ 1 ∷ []) n ≡ is_free counts n
unfolding is_free
is_free-push counts n = ap (λ count. nat_eq count 0) (read counts n) where
  read : (counts : List ℕ) (n : ℕ) → get_or (counts ++ 1 ∷ []) n 1 ≡ get_or counts n 1
  read [] zero = refl
  read [] (suc n) = refl
  read (count ∷ counts) zero = refl
  read (count ∷ counts) (suc n) = read counts n

-- one more at the end
times-push : (n k : ℕ) (numbers : List ℕ) → times n (numbers ++ k ∷ []) ≡ times n numbers + (if n == k then 1 else 0)
unfolding times
times-push n k numbers = sum_by_push (λ m. cond (nat_eq n m) 1 0) numbers k

-- ---- how many are named

pub used-renamed : (counts : List ℕ) (k v : ℕ) → 0 < count_of counts k → 0 < v → used_of (set counts k v) ≡ used_of counts
used-renamed counts k v named some =
    omega (arith, sum_by-set (λ count. min count 1) counts k v 0 (named_is_given counts k named))

pub used-dropped : (counts : List ℕ) (k : ℕ) → 0 < count_of counts k → used_of (set counts k 0) + 1 ≡ used_of counts
used-dropped counts k named =
    omega (arith, sum_by-set (λ count. min count 1) counts k 0 0 (named_is_given counts k named))

pub used-taken : (counts : List ℕ) (k : ℕ) → k < length counts → count_of counts k ≡ 0 → used_of (set counts k 1) ≡ used_of counts + 1
used-taken counts k given none =
    omega (arith, sum_by-set (λ count. min count 1) counts k 1 0 given)

pub used-added : (counts : List ℕ) → used_of (counts ++ 1 ∷ []) ≡ used_of counts + 1
used-added counts = sum_by_push (λ count. min count 1) counts 1

-- ---- the free numbers after each change

-- nothing was given
pub nothing_listed : (counts free : List ℕ) → counts ≡ [] → free ≡ [] → AreListed counts free
unfolding is_free times
nothing_listed counts free is none n = rw (is, none)

-- a number that is named, named more or less often
pub listed_renamed : (counts free : List ℕ) (k v : ℕ) → 0 < count_of counts k → 0 < v → AreListed counts free → AreListed (set counts k v) free
listed_renamed counts free k v named some listed n =
    let given = named_is_given counts k named in
    elim (eqb_tells n k) [
      | inl same ↦
          let before : is_free counts k ≡ false = is_free_given counts k given ∙ grind (arith, nat_tests) in
          let now : (v == 0) ≡ false = grind (arith, nat_tests) in
          let here : is_free counts n ≡ false = ap (is_free counts) same.1 ∙ before in
          rw (is_free-set counts k v n given, same.0, now) (listed n ∙ rw here)
      | inr other ↦ rw (is_free-set counts k v n given, other.0) (listed n)
    ]

-- a number that was named once, named no more
listed_dropped_last : (counts free : List ℕ) (k : ℕ) → 0 < count_of counts k → AreListed counts free → AreListed (set counts k 0) (free ++ k ∷ [])
listed_dropped_last counts free k named listed n =
    let given = named_is_given counts k named in
    elim (eqb_tells n k) [
      | inl same ↦
          let before : is_free counts k ≡ false = is_free_given counts k given ∙ grind (arith, nat_tests) in
          let here : is_free counts n ≡ false = ap (is_free counts) same.1 ∙ before in
          let none : times n free ≡ 0 = listed n ∙ rw here in
          rw (times-push n k free, is_free-set counts k 0 n given, same.0) (omega (arith, none))
      | inr other ↦ rw (times-push n k free, is_free-set counts k 0 n given, other.0) (omega (arith, listed n))
    ]

pub listed_dropped : (counts free new : List ℕ) (k v : ℕ) → v ≡ 0 → new ≡ free ++ k ∷ [] → 0 < count_of counts k → AreListed counts free → AreListed (set counts k v) new
listed_dropped counts free new k v none is named listed =
    rw (none, is) (listed_dropped_last counts free k named listed)

-- the last free number is one
pub last_is_free : (counts old free : List ℕ) (k : ℕ) → old ≡ free ++ k ∷ [] → AreListed counts old → is_free counts k ≡ true
last_is_free counts old free k is listed =
    let some : times k old ≡ times k free + 1 = ap (times k) is ∙ times-push k k free ∙ rw (nat_eq_equiv.refl k) in
    told (is_free counts k) (sym (listed k) ∙ some) where
      told : (b : Bool) → (if b then 1 else 0) ≡ times k free + 1 → b ≡ true
      told true e = refl
      told false e = absurd (omega (arith, e))

pub last_is_given : (counts old free : List ℕ) (k : ℕ) → old ≡ free ++ k ∷ [] → AreListed counts old → (k < length counts) × (count_of counts k ≡ 0)
last_is_given counts old free k is listed = free_is_given counts k (last_is_free counts old free k is listed)

-- the last free number, named
pub listed_taken : (counts old free : List ℕ) (k : ℕ) → old ≡ free ++ k ∷ [] → AreListed counts old → AreListed (set counts k 1) free
listed_taken counts old free k is listed n =
    let given = last_is_given counts old free k is listed in
    let was : times n old ≡ times n free + (if n == k then 1 else 0) = ap (times n) is ∙ times-push n k free in
    elim (eqb_tells n k) [
      | inl same ↦
          let here : is_free counts n ≡ true = ap (is_free counts) same.1 ∙ last_is_free counts old free k is listed in
          let before : times n old ≡ 1 = listed n ∙ rw here in
          let step : times n old ≡ times n free + 1 = was ∙ rw same.0 in
          rw (is_free-set counts k 1 n given.0, same.0) (omega (arith, before, step))
      | inr other ↦
          let step : times n old ≡ times n free = was ∙ rw other.0 (omega arith) in
          rw (is_free-set counts k 1 n given.0, other.0) (sym step ∙ listed n)
    ]

-- a number that was never given, named
pub listed_added : (counts new free rest : List ℕ) → new ≡ counts ++ 1 ∷ [] → free ≡ rest → AreListed counts free → AreListed new rest
listed_added counts new free rest is same listed n =
    sym (ap (times n) same) ∙ listed n ∙ sym (ap (λ b. cond b 1 0) (ap (λ all. is_free all n) is ∙ is_free-push counts n))

-- ---- the next number

pub number_to_give-taken : (counts old free : List ℕ) (k : ℕ) → old ≡ free ++ k ∷ [] → number_to_give counts old ≡ k
unfolding number_to_give
number_to_give-taken counts old free k is =
    let last : length old - 1 ≡ length free = omega (arith, ap length is, length-append free (k ∷ [])) in
    ap (λ numbers. get_or numbers (length old - 1) (length counts)) is ∙ get_or_push free k (length counts) (length old - 1) (sym last)

pub number_to_give-added : (counts free : List ℕ) → length free ≡ 0 → number_to_give counts free ≡ length counts
unfolding number_to_give
number_to_give-added counts free none = get_or_past free (length free - 1) (length counts) (omega arith)

pub names_taken : (counts old free : List ℕ) (k : ℕ) → old ≡ free ++ k ∷ [] → AreListed counts old → AddsName (number_to_give counts old) counts (set counts k 1)
names_taken counts old free k is listed n =
    let given = last_is_given counts old free k is listed in
    rw (number_to_give-taken counts old free k is) (elim (eqb_tells n k) [
      | inl same ↦ rw (same.0, same.1, get_or-set_same counts k 1 0 given.0, given.1)
      | inr other ↦ rw (other.0, get_or-set_other counts k n 1 0 other.1) (omega arith)
    ])

pub names_added : (counts new free : List ℕ) → new ≡ counts ++ 1 ∷ [] → length free ≡ 0 → AddsName (number_to_give counts free) counts new
names_added counts new free is none n =
    rw (is, number_to_give-added counts free none) (elim (eqb_tells n (length counts)) [
      | inl same ↦ rw (same.0, get_or_push counts 1 0 n (sym same.1), get_or_past counts n 0 (omega arith))
      | inr other ↦ rw other.0 (elim (cases_lt n (length counts)) [
        | inl below ↦ get_or_append_left counts (1 ∷ []) 0 n below ∙ sym (omega arith)
        | inr above ↦
            get_or_past (counts ++ 1 ∷ []) n 0 (omega (arith, length-append counts (1 ∷ []), other.1)) ∙ sym (omega (arith, get_or_past counts n 0 above))
      ])
    ])

-- the last of the free numbers, read at its place
pub last_read : (counts free : List ℕ) (k : ℕ) → 0 < length free → k ≡ get_or free (length free - 1) k → k ≡ number_to_give counts free
unfolding number_to_give
last_read counts free k some read = get_or_read free (length free - 1) k (omega arith) read (length counts)

-- the free numbers, cut before the last
pub cut_at_last : (free : List ℕ) (k : ℕ) → 0 < length free → k ≡ get_or free (length free - 1) k → free ≡ take (length free - 1) free ++ k ∷ []
cut_at_last free k some read =
    sym (take_all (length free - 1 + 1) free (omega arith)) ∙ take_more free (length free - 1) k (omega arith) ∙ ap (λ m. take (length free - 1) free ++ m ∷ []) (sym read)
