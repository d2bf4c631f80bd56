-- How often numbers are named after calls that name them once more, or once less.
use Rattle.std.proofs.Common.{◌≡◌, ◌∙◌, ◌+◌, ◌<◌, ◌≤◌, ◌==◌, if◌then◌else◌, ℕ, List, [], ◌∷◌, ◌++◌, length, take, drop, get_or, inl, inr, refl, sym, ap, subst, arith}
use Rattle.std.proofs.lemmas.List.{append-nil, take-append-drop, take_more}
use Rattle.std.specs.Cmp.{nat_eq_equiv}
use Rattle.oai_catalogue.specs.Store.{Spares}
use Rattle.oai_item.specs.declared.faults.Fault.{Fault}
use Rattle.oai_item.specs.declared.faults.Fault.TheVariants as told
use Rattle.oai_pool.specs.Counts.{AddsName, KeepsNamed, count_of}
use Rattle.oai_pool.specs.Names.{times}
use Rattle.oai_pool.specs.Calls as pools
use Rattle.oai_pool.specs.declared.pools.PagePool.{Ghosts}
use Rattle.oai_pool.specs.declared.pools.TheConstants.{MAX_PAGES}
use Rattle.oai_places.specs.Calls.{IsShareFault, Renames}
use Rattle.oai_places.specs.Places.{PlaceState, named_in, page_numbers}
use Rattle.oai_places.specs.Recounts.{HasFull, Recounts}
use Rattle.oai_places.proofs.NameLemmas.{named_in-append, named_in-cons, page_numbers-append, times-append, times-nil, times-one}

-- ---- the first of some numbers, and of some places

pub times-more : (n i k : ℕ) (numbers : List ℕ) → i < length numbers → k ≡ get_or numbers i 0
    → times n (take (i + 1) numbers) ≡ times n (take i numbers) + (if n == k then 1 else 0)
times-more n i k numbers within is =
    ap (times n) (take_more numbers i 0 within)
    ∙ times-append n (take i numbers) (get_or numbers i 0 ∷ [])
    ∙ ap (λ m. times n (take i numbers) + m) (times-one n (get_or numbers i 0) ∙ ap (λ m. if n == m then 1 else 0) (sym is))

pub times-take-le : (n i : ℕ) (numbers : List ℕ) → times n (take i numbers) ≤ times n numbers
times-take-le n i numbers =
    let parts = sym (times-append n (take i numbers) (drop i numbers)) ∙ ap (times n) (take-append-drop i numbers) in
    omega (arith, parts)

-- one more of the number itself
pub times-own : (i k : ℕ) (numbers : List ℕ) → i < length numbers → k ≡ get_or numbers i 0 → times k (take i numbers) + 1 ≤ times k numbers
times-own i k numbers within is =
    let more : times k (take (i + 1) numbers) ≡ times k (take i numbers) + 1 = times-more k i k numbers within is ∙ rw
    (nat_eq_equiv.refl k) refl in
    omega (arith, more, times-take-le k (i + 1) numbers)

pub page_numbers-nil : page_numbers [] ≡ []
unfolding page_numbers
page_numbers-nil = refl

page_numbers-one : (place : PlaceState) → page_numbers (place ∷ []) ≡ place.pages
unfolding page_numbers
page_numbers-one place = append-nil place.pages

pub page_numbers-more : (i : ℕ) (place : PlaceState) (places : List PlaceState) → i < length places → place ≡ get_or places i place
    → page_numbers (take (i + 1) places) ≡ page_numbers (take i places) ++ place.pages
page_numbers-more i place places within is =
    ap page_numbers (take_more places i place within)
    ∙ page_numbers-append (take i places) (get_or places i place ∷ [])
    ∙ ap (λ (p : PlaceState). page_numbers (take i places) ++ page_numbers (p ∷ [])) (sym is)
    ∙ ap (λ numbers. page_numbers (take i places) ++ numbers) (page_numbers-one place)

-- those of one place, beside those of the places before it
pub named_in-own : (n i : ℕ) (place : PlaceState) (places : List PlaceState) → i < length places → place ≡ get_or places i place
    → named_in (take i places) n + times n place.pages ≤ named_in places n
named_in-own n i place places within is =
    let more : named_in (take (i + 1) places) n ≡ named_in (take i places) n + times n place.pages
    = ap (times n) (page_numbers-more i place places within is) ∙ times-append n (page_numbers (take i places)) place.pages in
    let all : named_in places n ≡ named_in (take (i + 1) places) n + named_in (drop (i + 1) places) n
    = ap (λ ps. named_in ps n) (sym (take-append-drop (i + 1) places)) ∙ named_in-append n (take (i + 1) places) (drop (i + 1) places) in
    omega (arith, more, all)

-- what is full on the one account is full on the other
pub full_of : (here all : Type 0) → (here → all) → (cause : Fault) → IsShareFault here cause → IsShareFault all cause
full_of here all more cause (inl memory) = inl memory
full_of here all more cause (inr full) = inr (full.0, more full.1)

-- where a page is full, it is named as often as it can be
pub only_full : (full : Type 0) (cause : Fault) → IsShareFault full cause → cause ≡ told.TooManyPages → full
only_full full cause (inl memory) many = absurd (cc (memory, many))
only_full full cause (inr all) many = all.1

-- no other fault comes
pub not_device : (full : Type 0) (cause : Fault) → IsShareFault full cause → ¬ (cause ≡ told.Device)
not_device full cause (inl memory) is = cc (memory, is)
not_device full cause (inr all) is = let many = all.0 in cc (many, is)

pub not_damaged : (full : Type 0) (cause : Fault) → IsShareFault full cause → ¬ (cause ≡ told.Damaged)
not_damaged full cause (inl memory) is = cc (memory, is)
not_damaged full cause (inr all) is = let many = all.0 in cc (many, is)

-- ---- over a pool

module _ {P : Type 0} (g : Ghosts P) where
  pub recounts_none : (p : P) → Recounts g [] [] p p
  recounts_none p = record { counts = λ n. refl; kept = λ n _. refl }

  pub recounts_same : (p q : P) → g.counts q ≡ g.counts p → g.pages q ≡ g.pages p → Recounts g [] [] p q
  recounts_same p q counts pages =
      record {
        counts = λ n. ap (λ all. count_of all n + times n []) counts;
        kept = λ n _. ap (λ all. all n) pages;
      }

  -- one call after the other
  pub recounts_then : (a b c d : List ℕ) (p q r : P) → Recounts g a b p q → Recounts g c d q r → Recounts g (a ++ c) (b ++ d) p r
  recounts_then a b c d p q r first second =
      record {
        counts = λ n. omega (arith, first.counts n, second.counts n, times-append n a c, times-append n b d);
        kept = λ n below.
            let apart = times-append n a c in
            let moved = first.counts n in
            second.kept n (omega (arith, apart, moved)) ∙ first.kept n (omega (arith, apart));
      }

  -- what was named once more, named once less
  pub recounts_undone : (a : List ℕ) (p q r : P) → Recounts g [] a p q → Recounts g a [] q r → Recounts g [] [] p r
  recounts_undone a p q r first second =
      record {
        counts = λ n. omega (arith, first.counts n, second.counts n);
        kept = λ n below.
            let none = times-nil n in
            let moved = first.counts n in
            second.kept n (omega (arith, none, moved)) ∙ first.kept n below;
      }

  pub recounts_dropped : (k : ℕ) (p q : P) → AddsName k (g.counts q) (g.counts p) → KeepsNamed (g.counts q) (g.pages p) (g.pages q)
      → Recounts g (k ∷ []) [] p q
  recounts_dropped k p q counts kept =
      record {
        counts = λ n. omega (arith, counts n, times-one n k, times-nil n);
        kept = λ n below. kept n (let one = times-one n k in let less = counts n in omega (arith, one, less));
      }

  pub recounts_shared : (k : ℕ) (p q : P) → AddsName k (g.counts p) (g.counts q) → g.pages q ≡ g.pages p → Recounts g [] (k ∷ []) p q
  recounts_shared k p q counts pages =
      record {
        counts = λ n. omega (arith, counts n, times-one n k, times-nil n);
        kept = λ n _. ap (λ all. all n) pages;
      }

  -- ---- one more of the numbers

  pub dropped_more : (i k : ℕ) (numbers : List ℕ) (p q r : P) → i < length numbers → k ≡ get_or numbers i 0
      → Recounts g (take i numbers) [] p q → Recounts g (k ∷ []) [] q r
      → Recounts g (take (i + 1) numbers) [] p r
  dropped_more i k numbers p q r within is first second =
      let next : take (i + 1) numbers ≡ take i numbers ++ k ∷ [] = take_more numbers i 0 within ∙ ap (λ m. take i numbers ++ m ∷ [])
      (sym is) in
      subst (λ (some : List ℕ). Recounts g some [] p r) (sym next) (recounts_then (take i numbers) [] (k ∷ []) [] p q r first second)

  pub shared_more : (i k : ℕ) (numbers : List ℕ) (p q r : P) → i < length numbers → k ≡ get_or numbers i 0
      → Recounts g [] (take i numbers) p q → Recounts g [] (k ∷ []) q r
      → Recounts g [] (take (i + 1) numbers) p r
  shared_more i k numbers p q r within is first second =
      let next : take (i + 1) numbers ≡ take i numbers ++ k ∷ [] = take_more numbers i 0 within ∙ ap (λ m. take i numbers ++ m ∷ [])
      (sym is) in
      subst (λ (some : List ℕ). Recounts g [] some p r) (sym next) (recounts_then [] (take i numbers) [] (k ∷ []) p q r first second)

  -- the number is still named
  pub named_after_drops : (i k : ℕ) (numbers : List ℕ) (p q : P) → i < length numbers → k ≡ get_or numbers i 0
      → ((n : ℕ) → times n numbers ≤ count_of (g.counts p) n) → Recounts g (take i numbers) [] p q
      → 0 < count_of (g.counts q) k
  named_after_drops i k numbers p q within is named so_far =
      omega (arith, times-own i k numbers within is, named k, so_far.counts k, times-nil k)

  pub named_after_shares : (i k : ℕ) (numbers : List ℕ) (p q : P) → i < length numbers → k ≡ get_or numbers i 0
      → ((n : ℕ) → times n numbers ≤ count_of (g.counts p) n) → Recounts g [] (take i numbers) p q
      → 0 < count_of (g.counts q) k
  named_after_shares i k numbers p q within is named so_far =
      omega (arith, times-own i k numbers within is, named k, so_far.counts k, times-nil k)

  -- the number is named as often as it can be
  pub full_after_shares : (i k : ℕ) (numbers : List ℕ) (p q : P) → i < length numbers → k ≡ get_or numbers i 0
      → ((n : ℕ) → times n numbers ≤ 1) → Recounts g [] (take i numbers) p q
      → MAX_PAGES ≤ count_of (g.counts q) k → HasFull g numbers p
  full_after_shares i k numbers p q within is once so_far most =
      let own = times-own i k numbers within is in
      let one = once k in
      let counts = so_far.counts k in
      let none = times-nil k in
      (k, omega (arith, own), omega (arith, own, one, counts, none, most))

  -- ---- one more of the places

  pub shared_place : (i : ℕ) (place : PlaceState) (places : List PlaceState) (p q r : P) → i < length places → place ≡ get_or places i place
      → Recounts g [] (page_numbers (take i places)) p q → Recounts g [] place.pages q r
      → Recounts g [] (page_numbers (take (i + 1) places)) p r
  shared_place i place places p q r within is first second =
      subst (λ (some : List ℕ). Recounts g [] some p r) (sym (page_numbers-more i place places within is))
      (recounts_then [] (page_numbers (take i places)) [] place.pages p q r first second)

  -- its pages are still named
  pub place_after_shares : (i : ℕ) (place : PlaceState) (places : List PlaceState) (p q : P) → i < length places
      → place ≡ get_or places i place
      → ((n : ℕ) → named_in places n ≤ count_of (g.counts p) n) → Recounts g [] (page_numbers (take i places)) p q → (n : ℕ)
      → times n place.pages ≤ count_of (g.counts q) n
  place_after_shares i place places p q within is named so_far n =
      omega (arith, named_in-own n i place places within is, named n, so_far.counts n, times-nil n)

  pub place_once : (i : ℕ) (place : PlaceState) (places : List PlaceState) → i < length places → place ≡ get_or places i place
      → ((n : ℕ) → named_in places n ≤ 1) → (n : ℕ) → times n place.pages ≤ 1
  place_once i place places within is once n = omega (arith, named_in-own n i place places within is, once n)

  pub full_place : (i : ℕ) (place : PlaceState) (places : List PlaceState) (p q : P) → i < length places → place ≡ get_or places i place
      → ((n : ℕ) → named_in places n ≤ 1)
      → Recounts g [] (page_numbers (take i places)) p q → HasFull g place.pages q → HasFull g (page_numbers places) p
  full_place i place places p q within is once so_far full =
      let own = named_in-own full.0 i place places within is in
      let one = once full.0 in
      let counts = so_far.counts full.0 in
      let none = times-nil full.0 in
      let here = full.1 in
      let most = full.2 in
      (full.0, omega (arith, own, here), omega (arith, own, one, here, counts, none, most))

  -- ---- places that are let go: all are named once less, and those that are left as before

  pub all_left : (places : List PlaceState) (p : P) → Recounts g (page_numbers places) (page_numbers places) p p
  all_left places p = record { counts = λ n. refl; kept = λ n _. refl }

  -- the pages of the next one are still named
  pub next_named : (place : PlaceState) (left places : List PlaceState) (p q : P)
      → ((n : ℕ) → named_in places n ≤ count_of (g.counts p) n) → Recounts g (page_numbers places) (page_numbers (place ∷ left)) p q
      → (n : ℕ) → times n place.pages ≤ count_of (g.counts q) n
  next_named place left places p q named so_far n = omega (arith, named n, so_far.counts n, named_in-cons n place left)

  pub next_dropped : (place : PlaceState) (left places : List PlaceState) (p q r : P)
      → Recounts g (page_numbers places) (page_numbers (place ∷ left)) p q → Recounts g place.pages [] q r
      → Recounts g (page_numbers places) (page_numbers left) p r
  next_dropped place left places p q r first second =
      record {
        counts = λ n. omega (arith, first.counts n, second.counts n, named_in-cons n place left, times-nil n);
        kept = λ n below.
            let one = named_in-cons n place left in
            let moved = first.counts n in
            second.kept n (omega (arith, one, moved, below)) ∙ first.kept n below;
      }

  -- ---- the first so many, named once more, are named once less again

  pub named_while_shared : (a : List ℕ) (p q r : P) → Recounts g [] a p q → Recounts g [] [] q r → (n : ℕ)
      → times n a ≤ count_of (g.counts r) n
  named_while_shared a p q r first second n = omega (arith, first.counts n, second.counts n, times-nil n)

  pub undone_after : (a : List ℕ) (p q r s : P) → Recounts g [] a p q → Recounts g [] [] q r → Recounts g a [] r s → Recounts g [] [] p s
  undone_after a p q r s first second third =
      recounts_undone a p r s (subst (λ (some : List ℕ). Recounts g [] some p r) (append-nil a)
      (recounts_then [] a [] [] p q r first second)) third

  -- ---- the same of places

  pub renames_dropped : (places : List PlaceState) (p q : P) → Recounts g (page_numbers places) [] p q → Renames g places [] p q
  unfolding page_numbers
  renames_dropped places p q done = record { counts = done.counts; kept = done.kept }

  pub recounts_dropped_all : (places : List PlaceState) (p q : P) → Renames g places [] p q → Recounts g (page_numbers places) [] p q
  unfolding page_numbers
  recounts_dropped_all places p q done = record { counts = done.counts; kept = done.kept }

  pub renames_shared : (places : List PlaceState) (p q : P) → Recounts g [] (page_numbers places) p q → Renames g [] places p q
  unfolding page_numbers
  renames_shared places p q done = record { counts = done.counts; kept = done.kept }

  pub renames_none : (p q : P) → Recounts g [] [] p q → Renames g [] [] p q
  unfolding page_numbers
  renames_none p q done = record { counts = done.counts; kept = done.kept }

  -- ---- what it leaves of the pool

  pub spares_none : (p : P) → Spares g.room g.failures g.honest p p
  spares_none p = record { room = omega arith; count = refl; honesty = refl }

  pub spares_then : (p q r : P) → Spares g.room g.failures g.honest p q → Spares g.room g.failures g.honest q r → Spares g.room g.failures g.honest p r
  spares_then p q r first second =
      record {
        room = let a = first.room in let b = second.room in omega (arith, a, b);
        count = second.count ∙ first.count;
        honesty = second.honesty ∙ first.honesty;
      }

  pub spares_from : (p q : P) → pools.SparesNumbers g.room g.failures g.cache_size g.honest p q → Spares g.room g.failures g.honest p q
  spares_from p q call = record { room = call.room; count = call.failures; honesty = call.honesty }
