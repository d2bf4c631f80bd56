-- How often numbers and places name a page.
use Rattle.std.proofs.Common.{◌≡◌, ◌∙◌, ◌+◌, ◌<◌, ℕ, cond, if◌then◌else◌, ◌==◌, nat_eq, List, [], ◌∷◌, ◌++◌, length, refl, ap, arith, get_or}
use Rattle.std.proofs.lemmas.Grind.{flat_map-append}
use Rattle.std.proofs.lemmas.List.Sums.{sum_by-append, sum_by-cons}
use Rattle.std.specs.Cmp.{nat_eq_equiv}
use Rattle.oai_pool.specs.Names.{times}
use Rattle.oai_places.specs.Places.{PlaceState, named_in, page_numbers}

-- numbers one after the other
pub times-append : (n : ℕ) (a b : List ℕ) → times n (a ++ b) ≡ times n a + times n b
unfolding times
times-append n a b = sum_by-append (λ m. cond (nat_eq n m) 1 0) a b

-- no numbers, and one
pub times-nil : (n : ℕ) → times n [] ≡ 0
unfolding times
times-nil n = refl

pub times-one : (n k : ℕ) → times n (k ∷ []) ≡ (if n == k then 1 else 0)
unfolding times
times-one n k = omega arith

pub page_numbers-append : (a b : List PlaceState) → page_numbers (a ++ b) ≡ page_numbers a ++ page_numbers b
unfolding page_numbers
page_numbers-append a b = flat_map-append (λ (place : PlaceState). place.pages) a b

-- places one after the other
pub named_in-append : (n : ℕ) (a b : List PlaceState) → named_in (a ++ b) n ≡ named_in a n + named_in b n
named_in-append n a b = ap (times n) (page_numbers-append a b) ∙ times-append n (page_numbers a) (page_numbers b)

-- no places
pub named_in-nil : (n : ℕ) → named_in [] n ≡ 0
unfolding page_numbers
named_in-nil n = times-nil n

-- a place before others
pub named_in-cons : (n : ℕ) (place : PlaceState) (places : List PlaceState) → named_in (place ∷ places) n ≡ times n place.pages + named_in places n
unfolding page_numbers
named_in-cons n place places = times-append n place.pages (page_numbers places)

-- a number before others
pub times-cons : (n k : ℕ) (ks : List ℕ) → times n (k ∷ ks) ≡ cond (nat_eq n k) 1 0 + times n ks
unfolding times
times-cons n k ks = sum_by-cons (λ m. cond (nat_eq n m) 1 0) k ks

pub times-here : (k : ℕ) (ks : List ℕ) → times k (k ∷ ks) ≡ 1 + times k ks
times-here k ks = times-cons k k ks ∙ ap (λ b. cond b 1 0 + times k ks) (nat_eq_equiv.refl k)

-- the first of numbers is one of them
pub times-first : (numbers : List ℕ) → 0 < length numbers → 0 < times (get_or numbers 0 0) numbers
times-first [] some = absurd (omega arith)
times-first (k ∷ numbers) some = omega (arith, times-here k numbers)

-- a number of a place is one of its directory
pub named_own : (n : ℕ) (place : PlaceState) (places : List PlaceState) → 0 < times n place.pages → 0 < named_in (place ∷ places) n
named_own n place places named = omega (arith, named, named_in-cons n place places)
