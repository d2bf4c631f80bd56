-- Things with numbers, in the order of their numbers, such as open lists and connections. This repository's own. The
-- function `number_of` gives the number of a thing.
use Rattle.std.specs.Prelude.{◌≡◌, ◌+◌, ◌<◌, ℕ, Bool, true, not, ◌&&◌, ◌==◌, nat_lt, List, [], ◌∷◌, length, take, drop, Option, MatchOption}
use Rattle.std.specs.List.{HoldsAt, list_all}

-- the thing has that number
abbrev pub has_number : {A : Type 0} → (A → ℕ) → ℕ → A → Bool
has_number number_of number x = number_of x == number

-- the first has the lower number
abbrev pub is_lower : {A : Type 0} → (A → ℕ) → A → A → Bool
is_lower number_of a b = nat_lt (number_of a) (number_of b)

-- the numbers rise strictly
abbrev pub numbers_rise : {A : Type 0} → (A → ℕ) → List A → Bool
numbers_rise number_of [] = true
numbers_rise number_of (x ∷ xs) = list_all (is_lower number_of x) xs && numbers_rise number_of xs

-- none of the things has that number
abbrev pub none_has : {A : Type 0} → (A → ℕ) → ℕ → List A → Type 0
none_has number_of number xs = list_all (λ x. not (has_number number_of number x)) xs ≡ true

-- the position of the thing with that number: there, and nowhere else
abbrev pub IsPlaceOf : {A : Type 0} → (A → ℕ) → ℕ → List A → Option ℕ → Type 0
IsPlaceOf number_of number xs place = MatchOption place (none_has number_of number xs)
    (λ at. (at < length xs) × HoldsAt (λ x. has_number number_of number x ≡ true) xs at
    × none_has number_of number (take at xs) × none_has number_of number (drop (at + 1) xs))
