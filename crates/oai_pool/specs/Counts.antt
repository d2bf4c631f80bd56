-- The reference counts of the pages of a pool: a list with a count for each number, 0 after its end.
use Rattle.std.specs.Prelude.{◌≡◌, ◌+◌, ◌-◌, ◌<◌, ◌==◌, if◌then◌else◌, ℕ, List, Option, min, sum_by, slice_index}
use Rattle.oai_pool.specs.declared.pools.TheConstants.{MAX_PAGES}

-- the reference count of the number
abbrev pub count_of : List ℕ → ℕ → ℕ
count_of counts n = slice_index counts n

-- how many numbers are referenced
abbrev pub used_of : List ℕ → ℕ
used_of counts = sum_by (λ count. min count 1) counts

-- how many more numbers can be referenced
abbrev pub room_of : List ℕ → ℕ
room_of counts = MAX_PAGES - used_of counts

-- the reference count of the number is incremented, and each other is unchanged
abbrev pub AddsName : ℕ → List ℕ → List ℕ → Type 0
AddsName k old new = (n : ℕ) → count_of new n ≡ count_of old n + (if n == k then 1 else 0)

-- each referenced number is still referenced
abbrev pub StaysNamed : List ℕ → List ℕ → Type 0
StaysNamed old new = (n : ℕ) → 0 < count_of old n → 0 < count_of new n

-- each referenced number has the page that it had
abbrev pub KeepsNamed : List ℕ → (ℕ → Option (List ℕ)) → (ℕ → Option (List ℕ)) → Type 0
KeepsNamed counts old new = (n : ℕ) → 0 < count_of counts n → new n ≡ old n
