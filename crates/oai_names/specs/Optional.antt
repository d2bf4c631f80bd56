-- What may be missing: a parser returns what it read, or none. This repository's own.
use Rattle.std.specs.Prelude.{Bool, if◌then◌else◌, Option, Some, None, List, [], ◌∷◌}

-- one parser after another: if the first returns none, so does the whole. `x >>= f` is std's `option_and_then f x`, in
-- the words of `do`
infixl 10 ◌>>=◌
abbrev pub ◌>>=◌ : {A B : Type 0} → Option A → (A → Option B) → Option B
(Some x) >>= f = f x
None >>= f = None

-- the parser applied to each of a list, in order: all results, or none
abbrev pub each_of : {A B : Type 0} → (A → Option B) → List A → Option (List B)
each_of read [] = Some []
each_of read (x ∷ xs) = do
  y ← read x
  ys ← each_of read xs
  Some (y ∷ ys)

-- the value, if it passes the test
abbrev pub tested : {A : Type 0} → (A → Bool) → A → Option A
tested passes x = if passes x then Some x else None
