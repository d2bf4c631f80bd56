-- What waits to be written, as buffers in order. No definition of a connection rests on it.
use Rattle.std.specs.Prelude.{◌≡◌, ℕ, ◌<◌, Bool, true, nat_lt, List, [], ◌∷◌, length}
use Rattle.std.specs.List.{list_all}

-- the buffer is not empty
abbrev pub is_filled : List ℕ → Bool
is_filled bytes = nat_lt 0 (length bytes)

-- none of the buffers is empty
abbrev pub AreFilled : List (List ℕ) → Type 0
AreFilled buffers = list_all is_filled buffers ≡ true

-- that many bytes of the first buffer are taken, and not all of it
abbrev pub IsTaken : ℕ → List (List ℕ) → Type 0
IsTaken taken [] = taken ≡ 0
IsTaken taken (first ∷ buffers) = taken < length first

-- the length of the first buffer
abbrev pub first_len : List (List ℕ) → ℕ
first_len [] = 0
first_len (first ∷ buffers) = length first
