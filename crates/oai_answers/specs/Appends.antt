-- What each writer does, for contracts and proofs: this repository's own.
use Rattle.std.specs.Prelude.{◌≡◌, ℕ, List, ◌++◌}

-- the piece was appended to the buffer
pub record Appends (old new piece : List ℕ) : Type 0 where
  pub is : new ≡ old ++ piece
