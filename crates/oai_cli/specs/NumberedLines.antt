-- The lines of a text, and their numbers. This repository's own.
use Rattle.std.specs.Prelude.{◌≡◌, ℕ, ◌+◌, ◌-◌, ◌^◌, min, List, ◌∷◌, ◌++◌, length}
use Rattle.std.specs.List.{slice_split}
use Rattle.oai_host.specs.Bodies.{is_line_end}

-- the lines of a text: it is split at each line end
abbrev pub lines_of : List ℕ → List (List ℕ)
lines_of text = slice_split is_line_end text

-- the count of lines, up to the greatest number of 64 bits
abbrev pub line_count : ℕ → ℕ
line_count n = min n (2 ^ 64 - 1)

-- the property holds of the first of the lines, up to some of them
pub record AreFirst (lines : List (List ℕ)) (Property : List (List ℕ) → Type 0) : Type 0 where
  pub front : List (List ℕ)
  pub others : List (List ℕ)
  pub cut : lines ≡ front ++ others
  pub holds : Property front

-- the property holds of the line with that number, counted from 1, and of those before it
pub record IsAt (number : ℕ) (lines : List (List ℕ)) (Property : List (List ℕ) → List ℕ → Type 0) : Type 0 where
  pub front : List (List ℕ)
  pub line : List ℕ
  pub others : List (List ℕ)
  pub cut : lines ≡ front ++ line ∷ others
  pub numbered : number ≡ line_count (length front + 1)
  pub holds : Property front line
