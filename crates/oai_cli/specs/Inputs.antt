-- The lines of an input, read one after the other. This repository's own; no contract of a public function rests on it.
use Rattle.std.specs.Prelude.{◌≡◌, ◌⊎◌, ℕ, ◌+◌, Bool, true, false, List, [], ◌∷◌, ◌++◌, Option, Some, None, Result, Ok, Err, if◌then◌else◌}
use Rattle.std.specs.Io.KnownBytes.{prepend_known}
use Rattle.std.specs.Option.{option_map}
use Rattle.oai_cli.specs.NumberedLines.{line_count, lines_of}
use Rattle.oai_startup.specs.declared.stop.Stop.{Stop}
use Rattle.oai_startup.specs.declared.stop.Stop.TheVariants.{InputFault, NoMemory}

-- an input that is read: the bytes that were read ahead, whether all lines were returned, and the line that was
-- returned last, with its number
pub record Input : Type 0 where
  pub ahead : List ℕ
  pub is_over : Bool
  pub line : List ℕ
  pub number : ℕ

-- nothing was read yet
abbrev pub unread : Input
unread = record { ahead = []; is_over = false; line = []; number = 0 }

-- the remaining lines, if the remaining bytes of the reader are known
abbrev pub left : Input → Option (List ℕ) → Option (List (List ℕ))
left input known = if input.is_over then Some [] else option_map lines_of (prepend_known input.ahead known)

-- the next of these lines was returned, or there is none
abbrev pub IsNextLine : Option (List (List ℕ)) → Result Bool Stop → List ℕ → Option (List (List ℕ)) → Type 0
IsNextLine None result line after = Unit {0}
IsNextLine (Some lines) (Ok true) line None = ⊥
IsNextLine (Some lines) (Ok true) line (Some others) = lines ≡ line ∷ others
IsNextLine (Some lines) (Ok false) line after = lines ≡ []
IsNextLine (Some lines) (Err stop) line after = Unit {0}

-- lines are counted from 1, up to the greatest number of 64 bits
abbrev pub numbered : Bool → ℕ → ℕ
numbered some number = if some then line_count (number + 1) else number

-- the input could not be read to its end, or memory ran out
abbrev pub IsUnread : Stop → Type 0
IsUnread stop = (stop ≡ InputFault) ⊎ (stop ≡ NoMemory)

-- ---- within a line

-- the lines of what follows, the first of which continues a line that has begun
abbrev pub onto_line : List ℕ → List (List ℕ) → List (List ℕ)
onto_line begun [] = begun ∷ []
onto_line begun (line ∷ lines) = (begun ++ line) ∷ lines

-- what was read ahead ends the line, or continues it
abbrev pub IsLinePiece : Input → Result Bool Stop → Input → Type 0
IsLinePiece old (Ok true) new =
    (rest : List ℕ) → onto_line old.line (lines_of (old.ahead ++ rest)) ≡ new.line ∷ lines_of (new.ahead ++ rest)
IsLinePiece old (Ok false) new = (rest : List ℕ) → onto_line old.line (lines_of (old.ahead ++ rest)) ≡ onto_line new.line (lines_of rest)
IsLinePiece old (Err stop) new = stop ≡ NoMemory

-- a line that has begun continues with that text
abbrev pub IsGoing : Option (List (List ℕ)) → List ℕ → Option (List ℕ) → Type 0
IsGoing None line text = Unit {0}
IsGoing (Some lines) line None = ⊥
IsGoing (Some lines) line (Some text) = lines ≡ onto_line line (lines_of text)

-- ---- while the lines are performed

-- the first of the lines of an input were done, and these others remain
abbrev pub IsReadSoFar : Option (List ℕ) → Option (List (List ℕ)) → (List (List ℕ) → Type 0) → Type 0
IsReadSoFar None left Done = Unit {0}
IsReadSoFar (Some input) None Done = ⊥
IsReadSoFar (Some input) (Some others) Done = (front : List (List ℕ)) × (lines_of input ≡ front ++ others) × Done front
