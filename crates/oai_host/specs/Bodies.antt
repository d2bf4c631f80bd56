-- The bodies of deposits, and their lines: this repository's own.
use Rattle.std.specs.Prelude.{ℕ, Bool, ◌==◌, ◌||◌, not, List, filter}
use Rattle.std.specs.List.{list_all, slice_split}

-- the byte ends a line
abbrev pub is_line_end : ℕ → Bool
is_line_end b = b == 10

-- a line of nothing but spaces, tabs and CR
abbrev pub is_blank : List ℕ → Bool
is_blank text = list_all (λ b. b == 32 || b == 9 || b == 13) text

-- the lines of a deposit: the body is split at each line end, and blank lines are skipped
abbrev pub lines_in : List ℕ → List (List ℕ)
lines_in body = filter (λ (text : List ℕ). not (is_blank text)) (slice_split is_line_end body)
