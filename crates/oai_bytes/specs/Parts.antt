-- The parts of a line, between single spaces. This repository's own.
use Rattle.std.specs.Prelude.{ℕ, ◌==◌, Bool, List}
use Rattle.std.specs.List.{before_first, after_first}

abbrev pub is_separator : ℕ → Bool
is_separator b = b == 32

-- what precedes the first space, and what follows it
abbrev pub part : List ℕ → List ℕ
part text = before_first is_separator text

abbrev pub rest : List ℕ → List ℕ
rest text = after_first is_separator text
