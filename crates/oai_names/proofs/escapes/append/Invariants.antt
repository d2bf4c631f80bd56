use Rattle.std.proofs.Common.{◌≡◌, ◌++◌, ℕ, List, length}
use Rattle.oai_names.specs.Escapes.{escaped}
use Rattle.oai_names.proofs.escapes.append.Given as goal

-- what was appended spells what stands before the rest
abbrev pub invariant-loop-b : goal.invariant-loop-b
invariant-loop-b l =
    (front : List ℕ) × (l.text ≡ front ++ l.rest) × (l.out.items ≡ l.fn.out.items ++ escaped l.place front)

abbrev pub decreases-loop-b : goal.decreases-loop-b
decreases-loop-b l = length l.rest
