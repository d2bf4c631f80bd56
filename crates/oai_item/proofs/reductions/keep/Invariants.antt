use Rattle.std.proofs.Common.{ℕ, List}
use Rattle.oai_item.proofs.Flagged.{Keeps}
use Rattle.oai_item.proofs.reductions.keep.Given as goal

-- those that stay of the setSpecs so far stand in front, and the others as they stood
abbrev pub invariant-loop-at : goal.invariant-loop-at
invariant-loop-at l = Keeps {X = List ℕ} l.stay l.initial.sets.items l.sets.items l.kept l.at
