use Rattle.std.proofs.Common.{◌≡◌, length}
use Rattle.std.specs.Cmp.Lexicographic.{pointwise}
use Rattle.std.specs.Str.{bytes_eq}
use Rattle.oai_holdings.proofs.changes.sameness.are_same_sets.Given as goal

-- the answer to those that are to come is that to all
abbrev pub invariant-loop-set : goal.invariant-loop-set
invariant-loop-set l = pointwise bytes_eq l.left l.others_left ≡ pointwise bytes_eq l.sets l.others

abbrev pub decreases-loop-set : goal.decreases-loop-set
decreases-loop-set l = length l.left
