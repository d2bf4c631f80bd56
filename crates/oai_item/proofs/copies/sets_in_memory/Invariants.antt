use Rattle.std.proofs.Common.{◌≡◌, ◌++◌, length}
use Rattle.oai_item.proofs.copies.sets_in_memory.Given as goal

-- those that were copied, and those that are to come
abbrev pub invariant-loop-set : goal.invariant-loop-set
invariant-loop-set l = l.copies.items ++ l.sets ≡ l.initial.sets

abbrev pub decreases-loop-set : goal.decreases-loop-set
decreases-loop-set l = length l.sets
