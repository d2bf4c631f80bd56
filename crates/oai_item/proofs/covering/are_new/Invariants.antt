use Rattle.std.proofs.Common.{◌≡◌, length}
use Rattle.oai_item.specs.Reductions.{are_fresh, holds}
use Rattle.oai_item.proofs.covering.are_new.Given as goal

-- those that are left are none of the names and of the sets so far, just where all are new
abbrev pub invariant-loop-set : goal.invariant-loop-set
invariant-loop-set l = are_fresh (holds l.names) l.rest ≡ are_fresh (holds l.initial.names) l.sets

abbrev pub decreases-loop-set : goal.decreases-loop-set
decreases-loop-set l = length l.rest
