use Rattle.std.proofs.Common.{◌≡◌, length}
use Rattle.oai_item.specs.Membership.{is_in}
use Rattle.oai_sums.proofs.set_counts.is_in.Given as goal

abbrev pub invariant-loop-other : goal.invariant-loop-other
invariant-loop-other l = is_in l.set l.sets ≡ is_in l.set l.initial.sets

abbrev pub decreases-loop-other : goal.decreases-loop-other
decreases-loop-other l = length l.sets
