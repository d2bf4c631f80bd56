use Rattle.std.proofs.Common.{◌≡◌, length}
use Rattle.oai_item.specs.Membership.{none_covers}
use Rattle.oai_item.proofs.covering.no_pair_covers.Given as goal

abbrev pub invariant-loop-set : goal.invariant-loop-set
invariant-loop-set l = none_covers l.rest ≡ none_covers l.sets

abbrev pub decreases-loop-set : goal.decreases-loop-set
decreases-loop-set l = length l.rest
