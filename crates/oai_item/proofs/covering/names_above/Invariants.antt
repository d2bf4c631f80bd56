use Rattle.std.proofs.Common.{◌≡◌, ◌||◌, ℕ, List, length}
use Rattle.std.specs.List.{list_any}
use Rattle.oai_item.specs.Membership.{is_above}
use Rattle.oai_item.specs.Reductions.{holds}
use Rattle.oai_item.proofs.covering.names_above.Given as goal

-- the names above the sets that are left are still to come
abbrev pub invariant-loop-set : goal.invariant-loop-set
invariant-loop-set l = (q : List ℕ) → (holds l.names q || list_any (is_above q) l.rest) ≡ list_any (is_above q) l.sets

abbrev pub decreases-loop-set : goal.decreases-loop-set
decreases-loop-set l = length l.rest
