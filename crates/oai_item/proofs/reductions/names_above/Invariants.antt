use Rattle.std.proofs.Common.{◌≡◌, ℕ, List, take}
use Rattle.std.specs.List.{list_any}
use Rattle.oai_item.specs.Membership.{is_above}
use Rattle.oai_item.specs.Reductions.{holds}
use Rattle.oai_item.proofs.reductions.names_above.Given as goal

-- the names above the sets so far
abbrev pub invariant-loop-set : goal.invariant-loop-set
invariant-loop-set l = (q : List ℕ) → holds l.names q ≡ list_any (is_above q) (take l.set-index l.sets)
