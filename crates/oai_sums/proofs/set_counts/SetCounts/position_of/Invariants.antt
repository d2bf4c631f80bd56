use Rattle.std.proofs.Common.{◌≡◌, take, true}
use Rattle.oai_sums.specs.Sums.{lacks}
use Rattle.oai_sums.proofs.set_counts.SetCounts.position_of.Given as goal

-- the set is none of those so far
abbrev pub invariant-loop-at : goal.invariant-loop-at
invariant-loop-at l = lacks l.set (take l.at l.self) ≡ true
