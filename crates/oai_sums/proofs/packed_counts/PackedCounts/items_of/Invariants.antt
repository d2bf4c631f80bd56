use Rattle.std.proofs.Common.{◌≡◌, drop}
use Rattle.oai_sums.specs.Sums.{counted_in, span_in}
use Rattle.oai_sums.proofs.packed_counts.PackedCounts.items_of.Given as goal

-- the set is none of those so far
abbrev pub invariant-loop-at : goal.invariant-loop-at
invariant-loop-at l = (counted_in l.set (drop l.at l.self) ≡ counted_in l.set l.self) × (span_in l.set (drop l.at l.self) ≡ span_in l.set l.self)
