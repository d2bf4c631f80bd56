use Rattle.std.proofs.Common.{◌≡◌, drop}
use Rattle.oai_sums.specs.Sums.{count_at}
use Rattle.oai_sums.proofs.packed_counts.PackedCounts.count_at.Given as goal

-- those so far are none of that place
abbrev pub invariant-loop-index : goal.invariant-loop-index
invariant-loop-index l = count_at (drop l.index l.self-inside.several.items) l.at ≡ count_at l.self-inside.several.items l.at
