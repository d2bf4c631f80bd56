use Rattle.std.proofs.Common.{◌≡◌, ◌+◌, ℕ, List, take}
use Rattle.oai_sums.specs.Sums.{counted_in}
use Rattle.oai_sums.proofs.set_counts.SetCounts.add_all.Given as goal

-- the first so many of the others are counted too
abbrev pub invariant-loop-at : goal.invariant-loop-at
invariant-loop-at l = (q : List ℕ) → counted_in q l.self ≡ counted_in q l.fn.self + counted_in q (take l.at l.others)
