use Rattle.std.proofs.Common.{◌≡◌, ◌≤◌, ℕ, length, take, true}
use Rattle.oai_sums.specs.Sums.{is_unsaid, totals_from}
use Rattle.oai_sums.proofs.set_counts.SetCounts.pack.Given as goal

-- the sets so far are packed, and nothing is said of the next ones
abbrev pub invariant-loop-at : goal.invariant-loop-at
invariant-loop-at l = record {
  sets : length l.sets.items ≡ l.at;
  spans : length l.spans.items ≡ l.at;
  totals : totals_from 0 l.sets.items l.spans.items l.several.items ≡ take l.at l.self;
  unsaid : (at : ℕ) → l.at ≤ at → is_unsaid l.several.items at ≡ true;
}
