use Rattle.std.proofs.Common.{◌≡◌, ◌+◌, ℕ, List, length}
use Rattle.oai_item.specs.Membership.{is_in}
use Rattle.oai_sums.specs.Sums.{counted_in, one_if, span_in}
use Rattle.oai_sums.proofs.SpanLemmas.{spanned}
use Rattle.oai_sums.proofs.set_counts.SetCounts.add.Given as goal

-- the sets of the setSpecs that are left are still to come
abbrev pub invariant-loop-set : goal.invariant-loop-set
invariant-loop-set l = record {
  counts : (q : List ℕ) → counted_in q l.self + one_if (is_in q l.rest) ≡ counted_in q l.fn.self + one_if (is_in q l.fn.sets);
  spans : (q : List ℕ) → spanned (is_in q l.rest) l.span (span_in q l.self) ≡ spanned (is_in q l.fn.sets) l.span (span_in q l.fn.self);
}

abbrev pub decreases-loop-set : goal.decreases-loop-set
decreases-loop-set l = length l.rest
