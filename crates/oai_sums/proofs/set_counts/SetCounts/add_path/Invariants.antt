use Rattle.std.proofs.Common.{◌≡◌, ◌+◌, ◌&&◌, ℕ, List, length, not}
use denote.Text.{Utf8}
use denote.Shadow.{shadow}
use Rattle.oai_item.specs.Membership.{is_above, is_in}
use Rattle.oai_names.specs.Sets.{covers}
use Rattle.oai_sums.specs.Sums.{counted_in, one_if, span_in}
use Rattle.oai_sums.proofs.SpanLemmas.{spanned}
use Rattle.oai_sums.proofs.set_counts.SetCounts.add_path.Given as goal

-- the sets above the path are still to come
abbrev pub invariant-loop-parent : goal.invariant-loop-parent
invariant-loop-parent l = record {
  text : shadow (Utf8 l.path);
  counts : (q : List ℕ) → counted_in q l.self + one_if (is_above q l.path && not (is_in q l.others))
      ≡ counted_in q l.fn.self + one_if (covers q l.set && not (is_in q l.others));
  spans : (q : List ℕ) → spanned (is_above q l.path && not (is_in q l.others)) l.span (span_in q l.self)
      ≡ spanned (covers q l.set && not (is_in q l.others)) l.span (span_in q l.fn.self);
}

abbrev pub decreases-loop-parent : goal.decreases-loop-parent
decreases-loop-parent l = length l.path
