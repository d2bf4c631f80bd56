use Rattle.std.proofs.Common.{◌≡◌, ◌≢◌, ◌∙◌, ◌+◌, ◌<◌, ◌++◌, ◌∷◌, [], ℕ, List, ap, arith, length, length-append, sym, take}
use Rattle.std.proofs.lemmas.List.{take_more}
use Rattle.oai_sums.specs.Sums.{SetTotal, count_at, totals_from}
use Rattle.oai_sums.specs.declared.packed_counts.PackedCount.{PackedCount}
use Rattle.oai_sums.specs.declared.spans.Span.{Span}
use Rattle.oai_sums.proofs.PackedLemmas.{totals_more}
use Rattle.oai_sums.proofs.set_counts.SetCounts.pack.Goals as goal

pub loop-at-preserved : goal.loop-at-preserved
loop-at-preserved c =
    let totals : List SetTotal = c.args.self.now in
    let at : ℕ = c.loop-at.at in
    let own : SetTotal = c.index-count.result.now in
    let sets : List (List ℕ) = c.loop-at.sets.items in
    let spans : List Span = c.loop-at.spans.items in
    let old : List PackedCount = c.loop-at.several.items in
    let new : List PackedCount = c.say_count.new.several.items in
    let set : List ℕ = c.in_ok-copy.field-0 in
    let span : Span = c.count.inside.span in
    let items : List SetTotal = c.self.inside.counts.items in
    let within : at < length items = omega (arith, c.loop-at-test.true, c.len-len.ensures, c.self.inside.counts.ok.0) in
    let same : length spans ≡ length sets = c.loop-at.invariant.spans ∙ sym c.loop-at.invariant.sets in
    let kept : (other : ℕ) → other < 0 + length sets → other ≢ at = λ other below. omega (arith, below, c.loop-at.invariant.sets) in
    let counted : count_at new (0 + length sets) ≡ c.count.inside.count = ap (count_at new) (omega (arith, c.loop-at.invariant.sets)) ∙ c.in_ok-say_count.ensures.own in
    let last : record { set = set; count = count_at new (0 + length sets); span = span } ≡ own = (λ i. record { set = c.in_ok-copy.ensures i; count = counted i; span = span }) ∙ c.count.view_is in
    record {
      sets = ap length c.in_ok-push.ensures ∙ length-append sets (set ∷ []) ∙ omega (arith, c.loop-at.invariant.sets);
      spans = ap length c.in_ok-push-2.ensures ∙ length-append spans (span ∷ []) ∙ omega (arith, c.loop-at.invariant.spans);
      totals = (λ i. totals_from 0 (c.in_ok-push.ensures i) (c.in_ok-push-2.ensures i) new)
          ∙ totals_more 0 sets spans old new set span same (λ other below. c.in_ok-say_count.ensures.others other (kept other below))
          ∙ (λ i. c.loop-at.invariant.totals i ++ last i ∷ [])
          ∙ (λ i. take at (sym c.self.view_is i) ++ c.index-count.ensures i ∷ [])
          ∙ sym (take_more items at own within)
          ∙ ap (take (at + 1)) c.self.view_is;
      unsaid = λ other above. c.in_ok-say_count.ensures.unsaid other (omega (arith, above)) (c.loop-at.invariant.unsaid other (omega (arith, above)));
    }
