use Rattle.std.specs.Prelude.{◌&&◌}
use Rattle.std.proofs.Common.{◌∙◌, ap, arith, not, refl, sym}
use Rattle.oai_item.specs.Membership.{is_in}
use Rattle.oai_names.specs.Sets.{covers}
use Rattle.oai_sums.specs.Sums.{one_if, span_in}
use Rattle.oai_sums.proofs.CountLemmas.{in_none, in_parts}
use Rattle.oai_sums.proofs.SpanLemmas.{in_either, in_no, spanned, spanned_next}
use Rattle.oai_sums.proofs.set_counts.SetCounts.add.Goals as goal

pub loop-set-init : goal.loop-set-init
loop-set-init c = record { counts = λ q. refl; spans = λ q. refl }

pub loop-set-preserved : goal.loop-set-preserved
loop-set-preserved c =
    let set = c.in-Some.set.now in
    let sets = c.next.new.self in
    record {
      counts = λ q. omega (arith, c.loop-set.invariant.counts q, c.in_ok-add_path.ensures.counts q, in_parts q set sets, ap (λ s. one_if (is_in q s)) c.in-Some.ensures.next);
      spans = λ q. spanned_next q (covers q set && not (is_in q sets)) (is_in q sets) (is_in q c.loop-set.rest) c.args.span c.loop-set.self c.add_path.new.self
          (c.in_ok-add_path.ensures.spans q) (in_either q set sets ∙ ap (is_in q) (sym c.in-Some.ensures.next))
          ∙ c.loop-set.invariant.spans q;
    }

pub returns : goal.returns
returns c = record {
  counts = λ q. omega (arith, c.loop-set.invariant.counts q, in_none q, ap (λ s. one_if (is_in q s)) c.in_default.ensures.next);
  spans = λ q. ap (λ so. spanned so c.args.span (span_in q c.loop-set.self)) (sym (ap (is_in q) c.in_default.ensures.next ∙ in_no q))
      ∙ c.loop-set.invariant.spans q;
}
