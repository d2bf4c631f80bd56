use Rattle.std.specs.Prelude.{◌&&◌}
use Rattle.std.proofs.Common.{◌∙◌, ap, arith, not, sym, rules}
use Rattle.std.specs.Str.{bytes_eq}
use Rattle.oai_item.specs.Membership.{is_above, is_in}
use Rattle.oai_item.proofs.Above.{parent_shorter}
use Rattle.oai_names.specs.Sets.{covers}
use Rattle.oai_sums.specs.Sums.{span_in}
use Rattle.oai_sums.proofs.CountLemmas.{above_none, above_parts, path_parts}
use Rattle.oai_sums.proofs.SpanLemmas.{above_either, above_no, path_either, spanned, spanned_next}
use Rattle.oai_sums.proofs.set_counts.SetCounts.add_path.Goals as goal

pub loop-parent-init : goal.loop-parent-init
loop-parent-init c =
    let set = c.args.set.now in
    let others = c.args.others.now in
    record {
      text = search rules;
      counts = λ q. omega (arith, c.in_ok-add_unless.ensures.counts q, path_parts q set (not (is_in q others)));
      spans = λ q. spanned_next q (bytes_eq q set && not (is_in q others)) (is_above q set && not (is_in q others)) (covers q set && not (is_in q others)) c.args.span c.args.self.now c.add_unless.new.self
          (c.in_ok-add_unless.ensures.spans q) (path_either q set (not (is_in q others)));
    }

pub loop-parent-smaller : goal.loop-parent-smaller
loop-parent-smaller c = parent_shorter c.loop-parent.path.now c.in-Some.parent.now (sym c.in-Some.ensures)

pub loop-parent-preserved : goal.loop-parent-preserved
loop-parent-preserved c =
    let path = c.loop-parent.path.now in
    let parent = c.in-Some.parent.now in
    let others = c.args.others.now in
    record {
      text = search rules;
      counts = λ q. omega (arith, c.loop-parent.invariant.counts q, c.in_ok-add_unless-2.ensures.counts q, above_parts q path parent (not (is_in q others)) (sym c.in-Some.ensures));
      spans = λ q. spanned_next q (bytes_eq q parent && not (is_in q others)) (is_above q parent && not (is_in q others)) (is_above q path && not (is_in q others)) c.args.span c.loop-parent.self c.add_unless-in-Some.new.self
          (c.in_ok-add_unless-2.ensures.spans q) (above_either q path parent (not (is_in q others)) (sym c.in-Some.ensures))
          ∙ c.loop-parent.invariant.spans q;
    }

pub returns : goal.returns
returns c =
    let path = c.loop-parent.path.now in
    let others = c.args.others.now in
    record {
      counts = λ q. omega (arith, c.loop-parent.invariant.counts q, above_none q path (not (is_in q others)) (sym c.in_default.ensures));
      spans = λ q. ap (λ so. spanned so c.args.span (span_in q c.loop-parent.self)) (sym (above_no q path (not (is_in q others)) (sym c.in_default.ensures)))
          ∙ c.loop-parent.invariant.spans q;
    }
