use Rattle.std.proofs.Common.{◌≡◌, ◌∙◌, ◌<◌, List, Some, false, ap, arith, length, sym, get_or}
use Rattle.std.specs.Str.{bytes_eq}
use Rattle.oai_sums.specs.Sums.{SetTotal}
use Rattle.oai_sums.proofs.CountLemmas.{counted_at, counted_past}
use Rattle.oai_sums.proofs.SpanLemmas.{span_at, span_past}
use Rattle.oai_sums.proofs.PackedLemmas.{no_total, read_any}
use Rattle.oai_sums.proofs.packed_counts.PackedCounts.items_of.Goals as goal

pub returns-then-eq-clause-count : goal.returns-then-eq-clause-count
returns-then-eq-clause-count c =
    let totals : List SetTotal = c.args.self.now in
    let own : SetTotal = get_or totals c.loop-at.at no_total in
    let within : c.loop-at.at < length totals = omega (arith, c.loop-at-test.true, c.len-at-end.ensures) in
    (c.count_at.ensures no_total)
    ∙ counted_at c.args.set.now totals c.loop-at.at own within (read_any totals c.loop-at.at no_total own within)
    (ap (bytes_eq c.args.set.now) (sym (c.as_str.ensures ∙ c.set.ensures no_total)) ∙ sym c.eq.ensures ∙ c.if-eq.true)
    ∙ c.loop-at.invariant.0

pub returns-then-eq-clause-span : goal.returns-then-eq-clause-span
returns-then-eq-clause-span c =
    let totals : List SetTotal = c.args.self.now in
    let own : SetTotal = get_or totals c.loop-at.at no_total in
    let within : c.loop-at.at < length totals = omega (arith, c.loop-at-test.true, c.len-at-end.ensures) in
    ap Some (c.span_at.ensures no_total)
    ∙ span_at c.args.set.now totals c.loop-at.at own within (read_any totals c.loop-at.at no_total own within)
    (ap (bytes_eq c.args.set.now) (sym (c.as_str.ensures ∙ c.set.ensures no_total)) ∙ sym c.eq.ensures ∙ c.if-eq.true)
    ∙ c.loop-at.invariant.1

pub loop-at-preserved : goal.loop-at-preserved
loop-at-preserved c =
    let totals : List SetTotal = c.args.self.now in
    let own : SetTotal = get_or totals c.loop-at.at no_total in
    let within : c.loop-at.at < length totals = omega (arith, c.loop-at-test.true, c.len-at-end.ensures) in
    let other : bytes_eq c.args.set.now own.set ≡ false =
    ap (bytes_eq c.args.set.now) (sym (c.as_str.ensures ∙ c.set.ensures no_total)) ∙ sym c.eq.ensures ∙ c.if-eq.false in
    let read = read_any totals c.loop-at.at no_total own within in (
      counted_past c.args.set.now totals c.loop-at.at own within read other ∙ c.loop-at.invariant.0,
      span_past c.args.set.now totals c.loop-at.at own within read other ∙ c.loop-at.invariant.1,
    )
