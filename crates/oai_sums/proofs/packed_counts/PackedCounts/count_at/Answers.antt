use Rattle.std.proofs.Common.{◌∙◌, ◌<◌, ◌≤◌, ap, arith, length, sym, get_or}
use Rattle.std.proofs.lemmas.List.{drop_all}
use Rattle.oai_sums.specs.Sums.{SetTotal, count_at}
use Rattle.oai_sums.specs.declared.packed_counts.PackedCount.{PackedCount}
use Rattle.oai_sums.proofs.PackedLemmas.{count_found, count_past, total_at, totals_length}
use Rattle.oai_sums.proofs.packed_counts.PackedCounts.count_at.Goals as goal

pub returns-then-own-at : goal.returns-then-own-at
returns-then-own-at c = λ d.
    let inside = c.self.inside in
    let own : PackedCount = c.index-own.result.now in
    let within : c.args.at < length inside.sets.items = omega (arith, c.requires, ap length c.self.view_is, totals_length 0 inside.sets.items inside.spans.items inside.several.items c.self.invariant) in
    let before : c.loop-index.index < length inside.several.items = omega (arith, c.loop-index-test.true, c.len-index-end.ensures, inside.several.ok.0) in
    count_found inside.several.items c.loop-index.index c.args.at own before c.index-own.ensures c.if-own-at.true
    ∙ c.loop-index.invariant
    ∙ ap (count_at inside.several.items) (omega arith)
    ∙ ap (λ (total : SetTotal). total.count) (sym (total_at 0 inside.sets.items inside.spans.items inside.several.items c.args.at d c.self.invariant within) ∙ ap (λ totals. get_or totals c.args.at d) c.self.view_is)

pub loop-index-preserved : goal.loop-index-preserved
loop-index-preserved c =
    let inside = c.self.inside in
    let own : PackedCount = c.index-own.result.now in
    let before : c.loop-index.index < length inside.several.items = omega (arith, c.loop-index-test.true, c.len-index-end.ensures, inside.several.ok.0) in
    count_past inside.several.items c.loop-index.index c.args.at own before c.index-own.ensures c.if-own-at.false ∙ c.loop-index.invariant

pub returns : goal.returns
returns c = λ d.
    let inside = c.self.inside in
    let within : c.args.at < length inside.sets.items = omega (arith, c.requires, ap length c.self.view_is, totals_length 0 inside.sets.items inside.spans.items inside.several.items c.self.invariant) in
    let past : length inside.several.items ≤ c.loop-index.index = omega (arith, c.loop-index-test.false, c.len-index-end.ensures, inside.several.ok.0) in
    sym (ap (λ zs. count_at zs c.args.at) (drop_all c.loop-index.index inside.several.items past))
    ∙ c.loop-index.invariant
    ∙ ap (count_at inside.several.items) (omega arith)
    ∙ ap (λ (total : SetTotal). total.count) (sym (total_at 0 inside.sets.items inside.spans.items inside.several.items c.args.at d c.self.invariant within) ∙ ap (λ totals. get_or totals c.args.at d) c.self.view_is)
