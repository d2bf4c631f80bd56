use Rattle.std.proofs.Common.{◌∙◌, ◌<◌, ap, arith, length, sym, get_or}
use Rattle.std.proofs.lemmas.List.{get_or_read}
use Rattle.oai_sums.specs.Sums.{SetTotal}
use Rattle.oai_sums.proofs.PackedLemmas.{total_at, totals_length}
use Rattle.oai_sums.proofs.packed_counts.PackedCounts.set.Goals as goal

pub index-requires : goal.index-requires
index-requires c =
    let inside = c.self.inside in
    omega (arith, c.requires, ap length c.self.view_is, totals_length 0 inside.sets.items inside.spans.items inside.several.items c.self.invariant, inside.sets.ok.0)

pub returns : goal.returns
returns c = λ d.
    let inside = c.self.inside in
    let within : c.args.at < length inside.sets.items = omega (arith, c.requires, ap length c.self.view_is, totals_length 0 inside.sets.items inside.spans.items inside.several.items c.self.invariant) in
    get_or_read inside.sets.items c.args.at _ within c.index.ensures d.set
    ∙ ap (λ (total : SetTotal). total.set) (sym (total_at 0 inside.sets.items inside.spans.items inside.several.items c.args.at d c.self.invariant within) ∙ ap (λ totals. get_or totals c.args.at d) c.self.view_is)
