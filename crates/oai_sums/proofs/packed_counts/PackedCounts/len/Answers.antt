use Rattle.std.proofs.Common.{◌∙◌, ap, length, sym}
use Rattle.oai_sums.proofs.PackedLemmas.{totals_length}
use Rattle.oai_sums.proofs.packed_counts.PackedCounts.len.Goals as goal

pub returns : goal.returns
returns c =
    let inside = c.self.inside in
    c.len.ensures ∙ inside.sets.ok.0 ∙ sym (totals_length 0 inside.sets.items inside.spans.items inside.several.items c.self.invariant) ∙ ap length c.self.view_is
