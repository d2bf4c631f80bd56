use Rattle.std.proofs.Common.{◌∙◌, ◌+◌, [], ap, arith, pos, sym}
use Rattle.oai_item.specs.Item.{ItemState}
use Rattle.oai_item.proofs.Around.{only_place}
use Rattle.oai_places.specs.Places.{is_wanted}
use Rattle.oai_places.proofs.PartLemmas.{counted_no, counted_yes}
use Rattle.oai_places.proofs.counts.count_in.Goals.{then-is_wanted, else-is_wanted}
use Rattle.oai_places.proofs.counts.count_in.Goals as goal

pub entries-preserved : goal.entries-preserved
entries-preserved c =
    let p = is_wanted c.args.wanted.filter.now c.args.wanted.key.stamp c.args.wanted.key.identifier.now in
    let d : ItemState = only_place (pos 0) [] in
    let h = c.entries.invariant in
    elim c.if-is_wanted.branch [
      | then-is_wanted w ↦ (
        w.count-is ∙ ap (λ n. n + 1) h.0
            ∙ sym (counted_yes p c.args.entries.now c.entries.at d (omega (arith, c.entries-test.true, c.len-at-end.ensures.len)) (sym (c.is_wanted.ensures d) ∙ w.if-is_wanted.true)),
        omega (arith, w.count-is, h.1),
      )
      | else-is_wanted w ↦ (
        w.count-is ∙ h.0
            ∙ sym (counted_no p c.args.entries.now c.entries.at d (omega (arith, c.entries-test.true, c.len-at-end.ensures.len)) (sym (c.is_wanted.ensures d) ∙ w.if-is_wanted.false)),
        omega (arith, w.count-is, h.1),
      )
    ]
