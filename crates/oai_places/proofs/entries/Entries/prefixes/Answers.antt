use Rattle.std.proofs.Common.{◌∙◌, ◌+◌, ◌∷◌, ◌++◌, pos, [], ap, sym, arith}
use Rattle.oai_item.specs.Item.{ItemState}
use Rattle.oai_item.proofs.Around.{only_place}
use Rattle.oai_places.specs.Pages.{between}
use Rattle.oai_places.proofs.CommonRecords.{between_more, between_one, common_records, own_records}
use Rattle.oai_places.proofs.entries.Entries.prefixes.Goals as goal

pub loop-at-init : goal.loop-at-init
loop-at-init c =
    let d : ItemState = only_place (pos 0) [] in
    own_records c.in_ok-prefixes.prefixes.items c.spelled.result (between c.args.from (c.args.from + 1) c.args.self.now) c.in_ok-prefixes.ensures
    (between_one c.args.self.now c.args.from d (omega (arith, c.requires.some, c.requires.within)) ∙ ap (λ (item : ItemState). item ∷ []) (sym (c.spelled.ensures d)))

pub loop-at-preserved : goal.loop-at-preserved
loop-at-preserved c =
    let d : ItemState = only_place (pos 0) [] in
    common_records c.loop-at.prefixes.items c.common-prefixes.result.items (between c.args.from c.loop-at.at c.args.self.now) (between c.args.from (c.loop-at.at + 1) c.args.self.now) c.spelled-in-loop-at.result
    c.loop-at.invariant c.common-prefixes.ensures
    (between_more c.args.self.now c.args.from c.loop-at.at d (omega (arith, c.loop-at.auto.at)) (omega (arith, c.loop-at-test.true, c.requires.within))
    ∙ ap (λ (item : ItemState). between c.args.from c.loop-at.at c.args.self.now ++ item ∷ []) (sym (c.spelled-in-loop-at.ensures d)))
