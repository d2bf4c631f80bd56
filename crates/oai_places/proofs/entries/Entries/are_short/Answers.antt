use Rattle.std.proofs.Common.{◌∙◌, [], ap, arith, pos, sym}
use Rattle.std.proofs.lemmas.List.{take_all}
use Rattle.oai_item.specs.Item.{ItemState}
use Rattle.oai_item.proofs.Around.{only_place}
use Rattle.oai_places.specs.Pages.{are_short}
use Rattle.oai_places.proofs.ShortLemmas.{not_short, short-nil, short_more}
use Rattle.oai_places.proofs.entries.Entries.are_short.Goals as goal

pub loop-at-init : goal.loop-at-init
loop-at-init c = short-nil

pub returns-then-is_long : goal.returns-then-is_long
returns-then-is_long c =
    let d : ItemState = only_place (pos 0) [] in
    sym (not_short c.args.self.now c.loop-at.at d (omega (arith, c.loop-at-test.true, c.len-at-end.ensures.len)) (sym c.if-is_long.true ∙ c.is_long.ensures d))

pub loop-at-preserved : goal.loop-at-preserved
loop-at-preserved c =
    let d : ItemState = only_place (pos 0) [] in
    short_more c.args.self.now c.loop-at.at d (omega (arith, c.loop-at-test.true, c.len-at-end.ensures.len)) c.loop-at.invariant (sym c.if-is_long.false ∙ c.is_long.ensures d)

pub returns : goal.returns
returns c = sym (sym (ap are_short (take_all c.loop-at.at c.args.self.now (omega (arith, c.loop-at-test.false, c.len-at-end.ensures.len)))) ∙ c.loop-at.invariant)
