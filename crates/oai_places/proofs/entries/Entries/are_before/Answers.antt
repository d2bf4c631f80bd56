use Rattle.std.proofs.Common.{◌∙◌, ◌-◌, pos, [], ap, sym, arith}
use Rattle.std.specs.Ordering.{is_lt}
use Rattle.std.proofs.lemmas.Cmp.{is_lt_index}
use Rattle.oai_item.specs.Item.{ItemState}
use Rattle.oai_item.proofs.Around.{only_place}
use Rattle.oai_places.proofs.RisingItems.{all_before}
use Rattle.oai_places.proofs.entries.Entries.are_before.Goals as goal

pub returns-else-len-eq0 : goal.returns-else-len-eq0
returns-else-len-eq0 c =
    let d : ItemState = only_place (pos 0) [] in
    c.eq.ensures ∙ sym (is_lt_index c.order_to.result)
    ∙ ap is_lt (c.order_to.ensures d)
    ∙ all_before c.args.key.stamp c.args.key.identifier.now c.args.self.now (c.len-len.result - 1) d c.requires (omega (arith, c.len-len.ensures.len, c.if-len-eq0.false))
