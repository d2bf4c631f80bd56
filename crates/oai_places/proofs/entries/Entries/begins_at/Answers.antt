use Rattle.std.proofs.Common.{◌∙◌, pos, [], ap, sym, arith}
use Rattle.std.specs.Ordering.{is_eq}
use Rattle.std.proofs.lemmas.Cmp.{is_eq_index}
use Rattle.oai_item.specs.Item.{ItemState}
use Rattle.oai_item.proofs.Around.{only_place}
use Rattle.oai_places.proofs.RisingItems.{first_at}
use Rattle.oai_places.proofs.entries.Entries.begins_at.Goals as goal

pub returns-then-len-gt0 : goal.returns-then-len-gt0
returns-then-len-gt0 c =
    let d : ItemState = only_place (pos 0) [] in
    c.eq.ensures ∙ sym (is_eq_index c.order_to.result)
    ∙ ap is_eq (c.order_to.ensures d)
    ∙ first_at c.args.key.stamp c.args.key.identifier.now c.args.self.now d (omega (arith, c.len.ensures.len, c.if-len-gt0.true))
