use Rattle.std.proofs.Common.{◌∙◌, FitsSigned, Ok, Err, Some, ap, get_or, sym, w64}
use Rattle.std.proofs.lemmas.Int.{to_z-of_z}
use Rattle.oai_item.specs.Item.{ItemState}
use Rattle.oai_item.specs.Order.{IsPlace}
use Rattle.oai_item.proofs.Around.{item_at-found, item_at-missing}
use Rattle.oai_catalogue.proofs.items.Items.find.Goals as goal

pub returns-in-Ok-clause-found : goal.returns-in-Ok-clause-found
returns-in-Ok-clause-found c =
    let fits : FitsSigned w64 c.args.stamp = c.ranges.stamp in
    let place : IsPlace c.args.self.now c.args.stamp c.args.identifier.now (Ok c.in-Ok.at) = simp (← c.self.view_is, ← c.as_slice.ensures.value) (simp to_z-of_z at c.in-Ok.ensures) in
    ap (λ (item : ItemState). Some item) (c.index.ensures ∙ ap (λ items. get_or items c.in-Ok.at c.index.result.now) c.self.view_is)
    ∙ sym (item_at-found c.args.stamp c.args.identifier.now c.args.self.now c.in-Ok.at c.index.result.now place)

pub returns-in-Err-clause-found : goal.returns-in-Err-clause-found
returns-in-Err-clause-found c =
    let fits : FitsSigned w64 c.args.stamp = c.ranges.stamp in
    let place : IsPlace c.args.self.now c.args.stamp c.args.identifier.now (Err c.in-Err.field-0) = simp (← c.self.view_is, ← c.as_slice.ensures.value) (simp to_z-of_z at c.in-Err.ensures) in
    sym (item_at-missing c.args.stamp c.args.identifier.now c.args.self.now c.in-Err.field-0 place)
