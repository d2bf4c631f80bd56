-- What is taken out at the place that was found is what the definition takes out.
use Rattle.std.proofs.Common.{◌≡◌, ◌∙◌, FitsSigned, Ok, Err, ap, is_some, sym, w64}
use Rattle.std.proofs.lemmas.Int.{to_z-of_z}
use Rattle.oai_item.specs.Items.{without_at}
use Rattle.oai_item.specs.Order.{IsPlace, are_in_order}
use Rattle.oai_item.proofs.Around.{item_at-found, item_at-missing, without_at-found, without_at-missing}
use Rattle.oai_item.proofs.OrderLemmas.{in_order-without_at}
use Rattle.oai_catalogue.proofs.items.take_out.Goals as goal

pub returns-in-Ok-clause-found : goal.returns-in-Ok-clause-found
returns-in-Ok-clause-found c =
    let fits : FitsSigned w64 c.args.stamp = c.ranges.stamp in
    let place : IsPlace c.args.items.now.items c.args.stamp c.args.identifier.now (Ok c.in-Ok.at) = simp (← c.as_slice.ensures.value) (simp to_z-of_z at c.in-Ok.ensures) in
    sym (ap is_some (item_at-found c.args.stamp c.args.identifier.now c.args.items.now.items c.in-Ok.at c.remove.result place))

pub returns-in-Ok-clause-left : goal.returns-in-Ok-clause-left
returns-in-Ok-clause-left c =
    let fits : FitsSigned w64 c.args.stamp = c.ranges.stamp in
    let place : IsPlace c.args.items.now.items c.args.stamp c.args.identifier.now (Ok c.in-Ok.at) = simp (← c.as_slice.ensures.value) (simp to_z-of_z at c.in-Ok.ensures) in
    c.remove.ensures.items ∙ sym (without_at-found c.args.stamp c.args.identifier.now c.args.items.now.items c.in-Ok.at c.remove.result place)

pub returns-in-Ok-clause-rising : goal.returns-in-Ok-clause-rising
returns-in-Ok-clause-rising c =
    let fits : FitsSigned w64 c.args.stamp = c.ranges.stamp in
    let place : IsPlace c.args.items.now.items c.args.stamp c.args.identifier.now (Ok c.in-Ok.at) = simp (← c.as_slice.ensures.value) (simp to_z-of_z at c.in-Ok.ensures) in
    let left : c.remove.new.self.items ≡ without_at c.args.stamp c.args.identifier.now c.args.items.now.items = c.remove.ensures.items ∙ sym (without_at-found c.args.stamp c.args.identifier.now c.args.items.now.items c.in-Ok.at c.remove.result place) in
    ap are_in_order left ∙ in_order-without_at c.args.stamp c.args.identifier.now c.args.items.now.items c.requires

pub returns-in-Err-clause-found : goal.returns-in-Err-clause-found
returns-in-Err-clause-found c =
    let fits : FitsSigned w64 c.args.stamp = c.ranges.stamp in
    let place : IsPlace c.args.items.now.items c.args.stamp c.args.identifier.now (Err c.in-Err.field-0) = simp (← c.as_slice.ensures.value) (simp to_z-of_z at c.in-Err.ensures) in
    sym (ap is_some (item_at-missing c.args.stamp c.args.identifier.now c.args.items.now.items c.in-Err.field-0 place))

pub returns-in-Err-clause-left : goal.returns-in-Err-clause-left
returns-in-Err-clause-left c =
    let fits : FitsSigned w64 c.args.stamp = c.ranges.stamp in
    let place : IsPlace c.args.items.now.items c.args.stamp c.args.identifier.now (Err c.in-Err.field-0) = simp (← c.as_slice.ensures.value) (simp to_z-of_z at c.in-Err.ensures) in
    sym (without_at-missing c.args.stamp c.args.identifier.now c.args.items.now.items c.in-Err.field-0 place)
