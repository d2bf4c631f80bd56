-- What is put in at the place that was found is what the definition puts in.
use Rattle.std.proofs.Common.{◌∙◌, ap, is_ok, FitsSigned, Ok, Err, sym, w64}
use Rattle.std.proofs.lemmas.Bool.{cond-true}
use Rattle.std.proofs.lemmas.Int.{to_z-of_z}
use Rattle.oai_item.specs.Items.{with_item}
use Rattle.oai_item.specs.Order.{IsPlace, are_in_order}
use Rattle.oai_item.proofs.Around.{with_item-found, with_item-missing}
use Rattle.oai_item.proofs.OrderLemmas.{in_order-with_item}
use Rattle.oai_catalogue.proofs.items.put.Goals as goal

pub returns-in-Ok-clause-with : goal.returns-in-Ok-clause-with
returns-in-Ok-clause-with c =
    let fits : FitsSigned w64 c.stamp.result = record { sfits = c.stamp.type_inv } in
    let place : IsPlace c.args.items.now.items c.args.item.stamp c.args.item.identifier (Ok c.in-Ok.at) = simp (← c.as_slice.ensures.value, ← c.stamp.ensures.stamp, ← c.as_str.ensures.text, ← c.identifier.ensures) (simp to_z-of_z at c.in-Ok.ensures) in
    sym (with_item-found c.args.item c.args.items.now.items c.in-Ok.at c.args.item place)

pub returns-in-Err-clause-with : goal.returns-in-Err-clause-with
returns-in-Err-clause-with c =
    let fits : FitsSigned w64 c.stamp.result = record { sfits = c.stamp.type_inv } in
    let place : IsPlace c.args.items.now.items c.args.item.stamp c.args.item.identifier (Err c.in-Err.at) = simp (← c.as_slice.ensures.value, ← c.stamp.ensures.stamp, ← c.as_str.ensures.text, ← c.identifier.ensures) (simp to_z-of_z at c.in-Err.ensures) in
    c.insert.ensures.items ∙ cond-true (is_ok c.insert.result) _ _ (c.insert.ensures.succeeds c.requires.room) ∙ sym (with_item-missing c.args.item c.args.items.now.items c.in-Err.at place)

pub returns-in-Ok-clause-rising : goal.returns-in-Ok-clause-rising
returns-in-Ok-clause-rising c =
    let fits : FitsSigned w64 c.stamp.result = record { sfits = c.stamp.type_inv } in
    let place : IsPlace c.args.items.now.items c.args.item.stamp c.args.item.identifier (Ok c.in-Ok.at) = simp (← c.as_slice.ensures.value, ← c.stamp.ensures.stamp, ← c.as_str.ensures.text, ← c.identifier.ensures) (simp to_z-of_z at c.in-Ok.ensures) in
    ap are_in_order (sym (with_item-found c.args.item c.args.items.now.items c.in-Ok.at c.args.item place)) ∙ in_order-with_item c.args.item c.args.items.now.items c.requires.rising

pub returns-in-Err-clause-rising : goal.returns-in-Err-clause-rising
returns-in-Err-clause-rising c =
    let fits : FitsSigned w64 c.stamp.result = record { sfits = c.stamp.type_inv } in
    let place : IsPlace c.args.items.now.items c.args.item.stamp c.args.item.identifier (Err c.in-Err.at) = simp (← c.as_slice.ensures.value, ← c.stamp.ensures.stamp, ← c.as_str.ensures.text, ← c.identifier.ensures) (simp to_z-of_z at c.in-Err.ensures) in
    ap are_in_order (c.insert.ensures.items ∙ cond-true (is_ok c.insert.result) _ _ (c.insert.ensures.succeeds c.requires.room) ∙ sym (with_item-missing c.args.item c.args.items.now.items c.in-Err.at place)) ∙ in_order-with_item c.args.item c.args.items.now.items c.requires.rising
