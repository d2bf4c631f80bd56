-- What stands behind the place is what stands behind the datestamp and identifier.
use Rattle.std.proofs.Common.{◌≡◌, ◌+◌, FitsSigned, w64, ◌-◌, ◌∙◌, ℕ, List, length, drop, take, ap, sym}
use Rattle.std.proofs.Math.Seq.{take-length}
use Rattle.std.proofs.lemmas.Int.{to_z-of_z}
use Rattle.std.proofs.lemmas.List.{length-drop}
use Rattle.oai_item.proofs.Around.{items_after-found, items_after-missing}
use Rattle.oai_item.proofs.order.items_after.Goals as goal

-- all that is left behind a place
take_rest : {A : Type 0} (k : ℕ) (xs : List A) → take (length xs - k) (drop k xs) ≡ drop k xs
take_rest k xs = ap (λ n. take n (drop k xs)) (sym (length-drop k xs)) ∙ take-length (drop k xs)

pub returns-in-Ok : goal.returns-in-Ok
returns-in-Ok c =
    let fits : FitsSigned w64 c.args.stamp = c.ranges.stamp in
    take_rest (c.in-Ok.at + 1) c.args.items.now ∙ items_after-found c.args.stamp c.args.identifier.now c.args.items.now c.in-Ok.at (simp to_z-of_z at c.in-Ok.ensures)

pub returns-in-Err : goal.returns-in-Err
returns-in-Err c =
    let fits : FitsSigned w64 c.args.stamp = c.ranges.stamp in
    take_rest c.in-Err.at c.args.items.now ∙ items_after-missing c.args.stamp c.args.identifier.now c.args.items.now c.in-Err.at (simp to_z-of_z at c.in-Err.ensures)
