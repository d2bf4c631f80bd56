-- The mark is the last of the items.
use Rattle.std.proofs.Common.{◌≡◌, ◌∙◌, ◌-◌, ℤ, ℕ, List, Some, FitsSigned, ap, length, refl, slice_get, w64}
use Rattle.std.proofs.lemmas.Int.{to_z-of_z}
use Rattle.oai_item.specs.Item.{ItemState}
use Rattle.oai_repo.specs.Fields.{ends_at}
use Rattle.oai_repo.proofs.MarkLemmas.{last_ends}
use Rattle.oai_repo.proofs.parts.mark_behind.Goals as goal

pub returns-in-Ok : goal.returns-in-Ok
returns-in-Ok c =
    let fits : FitsSigned w64 c.stamp.result = record { sfits = c.stamp.type_inv } in
    let items : List ItemState = c.args.items.now in
    let x : ItemState = c.in_ok-last.last.now in
    let there : Some x ≡ slice_get items (length items - 1) = c.in_ok-last.ensures.value in
    simp to_z-of_z (
      refl,
      ap (λ (s : ℤ). ends_at s c.in-Ok.identifier items) c.stamp.ensures.stamp
          ∙ ap (λ (i : List ℕ). ends_at x.stamp i items) (c.in-Ok.ensures ∙ c.identifier.ensures)
          ∙ last_ends items x there,
    )
