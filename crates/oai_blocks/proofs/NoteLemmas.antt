-- What is noted of elements, when one block is set.
use Rattle.std.proofs.Common.{◌≡◌, ◌∙◌, ℕ, Option, Some, sym, ap, inl, inr}
use Rattle.std.proofs.lemmas.Bool.{cases_eq}
use Rattle.oai_blocks.specs.Blocks.{BlockState, IsNotedOn, KeepsNotesOn, Shelf, items_at, items_in, note_at, note_in}
use Rattle.oai_blocks.specs.Naming.{IsSlotSet}

module _ {T S : Type 0} where
  pub notes_set : (k : ℕ) (slot : Option (BlockState T S)) (old new : Shelf T S) → IsSlotSet k slot old new
      → ((note : S) → note_in slot ≡ Some note → IsNotedOn note (items_in slot) old) → KeepsNotesOn old new
  notes_set k slot old new set kept note items noted =
      elim (cases_eq noted.0 k) [
        | inl same ↦
            let was = kept note (sym (ap (note_at new) same ∙ ap note_in set.this) ∙ noted.1) in
            (was.0, was.1, was.2 ∙ sym (ap (items_at new) same ∙ ap items_in set.this) ∙ noted.2)
        | inr apart ↦
            (noted.0, sym (ap note_in (set.others noted.0 apart)) ∙ noted.1, sym (ap items_in (set.others noted.0 apart)) ∙ noted.2)
      ]
