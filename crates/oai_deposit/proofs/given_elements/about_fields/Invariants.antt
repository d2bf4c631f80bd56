use Rattle.std.proofs.Common.{◌≡◌, true, map, drop}
use Rattle.std.specs.List.{list_all}
use Rattle.oai_item.specs.Elements.{is_about}
use Rattle.oai_item.specs.Givens.{field_texts}
use Rattle.oai_deposit.specs.Lines.{about_read}
use Rattle.oai_deposit.proofs.ElementLemmas.{behind}
use Rattle.oai_deposit.proofs.given_elements.about_fields.Given as goal

-- some texts were read, and the others are left
abbrev pub invariant-loop-text : goal.invariant-loop-text
invariant-loop-text l =
    (behind (field_texts l.fields.items) (about_read (map (λ text. text.now) (drop l.text-index l.texts))) ≡ about_read (map (λ text. text.now) l.texts))
    × (list_all is_about l.fields.items ≡ true)
