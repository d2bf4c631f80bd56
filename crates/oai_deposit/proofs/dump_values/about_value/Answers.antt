use Rattle.std.proofs.Common.{◌∷◌, [], ◌++◌, ap, ◌∙◌, sym}
use Rattle.std.proofs.lemmas.List.{append_assoc}
use Rattle.oai_item.specs.declared.fields.Field.{Field}
use Rattle.oai_deposit.proofs.ValueLemmas.{pushed, texts_more}
use Rattle.oai_deposit.proofs.dump_values.about_value.Goals as goal

pub loop-field-preserved : goal.loop-field-preserved
loop-field-preserved c =
    let i = c.loop-field.invariant in
    let f : Field = record { name = c.in-Some.field.name.now; text = c.in-Some.field.text.now } in
    (i.0 ++ f ∷ [], i.1 ∙ ap (λ left. i.0 ++ left) c.in-Some.ensures ∙ sym (append_assoc i.0 (f ∷ []) _), rw c.in_ok-push.ensures.items (pushed _ _ _ _ i.2 c.in_ok-text.ensures ∙ texts_more i.0 f))
