use Rattle.std.proofs.Common.{◌∷◌, [], ◌++◌, ap, ◌∙◌, sym}
use Rattle.std.specs.List.{before_first}
use Rattle.std.proofs.lemmas.List.{append_assoc}
use Rattle.oai_item.proofs.Contents.{named_before}
use Rattle.oai_item.specs.Elements.{is_nameless}
use Rattle.oai_item.specs.declared.fields.Field.{Field}
use Rattle.oai_deposit.proofs.ValueLemmas.{fields_end, fields_more, pushed}
use Rattle.oai_deposit.proofs.dump_values.add_named.Goals as goal

pub loop-field-preserved : goal.loop-field-preserved
loop-field-preserved c =
    let i = c.loop-field.invariant in
    let f : Field = record { name = c.in-Some.field.name.now; text = c.in-Some.field.text.now } in
    let next = c.in-Some.ensures in (
      i.0 ++ f ∷ [],
      i.1 ∙ ap (λ left. i.0 ++ left) (ap (before_first is_nameless) next.taken ∙ named_before f c.next_named.new.self next.named) ∙ sym (append_assoc i.0 (f ∷ []) _),
      rw c.in_ok-push.ensures.items (pushed _ _ _ _ i.2 c.in_ok-value.ensures ∙ fields_more _ i.0 f),
    )

pub returns : goal.returns
returns c =
    let i = c.loop-field.invariant in
    fields_end _ _ i.0 _ _ i.1 c.in_default.ensures.none i.2
