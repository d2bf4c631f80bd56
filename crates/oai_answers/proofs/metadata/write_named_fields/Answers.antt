use Rattle.std.proofs.Common.{◌∙◌}
use Rattle.oai_item.specs.declared.fields.Field.{Field}
use Rattle.oai_item.specs.Walks.{IsAfterNamed}
use Rattle.oai_item.proofs.Contents.{skipped}
use Rattle.oai_answers.specs.Documents.{field_element, qualifier_of}
use Rattle.oai_answers.proofs.ContentLemmas.{named_written}
use Rattle.oai_answers.proofs.metadata.write_named_fields.Goals as goal

pub loop-field-preserved : goal.loop-field-preserved
loop-field-preserved c =
    let field : Field = record { name = c.in-Some.field.name.now; text = c.in-Some.field.text.now } in
    let named : IsAfterNamed c.loop-field.fields field c.next_named.new.self = rw c.in-Some.is at c.next_named.ensures in (
      named_written (field_element (qualifier_of c.args.qualifier)) _ _ _ c.loop-field.fields c.next_named.new.self field named c.in_ok-write_field.ensures c.loop-field.invariant.0,
      skipped c.loop-field.fields c.next_named.new.self field named ∙ c.loop-field.invariant.1,
    )
