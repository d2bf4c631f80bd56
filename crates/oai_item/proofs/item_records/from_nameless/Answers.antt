use Rattle.std.proofs.Common.{◌∙◌}
use Rattle.oai_item.specs.declared.fields.Field.{Field}
use Rattle.oai_item.specs.Walks.{IsAfterNamed}
use Rattle.oai_item.proofs.Contents.{skipped}
use Rattle.oai_item.proofs.item_records.from_nameless.Goals as goal

pub loop-preserved : goal.loop-preserved
loop-preserved c =
    let field : Field = record { name = c.in-Some.field-0.name.now; text = c.in-Some.field-0.text.now } in
    let named : IsAfterNamed c.loop.rest field c.next_named.new.self = rw c.in-Some.is at c.next_named.ensures in
    skipped c.loop.rest c.next_named.new.self field named ∙ c.loop.invariant
