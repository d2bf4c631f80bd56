use Rattle.std.proofs.Common.{refl}
use Rattle.oai_item.proofs.Spellings.{field_of_parts, name_of_field, text_of_field}
use Rattle.oai_item.proofs.fronts.first_field.Goals as goal

pub first_text-requires : goal.first_text-requires
first_text-requires c = name_of_field c.args.bytes.now c.requires

pub first_text-requires-2 : goal.first_text-requires-2
first_text-requires-2 c = text_of_field c.args.bytes.now c.first_text.result.1.now c.first_text.result.0.now c.first_text.ensures.1 c.requires

pub returns : goal.returns
returns c =
    field_of_parts c.args.bytes.now c.first_text.result.1.now c.first_text-2.result.1.now c.first_text.result.0.now c.first_text-2.result.0.now
    (record { name = c.first_text.result.0.now; text = c.first_text-2.result.0.now }) refl refl c.first_text.ensures c.first_text-2.ensures
