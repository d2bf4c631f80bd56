use Rattle.std.proofs.Common.{◌≡◌, true, refl}
use Rattle.oai_item.specs.Decoding.{first_field, first_text}
use Rattle.oai_item.specs.Encoding.{encoded_field, is_text_field}
use Rattle.oai_item.specs.declared.fields.Field.{Field}
use Rattle.oai_item.proofs.ReadBack.{field_back}
use Rattle.oai_item.proofs.Spellings.{field_of_parts, name_of_field, text_of_field}
use Rattle.oai_item.proofs.Walking.{front_is}
use Rattle.oai_item.proofs.fronts.after_field.Goals as goal

pub after_text-requires : goal.after_text-requires
after_text-requires c = name_of_field c.args.bytes.now c.requires

pub after_text-requires-2 : goal.after_text-requires-2
after_text-requires-2 c = text_of_field c.args.bytes.now c.after_text.result.now (first_text c.args.bytes.now).0 c.after_text.ensures.1 c.requires

pub returns : goal.returns
returns c =
    let name = (first_text c.args.bytes.now).0 in
    let text = (first_text c.after_text.result.now).0 in
    let field : Field = record { name = name; text = text } in
    let found = field_of_parts c.args.bytes.now c.after_text.result.now c.after_text-2.result.now name text field refl refl c.after_text.ensures c.after_text-2.ensures in
    front_is first_field encoded_field (λ f. is_text_field f ≡ true) field_back c.args.bytes.now c.after_text-2.result.now field c.requires.few found
