use Rattle.std.proofs.Common.{refl}
use Rattle.oai_item.specs.Encoding.{encoded_field, encoded_text}
use Rattle.oai_item.proofs.Written.{field_parts, front_room, room_in, written_in}
use Rattle.oai_item.proofs.encodings.put_field.Goals as goal

pub put_text-at-requires : goal.put_text-at-requires
put_text-at-requires c =
    let field = c.args.field.now in
    front_room (encoded_field field) (encoded_text c.as_str.result.now) (encoded_text field.text) c.args.out.now (field_parts field c.as_str.result.now field.text c.as_str.ensures refl) c.requires

pub put_text-requires : goal.put_text-requires
put_text-requires c =
    let field = c.args.field.now in
    room_in (encoded_field field) (encoded_text c.as_str.result.now) (encoded_text c.as_str-2.result.now) c.args.out.now c.put_text-at.new.out c.put_text-at.result
    (field_parts field c.as_str.result.now c.as_str-2.result.now c.as_str.ensures c.as_str-2.ensures) c.requires c.put_text-at.ensures.written

pub returns-clause-written : goal.returns-clause-written
returns-clause-written c =
    let field = c.args.field.now in
    written_in (encoded_field field) (encoded_text c.as_str.result.now) (encoded_text c.as_str-2.result.now) c.args.out.now c.put_text-at.new.out c.put_text.new.out c.put_text-at.result c.put_text.result
    (field_parts field c.as_str.result.now c.as_str-2.result.now c.as_str.ensures c.as_str-2.ensures) c.put_text-at.ensures.written c.put_text.ensures.written
