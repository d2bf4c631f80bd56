use Rattle.std.proofs.Common.{refl}
use Rattle.oai_item.specs.Encoding.{encoded_field, encoded_list, encoded_record, encoded_text}
use Rattle.oai_item.proofs.Written.{front_room, record_parts, room_in, written_in}
use Rattle.oai_item.proofs.encodings.put_record.Goals as goal

pub put_text-at-requires : goal.put_text-at-requires
put_text-at-requires g c =
    let format = g.R.MemoryRecord.record_of c.args.format.now in
    front_room (encoded_record format) (encoded_text c.prefix.result.now) (encoded_list encoded_field format.1) c.args.out.now (record_parts format c.prefix.result.now format.1 c.prefix.ensures refl) c.requires

pub put_fields-requires : goal.put_fields-requires
put_fields-requires g c =
    let format = g.R.MemoryRecord.record_of c.args.format.now in
    room_in (encoded_record format) (encoded_text c.prefix.result.now) (encoded_list encoded_field c.fields.result.now) c.args.out.now c.put_text-at.new.out c.put_text-at.result
    (record_parts format c.prefix.result.now c.fields.result.now c.prefix.ensures c.fields.ensures) c.requires c.put_text-at.ensures.written

pub returns-clause-written : goal.returns-clause-written
returns-clause-written g c =
    let format = g.R.MemoryRecord.record_of c.args.format.now in
    written_in (encoded_record format) (encoded_text c.prefix.result.now) (encoded_list encoded_field c.fields.result.now) c.args.out.now c.put_text-at.new.out c.put_fields.new.out c.put_text-at.result c.put_fields.result
    (record_parts format c.prefix.result.now c.fields.result.now c.prefix.ensures c.fields.ensures) c.put_text-at.ensures.written c.put_fields.ensures.written
