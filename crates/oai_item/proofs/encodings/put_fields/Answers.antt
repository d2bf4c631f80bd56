use Rattle.std.proofs.Common.{refl, ap, arith}
use Rattle.oai_item.specs.Encoding.{encoded_field, is_text_field}
use Rattle.oai_item.proofs.Written.{all_at, count_room, count_written, element_room, element_written, list_written}
use Rattle.oai_item.proofs.encodings.put_fields.Goals as goal

pub put_count-at-requires : goal.put_count-at-requires
put_count-at-requires c = count_room encoded_field c.args.fields.now c.args.out.now c.requires

pub put_field-at-requires : goal.put_field-at-requires
put_field-at-requires c =
    element_room encoded_field c.args.fields.now c.loop-field.field-index c.field-item.result (encoded_field c.field-item.result) c.args.out.now c.loop-field.out c.loop-field.at
    c.loop-field-test.true c.requires (ap encoded_field (c.field-item.is)) c.loop-field.invariant.written

pub loop-field-init : goal.loop-field-init
loop-field-init c = record {
  written = count_written encoded_field c.args.fields.now c.args.out.now c.put_count-at.new.out c.put_count-at.result c.put_count-at.ensures;
  texts = refl;
}

pub loop-field-preserved : goal.loop-field-preserved
loop-field-preserved c = record {
  written =
      element_written encoded_field c.args.fields.now c.loop-field.field-index c.field-item.result (encoded_field c.field-item.result) c.args.out.now c.loop-field.out c.put_field-at.new.out c.loop-field.at c.put_field-at.result
      c.loop-field-test.true (ap encoded_field (c.field-item.is)) c.loop-field.invariant.written c.put_field-at.ensures.written;
  texts = all_at is_text_field c.args.fields.now c.loop-field.field-index c.field-item.result c.field-item.result c.loop-field-test.true (c.field-item.is) c.loop-field.invariant.texts c.put_field-at.ensures.texts;
}

pub returns-clause-written : goal.returns-clause-written
returns-clause-written c = list_written encoded_field c.args.fields.now c.loop-field.field-index c.args.out.now c.loop-field.out c.loop-field.at (omega arith) c.loop-field.invariant.written
