use Rattle.std.proofs.Common.{refl, ap, arith}
use Rattle.oai_item.specs.Encoding.{encoded_record, is_text_record}
use Rattle.oai_item.proofs.Written.{all_at, count_room, count_written, element_room, element_written, list_written}
use Rattle.oai_item.proofs.encodings.put_records.Goals as goal

pub put_count-at-requires : goal.put_count-at-requires
put_count-at-requires g c = count_room (λ r. encoded_record (g.R.MemoryRecord.record_of r)) c.args.records.now c.args.out.now c.requires

pub put_record-at-requires : goal.put_record-at-requires
put_record-at-requires g c =
    element_room (λ r. encoded_record (g.R.MemoryRecord.record_of r)) c.args.records.now c.loop-format.format-index c.format-item.result (encoded_record (g.R.MemoryRecord.record_of c.format-item.result)) c.args.out.now c.loop-format.out c.loop-format.at
    c.loop-format-test.true c.requires (ap (λ r. encoded_record (g.R.MemoryRecord.record_of r)) (c.format-item.is)) c.loop-format.invariant.written

pub loop-format-init : goal.loop-format-init
loop-format-init g c = record {
  written = count_written (λ r. encoded_record (g.R.MemoryRecord.record_of r)) c.args.records.now c.args.out.now c.put_count-at.new.out c.put_count-at.result c.put_count-at.ensures;
  texts = refl;
}

pub loop-format-preserved : goal.loop-format-preserved
loop-format-preserved g c = record {
  written =
      element_written (λ r. encoded_record (g.R.MemoryRecord.record_of r)) c.args.records.now c.loop-format.format-index c.format-item.result (encoded_record (g.R.MemoryRecord.record_of c.format-item.result)) c.args.out.now c.loop-format.out c.put_record-at.new.out c.loop-format.at c.put_record-at.result
      c.loop-format-test.true (ap (λ r. encoded_record (g.R.MemoryRecord.record_of r)) (c.format-item.is)) c.loop-format.invariant.written c.put_record-at.ensures.written;
  texts = all_at (λ r. is_text_record (g.R.MemoryRecord.record_of r)) c.args.records.now c.loop-format.format-index c.format-item.result c.format-item.result c.loop-format-test.true (c.format-item.is) c.loop-format.invariant.texts c.put_record-at.ensures.texts;
}

pub returns-clause-written : goal.returns-clause-written
returns-clause-written g c = list_written (λ r. encoded_record (g.R.MemoryRecord.record_of r)) c.args.records.now c.loop-format.format-index c.args.out.now c.loop-format.out c.loop-format.at (omega arith) c.loop-format.invariant.written
