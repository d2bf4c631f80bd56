use Rattle.oai_item.proofs.Holding.{records_written}
use Rattle.oai_item.proofs.held_records.HeldRecords.deposited.Goals as goal

pub invariant_of-result : goal.invariant_of-result
invariant_of-result c =
    (records_written c.args.records.now c.deref_mut.result.now c.put_records.new.out c.in_ok-bytes.bytes.items c.own.result c.put_records.result c.in-Ok.size c.in_ok-bytes.bytes.len
    c.requires c.put_records.ensures.texts c.in-Ok.ensures c.deref_mut.ensures.len c.in_ok-bytes.ensures.len c.put_records.ensures.written c.own.ensures).whole

pub returns : goal.returns
returns c =
    (records_written c.args.records.now c.deref_mut.result.now c.put_records.new.out c.in_ok-bytes.bytes.items c.own.result c.put_records.result c.in-Ok.size c.in_ok-bytes.bytes.len
    c.requires c.put_records.ensures.texts c.in-Ok.ensures c.deref_mut.ensures.len c.in_ok-bytes.ensures.len c.put_records.ensures.written c.own.ensures).same
