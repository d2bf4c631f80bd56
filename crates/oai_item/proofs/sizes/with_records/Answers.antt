use Rattle.std.proofs.Common.{◌≡◌, length, ap, arith, get_or}
use Rattle.std.proofs.lemmas.Result.{err_from_is_err_and}
use Rattle.oai_item.specs.Encoding.{encoded_record}
use Rattle.oai_item.proofs.Lengths.{length-encoded_list, length-flat_map-more, measured_whole, too_long_at}
use Rattle.oai_item.proofs.sizes.with_records.Goals as goal

pub returns-in_err-sum : goal.returns-in_err-sum
returns-in_err-sum g c =
    let p = err_from_is_err_and c.from_residual.result c.from_residual.ensures.1 in
    rw p.1 (omega (arith, length-encoded_list (λ r. encoded_record (g.R.MemoryRecord.record_of r)) c.args.records.now, c.in_err-sum.ensures))

pub returns-in_err-sum-2 : goal.returns-in_err-sum-2
returns-in_err-sum-2 g c =
    let p = err_from_is_err_and c.from_residual-in_err-sum-2.result c.from_residual-in_err-sum-2.ensures.1 in
    let element : length (encoded_record (g.R.MemoryRecord.record_of c.format-item.result)) ≡ length (encoded_record (g.R.MemoryRecord.record_of (get_or c.args.records.now c.loop-format.format-index c.format-item.result))) = ap (λ x. length (encoded_record (g.R.MemoryRecord.record_of x))) (c.format-item.is) in
    rw p.1 (too_long_at (λ r. encoded_record (g.R.MemoryRecord.record_of r)) c.args.records.now c.loop-format.format-index c.format-item.result c.args.size c.loop-format-test.true (omega (arith, element, c.in_err-sum-2.ensures, c.loop-format.invariant)))

pub loop-format-preserved : goal.loop-format-preserved
loop-format-preserved g c =
    let element : length (encoded_record (g.R.MemoryRecord.record_of c.format-item.result)) ≡ length (encoded_record (g.R.MemoryRecord.record_of (get_or c.args.records.now c.loop-format.format-index c.format-item.result))) = ap (λ x. length (encoded_record (g.R.MemoryRecord.record_of x))) (c.format-item.is) in
    let more = length-flat_map-more (λ r. encoded_record (g.R.MemoryRecord.record_of r)) c.args.records.now c.loop-format.format-index c.format-item.result c.loop-format-test.true in
    (omega (arith, element, more, c.in_ok-sum-2.ensures, c.loop-format.invariant), omega (arith, element, more, c.in_ok-sum-2.ensures, c.loop-format.invariant))

pub returns : goal.returns
returns g c = measured_whole (λ r. encoded_record (g.R.MemoryRecord.record_of r)) c.args.records.now c.loop-format.format-index c.args.size c.loop-format.sum (omega arith) c.loop-format.invariant
