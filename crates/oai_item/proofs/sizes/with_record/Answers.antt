use Rattle.std.proofs.Common.{◌≡◌, length, ap, subst, arith}
use Rattle.std.proofs.lemmas.Result.{err_from_is_err_and}
use Rattle.oai_item.specs.Encoding.{IsMeasure, encoded_field, encoded_list, encoded_text}
use Rattle.oai_item.proofs.Lengths.{length-encoded_record}
use Rattle.oai_item.proofs.sizes.with_record.Goals as goal

pub returns-in_err-front : goal.returns-in_err-front
returns-in_err-front g c =
    let p = err_from_is_err_and c.from_residual.result c.from_residual.ensures.1 in
    let prefix : length (encoded_text c.prefix.result.now) ≡ length (encoded_text (g.R.MemoryRecord.record_of c.args.format.now).0) = ap (λ text. length (encoded_text text)) c.prefix.ensures in
    rw p.1 (omega (arith, length-encoded_record (g.R.MemoryRecord.record_of c.args.format.now), prefix, c.in_err-front.ensures))

pub returns : goal.returns
returns g c =
    let prefix : length (encoded_text c.prefix.result.now) ≡ length (encoded_text (g.R.MemoryRecord.record_of c.args.format.now).0) = ap (λ text. length (encoded_text text)) c.prefix.ensures in
    let fields : length (encoded_list encoded_field c.fields.result.now) ≡ length (encoded_list encoded_field (g.R.MemoryRecord.record_of c.args.format.now).1) = ap (λ fields. length (encoded_list encoded_field fields)) c.fields.ensures in
    subst (λ n. IsMeasure n c.with_fields.result) (omega (arith, length-encoded_record (g.R.MemoryRecord.record_of c.args.format.now), prefix, fields, c.in_ok-front.ensures)) c.with_fields.ensures
