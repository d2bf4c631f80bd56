use Rattle.std.proofs.Common.{◌≡◌, length, ap, subst, arith}
use Rattle.std.proofs.lemmas.Result.{err_from_is_err_and}
use Rattle.oai_item.specs.Encoding.{IsMeasure, encoded_text}
use Rattle.oai_item.proofs.Lengths.{length-encoded_field}
use Rattle.oai_item.proofs.sizes.with_field.Goals as goal

pub returns-in_err-front : goal.returns-in_err-front
returns-in_err-front c =
    let p = err_from_is_err_and c.from_residual.result c.from_residual.ensures.1 in
    let name : length (encoded_text c.as_str.result.now) ≡ length (encoded_text c.args.field.now.name) = ap (λ text. length (encoded_text text)) c.as_str.ensures in
    rw p.1 (omega (arith, length-encoded_field c.args.field.now, name, c.in_err-front.ensures))

pub returns : goal.returns
returns c =
    let name : length (encoded_text c.as_str.result.now) ≡ length (encoded_text c.args.field.now.name) = ap (λ text. length (encoded_text text)) c.as_str.ensures in
    let text : length (encoded_text c.as_str-2.result.now) ≡ length (encoded_text c.args.field.now.text) = ap (λ text. length (encoded_text text)) c.as_str-2.ensures in
    subst (λ n. IsMeasure n c.with_text-2.result) (omega (arith, length-encoded_field c.args.field.now, name, text, c.in_ok-front.ensures)) c.with_text-2.ensures
