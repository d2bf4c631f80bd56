use Rattle.std.proofs.Common.{subst, arith}
use Rattle.std.proofs.lemmas.Result.{err_from_is_err_and}
use Rattle.oai_item.specs.Encoding.{IsMeasure}
use Rattle.oai_item.proofs.Lengths.{length-encoded_text}
use Rattle.oai_item.proofs.sizes.with_text.Goals as goal

pub returns-in_err-front : goal.returns-in_err-front
returns-in_err-front c =
    let p = err_from_is_err_and c.from_residual.result c.from_residual.ensures.1 in
    rw p.1 (omega (arith, length-encoded_text c.args.text.now, c.in_err-front.ensures))

pub returns : goal.returns
returns c =
    subst (λ n. IsMeasure n c.plus-2.result) (omega (arith, length-encoded_text c.args.text.now, c.in_ok-front.ensures)) c.plus-2.ensures
