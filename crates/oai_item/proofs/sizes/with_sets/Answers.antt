use Rattle.std.proofs.Common.{◌≡◌, ◌∙◌, length, ap, arith, get_or}
use Rattle.std.proofs.lemmas.Result.{err_from_is_err_and}
use Rattle.oai_item.specs.Encoding.{encoded_text}
use Rattle.oai_item.proofs.Lengths.{length-encoded_list, length-flat_map-more, measured_whole, too_long_at}
use Rattle.oai_item.proofs.sizes.with_sets.Goals as goal

pub returns-in_err-sum : goal.returns-in_err-sum
returns-in_err-sum c =
    let p = err_from_is_err_and c.from_residual.result c.from_residual.ensures.1 in
    rw p.1 (omega (arith, length-encoded_list encoded_text c.args.sets.now, c.in_err-sum.ensures))

pub returns-in_err-sum-2 : goal.returns-in_err-sum-2
returns-in_err-sum-2 c =
    let p = err_from_is_err_and c.from_residual-in_err-sum-2.result c.from_residual-in_err-sum-2.ensures.1 in
    let element : length (encoded_text c.as_str.result.now) ≡ length (encoded_text (get_or c.args.sets.now c.loop-set.set-index c.set-item.result)) = ap (λ x. length (encoded_text x)) (c.as_str.ensures.text ∙ c.set-item.is) in
    rw p.1 (too_long_at encoded_text c.args.sets.now c.loop-set.set-index c.set-item.result c.args.size c.loop-set-test.true (omega (arith, element, c.in_err-sum-2.ensures, c.loop-set.invariant)))

pub loop-set-preserved : goal.loop-set-preserved
loop-set-preserved c =
    let element : length (encoded_text c.as_str.result.now) ≡ length (encoded_text (get_or c.args.sets.now c.loop-set.set-index c.set-item.result)) = ap (λ x. length (encoded_text x)) (c.as_str.ensures.text ∙ c.set-item.is) in
    let more = length-flat_map-more encoded_text c.args.sets.now c.loop-set.set-index c.set-item.result c.loop-set-test.true in
    (omega (arith, element, more, c.in_ok-sum-2.ensures, c.loop-set.invariant), omega (arith, element, more, c.in_ok-sum-2.ensures, c.loop-set.invariant))

pub returns : goal.returns
returns c = measured_whole encoded_text c.args.sets.now c.loop-set.set-index c.args.size c.loop-set.sum (omega arith) c.loop-set.invariant
