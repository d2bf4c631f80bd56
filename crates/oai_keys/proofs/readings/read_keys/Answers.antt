use Rattle.std.proofs.Common.{◌≡◌}
use Rattle.std.proofs.lemmas.Result.{err_from_is_err_and}
use Rattle.oai_keys.proofs.ReadingLemmas.{fault_of_check}
use Rattle.oai_keys.proofs.readings.read_keys.Goals as goal

pub returns-in_err-check : goal.returns-in_err-check
returns-in_err-check c =
    let p = err_from_is_err_and c.from_residual-in_err-check.result c.from_residual-in_err-check.ensures.1 in
    let view = c.rings.view_is in
    let slice = c.as_slice.ensures in
    let looked : c.as_slice.result.now ≡ c.in_ok-rings.rings = cc in
    rw (p.1, p.2)
    (fault_of_check _ c.repositories.result.now c.args.text.now c.in_ok-rings.rings c.as_slice.result.now c.in_err-check.field-0.0 c.repositories.ensures looked c.in_ok-rings.ensures c.in_err-check.ensures)
