-- The causes in the whole were looked for first; the answer to the repositories is beside them.
use Rattle.std.proofs.lemmas.Result.{err_from_is_err_and}
use Rattle.oai_config.proofs.NamedLemmas.{found_together, keeps_rules, made_or, no_fault, pages_in}
use Rattle.oai_config.proofs.config.Config.of.Goals as goal

pub returns-in_err-repositories : goal.returns-in_err-repositories
returns-in_err-repositories c =
    let p = err_from_is_err_and c.from_residual-in_err-repositories.result c.from_residual-in_err-repositories.ensures.1 in
    let first = found_together c.args.told.cache c.args.told.repositories _ _ _ c.in_ok-cache.ensures c.as_slice.ensures c.err.ensures.value in
    rw (p.1, p.2) (made_or c.args.told c.in_err-repositories.field-0.0 (c.in_err-repositories.ensures _ first))

pub returns-in_err-cache-2 : goal.returns-in_err-cache-2
returns-in_err-cache-2 c =
    let first = found_together c.args.told.cache c.args.told.repositories _ _ _ c.in_ok-cache.ensures c.as_slice.ensures c.err.ensures.value in
    let made = c.in_ok-repositories.ensures _ first in
    absurd (no_fault c.args.told.cache c.args.told.repositories _ _ c.in_err-cache-2.field-0.0 c.in_ok-cache.ensures c.as_slice.ensures c.in_err-cache-2.was made.0)

pub invariant_of-result : goal.invariant_of-result
invariant_of-result c =
    let first = found_together c.args.told.cache c.args.told.repositories _ _ _ c.in_ok-cache.ensures c.as_slice.ensures c.err.ensures.value in
    let made = c.in_ok-repositories.ensures _ first in
    keeps_rules c.args.told.cache c.args.told.repositories _ _ (pages_in c.args.told.cache _ _ _ c.in_ok-cache.ensures c.in_ok-cache-2.was) made.0 made.1

pub returns : goal.returns
returns c =
    let first = found_together c.args.told.cache c.args.told.repositories _ _ _ c.in_ok-cache.ensures c.as_slice.ensures c.err.ensures.value in
    let made = c.in_ok-repositories.ensures _ first in
    (made.0, pages_in c.args.told.cache _ _ _ c.in_ok-cache.ensures c.in_ok-cache-2.was, made.1)
