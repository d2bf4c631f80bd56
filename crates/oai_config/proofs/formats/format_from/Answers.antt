use Rattle.std.proofs.lemmas.Result.{err_from_is_err_and}
use Rattle.oai_config.proofs.FormatLemmas.{no_first, no_second, format_from-Some}
use Rattle.oai_config.proofs.PartLemmas.{refused_read}
use Rattle.oai_config.proofs.formats.format_from.Goals as goal

pub returns-in_err-prefix : goal.returns-in_err-prefix
returns-in_err-prefix c =
    let p = err_from_is_err_and c.from_residual.result c.from_residual.ensures.1 in
    rw (p.1, p.2) (refused_read _ _ _ (no_first _ c.args.fields) c.in_err-prefix.ensures)

pub returns-in_err-namespace : goal.returns-in_err-namespace
returns-in_err-namespace c =
    let p = err_from_is_err_and c.from_residual-in_err-namespace.result c.from_residual-in_err-namespace.ensures.1 in
    rw (p.1, p.2) (refused_read _ _ _ (no_second _ c.args.fields) c.in_err-namespace.ensures)

pub returns : goal.returns
returns c = format_from-Some _ _ _ _ c.in_ok-prefix.ensures c.in_ok-namespace.ensures
