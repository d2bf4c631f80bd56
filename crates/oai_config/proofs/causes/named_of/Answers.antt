use Rattle.std.proofs.lemmas.Result.{err_from_is_err_and}
use Rattle.oai_config.proofs.NamedLemmas.{fault_alone}
use Rattle.oai_config.proofs.causes.named_of.Goals as goal

pub returns-in_err-config : goal.returns-in_err-config
returns-in_err-config c =
    let p = err_from_is_err_and c.from_residual-in_err-config.result c.from_residual-in_err-config.ensures.1 in
    rw (p.1, p.2) (fault_alone c.args.settings c.in_err-config.field-0.0 c.in_err-config.ensures)
