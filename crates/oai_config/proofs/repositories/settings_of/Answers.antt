use Rattle.std.proofs.Common.{sym, ◌∙◌}
use Rattle.std.proofs.lemmas.Result.{err_from_is_err_and}
use Rattle.oai_config.specs.declared.repositories.Rules.{Rules}
use Rattle.oai_config.proofs.PartLemmas.{refused_read, refused_view}
use Rattle.oai_config.proofs.SettingsLemmas.{no_texts, no_rules, no_formats, no_descriptions, settings_of-whole}
use Rattle.oai_config.proofs.repositories.settings_of.Goals as goal

pub returns-in_err-rules : goal.returns-in_err-rules
returns-in_err-rules c =
    let whole = sym c.is_repository.ensures ∙ c.if-not-is_repository.false in
    let p = err_from_is_err_and c.from_residual.result c.from_residual.ensures.1 in
    rw (p.1, p.2) (refused_view (λ (rules : Rules). rules) _ _ _ (no_rules c.args.forms c.args.base.now _ whole) c.in_err-rules.ensures)

pub returns-in_err-texts : goal.returns-in_err-texts
returns-in_err-texts c =
    let whole = sym c.is_repository.ensures ∙ c.if-not-is_repository.false in
    let p = err_from_is_err_and c.from_residual-in_err-texts.result c.from_residual-in_err-texts.ensures.1 in
    rw (p.1, p.2) (refused_read _ _ _ (no_texts c.args.forms c.args.base.now _ whole) c.in_err-texts.ensures)

pub returns-in_err-formats : goal.returns-in_err-formats
returns-in_err-formats c =
    let whole = sym c.is_repository.ensures ∙ c.if-not-is_repository.false in
    let p = err_from_is_err_and c.from_residual-in_err-formats.result c.from_residual-in_err-formats.ensures.1 in
    rw (p.1, p.2) (refused_read _ _ _ (no_formats c.args.forms c.args.base.now _ whole) c.in_err-formats.ensures)

pub returns-in_err-described : goal.returns-in_err-described
returns-in_err-described c =
    let whole = sym c.is_repository.ensures ∙ c.if-not-is_repository.false in
    let p = err_from_is_err_and c.from_residual-in_err-described.result c.from_residual-in_err-described.ensures.1 in
    rw (p.1, p.2) (refused_read _ _ _ (no_descriptions c.args.forms c.args.base.now _ whole) c.in_err-described.ensures)

pub returns : goal.returns
returns c =
    let whole = sym c.is_repository.ensures ∙ c.if-not-is_repository.false in
    rw (← c.in_ok-new.ensures)
    (settings_of-whole _ _ _ _ _ _ _ whole c.in_ok-texts.ensures c.in_ok-rules.ensures c.in_ok-formats.ensures c.in_ok-described.ensures)
