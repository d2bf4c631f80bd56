use Rattle.std.proofs.Common.{◌∙◌, is_some, ap, sym}
use Rattle.serde_json.specs.View.{view}
use Rattle.oai_deposit.specs.Lines.{abouts_of}
use Rattle.oai_deposit.proofs.AboutLemmas.{abouts_of-Object}
use Rattle.oai_deposit.proofs.about_texts.are_abouts.Goals as goal

pub returns-in-Object : goal.returns-in-Object
returns-in-Object c =
    c.are_text_lists.ensures ∙ ap is_some (sym (abouts_of-Object c.in-Object.members)) ∙ ap (λ v. is_some (abouts_of (view v))) (sym c.in-Object.is)
