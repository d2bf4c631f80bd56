use Rattle.std.proofs.Common.{◌∙◌}
use Rattle.oai_deposit.proofs.AboutLemmas.{text_list_some}
use Rattle.oai_deposit.proofs.about_texts.is_text_list.Goals as goal

pub returns-in-Some : goal.returns-in-Some
returns-in-Some c = c.are_texts.ensures ∙ text_list_some _ c.in-Some.values.now c.in-Some.ensures
