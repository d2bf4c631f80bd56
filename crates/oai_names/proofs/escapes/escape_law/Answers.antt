use Rattle.oai_names.proofs.EscapeCuts.{same_text, same_value, text_free, value_free}
use Rattle.oai_names.proofs.escapes.escape_law.Goals as goal

pub returns-clause-element : goal.returns-clause-element
returns-clause-element c = text_free

pub returns-clause-attribute : goal.returns-clause-attribute
returns-clause-attribute c = value_free

pub returns-clause-texts : goal.returns-clause-texts
returns-clause-texts c = same_text

pub returns-clause-values : goal.returns-clause-values
returns-clause-values c = same_value
