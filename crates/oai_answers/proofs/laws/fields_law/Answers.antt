use Rattle.oai_answers.proofs.FieldLemmas.{same_fields}
use Rattle.oai_answers.proofs.laws.fields_law.Goals as goal

pub returns : goal.returns
returns c = same_fields
