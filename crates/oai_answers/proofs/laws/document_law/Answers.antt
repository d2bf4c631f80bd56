use Rattle.oai_answers.proofs.RegularLemmas.{same_seen}
use Rattle.oai_answers.proofs.laws.document_law.Goals as goal

pub returns : goal.returns
returns c = same_seen
