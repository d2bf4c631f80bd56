use Rattle.oai_laws.proofs.SelectingLemmas.{dated_throughout, selected_throughout}
use Rattle.oai_laws.proofs.laws.selected_law.Goals as goal

pub returns-clause-selected : goal.returns-clause-selected
returns-clause-selected c = selected_throughout

pub returns-clause-dated : goal.returns-clause-dated
returns-clause-dated c = dated_throughout
