use Rattle.oai_repo.proofs.SavedListLemmas.{listed_restored}
use Rattle.oai_repo.proofs.laws.listed_law.Goals as goal

pub returns : goal.returns
returns c = listed_restored
