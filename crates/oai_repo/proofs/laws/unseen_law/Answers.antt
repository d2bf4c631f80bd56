use Rattle.oai_repo.proofs.UnseenLemmas.{unseen}
use Rattle.oai_repo.proofs.laws.unseen_law.Goals as goal

pub returns : goal.returns
returns c = unseen
