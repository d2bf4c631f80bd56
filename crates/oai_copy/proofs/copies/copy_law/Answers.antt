use Rattle.std.proofs.Common.{[], refl}
use Rattle.oai_copy.proofs.ListedLemmas.{last_stays, listed_harvests}
use Rattle.oai_copy.proofs.copies.copy_law.Goals as goal

pub returns-clause-last : goal.returns-clause-last
returns-clause-last c = last_stays

pub returns-clause-listed : goal.returns-clause-listed
returns-clause-listed c = λ harvests. listed_harvests [] harvests refl
