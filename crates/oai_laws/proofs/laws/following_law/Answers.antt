use Rattle.oai_laws.proofs.ChainLemmas.{following}
use Rattle.oai_laws.proofs.WholeLemmas.{none_told, whole_told}
use Rattle.oai_laws.proofs.laws.following_law.Goals as goal

pub returns-clause-followed : goal.returns-clause-followed
returns-clause-followed c = following

pub returns-clause-short : goal.returns-clause-short
returns-clause-short c = whole_told

pub returns-clause-none : goal.returns-clause-none
returns-clause-none c = none_told
