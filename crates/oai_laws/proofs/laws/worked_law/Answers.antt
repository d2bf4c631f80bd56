use Rattle.oai_laws.proofs.WorkedLemmas.{configured, worked}
use Rattle.oai_laws.proofs.laws.worked_law.Goals as goal

pub returns-clause-config : goal.returns-clause-config
returns-clause-config c = configured

pub returns-clause-chain : goal.returns-clause-chain
returns-clause-chain c = worked
