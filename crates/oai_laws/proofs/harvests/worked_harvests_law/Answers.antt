use Rattle.std.proofs.Common.{refl}
use Rattle.oai_laws.proofs.WorkedHarvestLemmas.{configured, worked}
use Rattle.oai_laws.proofs.harvests.worked_harvests_law.Goals as goal

pub returns-clause-config : goal.returns-clause-config
returns-clause-config c = configured

pub returns-clause-policy : goal.returns-clause-policy
returns-clause-policy c = refl

pub returns-clause-harvests : goal.returns-clause-harvests
returns-clause-harvests c = worked
