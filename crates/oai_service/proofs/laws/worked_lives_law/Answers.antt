use Rattle.oai_service.proofs.WorkedEraLemmas.{worked_over, worked_turned}
use Rattle.oai_service.proofs.WorkedLifeLemmas.{worked_lived}
use Rattle.oai_service.proofs.laws.worked_lives_law.Goals as goal

pub returns : goal.returns
returns c = record { lived = worked_lived; turned = worked_turned; over = worked_over }
