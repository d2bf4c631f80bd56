use Rattle.oai_headline.proofs.WorkedFaultLemmas.{worked_with_failures}
use Rattle.oai_headline.proofs.laws.worked_faults_law.Goals as goal

pub returns : goal.returns
returns c = worked_with_failures
