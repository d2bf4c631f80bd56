use Rattle.oai_laws.proofs.HarvestLemmas.{harvests_copied}
use Rattle.oai_laws.proofs.harvests.harvest_law.Goals as goal

pub returns : goal.returns
returns c = record { copied = harvests_copied }
