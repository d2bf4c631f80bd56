-- One ring that does not allow a message is enough.
use Rattle.oai_keys.proofs.AdmissionLemmas.{barred_by}
use Rattle.oai_keys.proofs.laws.key_law.Goals as goal

pub returns : goal.returns
returns g c = barred_by g.H.Handler.step
