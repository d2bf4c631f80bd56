-- Both are lemmas as well.
use Rattle.oai_http.proofs.TargetLemmas.{endpoint_leads, one_leads}
use Rattle.oai_http.proofs.targets.path_law.Goals as goal

pub returns : goal.returns
returns c = record { endpoint = endpoint_leads; one = one_leads }
