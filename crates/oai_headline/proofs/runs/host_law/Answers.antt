use Rattle.oai_headline.proofs.HostRunLemmas.{served_by_host}
use Rattle.oai_headline.proofs.runs.host_law.Goals as goal

pub returns : goal.returns
returns g c = record { hosted = served_by_host }
