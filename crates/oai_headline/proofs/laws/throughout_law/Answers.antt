use Rattle.oai_headline.proofs.ThroughoutLemmas.{throughout}
use Rattle.oai_headline.proofs.laws.throughout_law.Goals as goal

pub returns : goal.returns
returns g c = λ config store. throughout config (g.V.Versions.honest store)
