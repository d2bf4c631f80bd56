use Rattle.oai_headline.proofs.ThroughoutLemmas.{throughout_on}
use Rattle.oai_headline.proofs.laws.throughout_on_pages_law.Goals as goal

pub returns : goal.returns
returns g c = λ config device. throughout_on config (g.D.PageDevice.honest device) (g.D.PageDevice.failures device)
