use Rattle.oai_headline.proofs.ServedLemmas.{served_on_pages}
use Rattle.oai_headline.proofs.served.pages_law.Goals as goal

pub returns : goal.returns
returns g c = record { served = λ config device. served_on_pages config (g.D.PageDevice.honest device) (g.D.PageDevice.failures device) }
