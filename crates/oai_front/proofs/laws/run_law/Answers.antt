use Rattle.oai_front.proofs.RunLemmas.{come_served, none_unfinished}
use Rattle.oai_front.proofs.laws.run_law.Goals as goal

pub returns : goal.returns
returns g c = record { served = come_served g.H.Handler.step; begun = none_unfinished }
