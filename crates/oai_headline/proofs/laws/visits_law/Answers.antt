use Rattle.oai_headline.proofs.FollowedLemmas.{visits_followed}
use Rattle.oai_headline.proofs.MetLemmas.{visits_met}
use Rattle.oai_headline.proofs.laws.visits_law.Goals as goal

pub returns : goal.returns
returns c = record { reached = visits_followed; met = visits_met }
