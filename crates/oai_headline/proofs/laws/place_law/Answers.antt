use Rattle.oai_headline.proofs.ThroughoutLemmas.{failed_there, given_there}
use Rattle.oai_headline.proofs.laws.place_law.Goals as goal

pub returns : goal.returns
returns c = record { given = given_there; failed = failed_there }
