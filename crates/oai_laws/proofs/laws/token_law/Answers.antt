use Rattle.oai_laws.proofs.OfferLemmas.{answered_offered}
use Rattle.oai_laws.proofs.laws.token_law.Goals as goal

pub returns : goal.returns
returns c = answered_offered
