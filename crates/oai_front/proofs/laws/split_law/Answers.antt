use Rattle.oai_front.proofs.StreamLemmas.{streams_alike}
use Rattle.oai_front.proofs.laws.split_law.Goals as goal

pub returns : goal.returns
returns c = record { alike = streams_alike }
