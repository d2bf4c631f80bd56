-- There is no link.
use Rattle.oai_serving.proofs.RoundLemmas.{all_none}
use Rattle.oai_serving.proofs.laws.begin_law.Goals as goal

pub returns : goal.returns
returns g c = all_none g.S.Stream.contents g.S.Stream.remaining
