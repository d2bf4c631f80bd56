use Rattle.oai_durable.proofs.ServedLemmas.{lives_as}
use Rattle.oai_durable.proofs.laws.life_law.Goals as goal

pub returns : goal.returns
returns g c = λ begun found first rounds held left lived. lives_as _ g.J.Journal g.met.J.Journal.left begun found first rounds held left lived
