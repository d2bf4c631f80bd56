use Rattle.oai_durable.proofs.ServedLemmas.{service_lives}
use Rattle.oai_durable.proofs.laws.service_law.Goals as goal

pub returns : goal.returns
returns g c = λ begun found known later old new result left service begins honest leaves.
    service_lives _ g.J.Journal g.S.Stream.contents g.S.Stream.remaining g.met.J.Journal.left begun found known later old new result left service begins honest leaves
