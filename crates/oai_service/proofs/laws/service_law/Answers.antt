use Rattle.oai_service.proofs.KeepingLemmas.{journaling_keeps}
use Rattle.oai_service.proofs.ServiceLemmas.{served}
use Rattle.oai_service.proofs.laws.service_law.Goals as goal

pub returns : goal.returns
returns g c = λ config eras rules are numbers.
    served _ _ g.S.Stream.contents g.S.Stream.remaining config (journaling_keeps (λ host. host) g.J.Journal g.met.J.Journal.left _) eras rules are numbers
