use Rattle.oai_journal.specs.Kept.{journal_left}
use Rattle.oai_service.proofs.KeepingLemmas.{journaling_keeps}
use Rattle.oai_service.proofs.ServiceLemmas.{served}
use Rattle.oai_service.proofs.laws.service_on_files_law.Goals as goal

pub returns : goal.returns
returns g c = λ config eras rules are numbers.
    served _ _ g.S.Stream.contents g.S.Stream.remaining config
    (journaling_keeps (λ host. host) _ (λ journal entries durable found held leaves. journal_left g.D.Disk.seen g.D.Disk.may_leave journal entries durable found held leaves) _)
    eras rules are numbers
