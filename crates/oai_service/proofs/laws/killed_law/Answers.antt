use Rattle.oai_journal.specs.Kept.{journal_left}
use Rattle.sqlite_disk.specs.Fuse.{inner_of}
use Rattle.oai_service.proofs.KeepingLemmas.{journaling_keeps}
use Rattle.oai_service.proofs.ServiceLemmas.{served}
use Rattle.oai_service.proofs.laws.killed_law.Goals as goal

pub returns-clause-left : goal.returns-clause-left
returns-clause-left g c = λ journal found left. record { file = left.file; left = left.left; first = left.first; ends = left.ends }

pub returns-clause-served : goal.returns-clause-served
returns-clause-served g c = λ config eras rules are numbers.
    served _ _ g.S.Stream.contents g.S.Stream.remaining config
    (journaling_keeps (λ host. host) _ (λ journal entries durable found held leaves.
    journal_left (λ fuse. g.D.Disk.seen (inner_of fuse)) (λ fuse. g.D.Disk.may_leave (inner_of fuse)) journal entries durable found held leaves) _)
    eras rules are numbers
