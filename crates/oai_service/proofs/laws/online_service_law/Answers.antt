use Rattle.std.proofs.Common.{ℕ, List}
use Rattle.oai_durable.specs.Either.{each, either}
use Rattle.oai_journal.specs.Journals.{IsLeft}
use Rattle.oai_journal.specs.Records.{Entry}
use Rattle.oai_service.proofs.CheckpointingLemmas.{checkpointing_keeps}
use Rattle.oai_service.proofs.ServiceLemmas.{begun_emptied, served}
use Rattle.oai_service.proofs.laws.online_service_law.Goals as goal

pub returns : goal.returns
returns g c = λ config eras rules are numbers.
    served _ _ g.S.Stream.contents g.S.Stream.remaining config
    (checkpointing_keeps (λ host. host) _ g.K.Journal _ _ _ (begun_emptied config.repositories) (λ new entries durable held. held)
    (each (λ journal. (entries : List Entry) (durable : ℕ) (found : List Entry) → either g.J.Journal.holds g.K.Journal.holds journal entries durable
    → either g.J.Journal.may_leave g.K.Journal.may_leave journal found → IsLeft durable entries found) g.met.J.Journal.left g.met.K.Journal.left)
    g.met.K.Journal.left) eras rules are numbers
