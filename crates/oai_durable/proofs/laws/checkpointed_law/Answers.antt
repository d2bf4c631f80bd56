use Rattle.std.proofs.Common.{ℕ, List}
use Rattle.oai_journal.specs.Journals.{IsLeft}
use Rattle.oai_journal.specs.Records.{Entry}
use Rattle.oai_durable.proofs.BesideLemmas.{exchange_beside, held_crashed, settled_beside, unsettled_crashed}
use Rattle.oai_durable.specs.Either.{each, either}
use Rattle.oai_durable.proofs.laws.checkpointed_law.Goals as goal

pub returns-clause-exchange : goal.returns-clause-exchange
returns-clause-exchange g c = λ begun entries durable before new moment asked answer is done.
    exchange_beside _ _ g.K.Journal g.H.Replayed.emptied begun entries durable before new moment asked answer is done

pub returns-clause-settled : goal.returns-clause-settled
returns-clause-settled g c = λ begun entries durable before new begins is settles sound.
    settled_beside _ _ g.K.Journal g.H.Replayed.emptied _ begun (λ journal es n holds. holds) begins before new entries durable is settles sound

pub returns-clause-unsettled : goal.returns-clause-unsettled
returns-clause-unsettled g c = λ begun entries durable before new fault left begins few is settles sound leaves.
    unsettled_crashed _ _ g.K.Journal g.H.Replayed.emptied _
    (each (λ journal. (all : List Entry) (lasting : ℕ) (found : List Entry) → either g.J.Journal.holds g.K.Journal.holds journal all lasting
    → either g.J.Journal.may_leave g.K.Journal.may_leave journal found → IsLeft lasting all found) g.met.J.Journal.left g.met.K.Journal.left)
    g.met.K.Journal.left begun begins before new fault entries durable left few is settles sound leaves

pub returns-clause-crash : goal.returns-clause-crash
returns-clause-crash g c = λ begun entries durable now left is leaves.
    held_crashed _ _ g.K.Journal g.H.Replayed.emptied
    (each (λ journal. (all : List Entry) (lasting : ℕ) (found : List Entry) → either g.J.Journal.holds g.K.Journal.holds journal all lasting
    → either g.J.Journal.may_leave g.K.Journal.may_leave journal found → IsLeft lasting all found) g.met.J.Journal.left g.met.K.Journal.left)
    g.met.K.Journal.left begun now entries durable left is leaves
