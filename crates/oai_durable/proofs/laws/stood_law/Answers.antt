use Rattle.oai_durable.proofs.StoodLemmas.{crash_by, exchange_by, settled_by, unsettled_by}
use Rattle.oai_durable.proofs.laws.stood_law.Goals as goal

pub returns-clause-exchange : goal.returns-clause-exchange
returns-clause-exchange g c = λ begun entries durable before new moment asked answer by exchange. exchange_by _ g.J.Journal begun entries durable before new moment asked answer by exchange

pub returns-clause-settled : goal.returns-clause-settled
returns-clause-settled g c = λ begun entries durable before new by settles. settled_by _ g.J.Journal begun entries durable before new by settles

pub returns-clause-unsettled : goal.returns-clause-unsettled
returns-clause-unsettled g c = λ begun entries durable before new fault by settles. unsettled_by _ g.J.Journal begun entries durable before new fault by settles

pub returns-clause-crash : goal.returns-clause-crash
returns-clause-crash g c = λ begun entries durable parts left by leaves. crash_by _ g.J.Journal g.met.J.Journal.left begun entries durable parts left by leaves
