use Rattle.oai_holdings.proofs.MissingLaws.{batches_joined, last_batch, missing_lead, missing_stepwise, never_more, next_batch}
use Rattle.oai_holdings.proofs.MissingLemmas.{same_items}
use Rattle.oai_holdings.proofs.laws.missing_law.Goals as goal

pub returns-clause-lead : goal.returns-clause-lead
returns-clause-lead c = missing_lead

pub returns-clause-stepwise : goal.returns-clause-stepwise
returns-clause-stepwise c = missing_stepwise

pub returns-clause-few : goal.returns-clause-few
returns-clause-few c = never_more

pub returns-clause-joined : goal.returns-clause-joined
returns-clause-joined c = batches_joined

pub returns-clause-next : goal.returns-clause-next
returns-clause-next c = next_batch

pub returns-clause-last : goal.returns-clause-last
returns-clause-last c = last_batch

pub returns-clause-same : goal.returns-clause-same
returns-clause-same c = same_items
