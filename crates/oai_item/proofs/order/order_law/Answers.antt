use Rattle.oai_item.proofs.OrderLemmas.{contains_placed, contains_without_at, in_order-placed, in_order-with_item, in_order-without_at, none_at-from}
use Rattle.oai_item.proofs.order.order_law.Goals as goal

pub returns-clause-members : goal.returns-clause-members
returns-clause-members c = contains_placed

pub returns-clause-placed : goal.returns-clause-placed
returns-clause-placed c = λ item items h none. in_order-placed item items h (none_at-from item items none)

pub returns-clause-put : goal.returns-clause-put
returns-clause-put c = in_order-with_item

pub returns-clause-others : goal.returns-clause-others
returns-clause-others c = contains_without_at

pub returns-clause-left : goal.returns-clause-left
returns-clause-left c = in_order-without_at
