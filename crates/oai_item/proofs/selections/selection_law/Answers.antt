use Rattle.oai_item.proofs.Selecting.{contains_selected, in_order-selected, only_selected}
use Rattle.oai_item.proofs.selections.selection_law.Goals as goal

pub returns-clause-rising : goal.returns-clause-rising
returns-clause-rising c = in_order-selected

pub returns-clause-members : goal.returns-clause-members
returns-clause-members c = contains_selected

pub returns-clause-only : goal.returns-clause-only
returns-clause-only c = only_selected
