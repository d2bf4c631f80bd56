-- An item that is not refused leaves no more entries than items may be.
use Rattle.oai_holdings.proofs.changes.deposits.put_item.Goals as goal

pub returns-in_ok-put_known-in-None-clause-few : goal.returns-in_ok-put_known-in-None-clause-few
returns-in_ok-put_known-in-None-clause-few g c = λ few. rw c.in_ok-put_known-in-None.ensures.many (c.in_ok-cause.ensures.few c.in-None.is few)
