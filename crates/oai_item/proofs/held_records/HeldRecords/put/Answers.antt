use Rattle.oai_item.proofs.Holding.{whole_texts}
use Rattle.oai_item.proofs.held_records.HeldRecords.put.Goals as goal

pub returns-in-Spelled-clause-texts : goal.returns-in-Spelled-clause-texts
returns-in-Spelled-clause-texts c =
    rw (← c.self.view_is, c.in-Spelled.is) (whole_texts c.in-Spelled.bytes (rw c.in-Spelled.is at c.self.invariant))
