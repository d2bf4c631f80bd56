use Rattle.oai_deposit.proofs.ReadingLemmas.{where_true}
use Rattle.oai_deposit.proofs.RecordLemmas.{is_object, records_of-Object}
use Rattle.oai_deposit.proofs.records.records_of.Goals as goal

pub returns-in-Object : goal.returns-in-Object
returns-in-Object c =
    rw (c.in-Object.is, records_of-Object c.args.forms c.in-Object.members) (where_true _ _ (is_object c.in-Object.members) c.records_in.ensures)
