-- The journal was found.
use Rattle.oai_recovery.proofs.StartLemmas.{same_file}
use Rattle.oai_recovery.proofs.journals.prepare.Goals as goal

pub returns-in-Some-clause-file : goal.returns-in-Some-clause-file
returns-in-Some-clause-file g c = same_file g.P.Place.held _ _ c.in_ok-old.ensures.seen c.in_ok-disk.ensures
