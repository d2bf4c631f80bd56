-- The journal is the one that was begun.
use Rattle.oai_recovery.proofs.StartLemmas.{other_file}
use Rattle.oai_recovery.proofs.journals.prepare_begun.Goals as goal

pub returns-clause-file : goal.returns-clause-file
returns-clause-file g c = other_file _ _ _ _ c.requires.other c.in_ok-recovery.ensures.seen c.in_ok-disk.ensures
