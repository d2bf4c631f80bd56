use Rattle.oai_archive.proofs.checkpoints.write_checkpoint.Goals as goal

pub returns-in-Ok-clause-saved : goal.returns-in-Ok-clause-saved
returns-in-Ok-clause-saved g c = λ honest. c.in-Ok.ensures.saved honest 0 (c.in_ok-journal.ensures.0, c.in_ok-journal.ensures.1)
