-- The first record is durable, and none is behind it.
use Rattle.oai_recovery.proofs.begun_checkpoints.begin_checkpoint.Goals as goal

pub returns-in-Ok : goal.returns-in-Ok
returns-in-Ok g c = (0, (c.in-Ok.ensures.0, c.in-Ok.ensures.1))
