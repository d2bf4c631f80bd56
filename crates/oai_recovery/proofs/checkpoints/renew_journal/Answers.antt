-- A checkpoint was written.
use Rattle.oai_recovery.proofs.checkpoints.renew_journal.Goals as goal

pub returns : goal.returns
returns g c = record {
  old = c.renew-renewed.new.old;
  written = c.in_ok-renewed.field-0;
  renewed = λ honest clean. c.in_ok-renewed.ensures honest clean c.in_ok-old.ensures;
}
