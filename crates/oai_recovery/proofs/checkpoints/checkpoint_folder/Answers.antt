-- A checkpoint was written, and read back.
use Rattle.oai_recovery.proofs.checkpoints.checkpoint_folder.Goals as goal

pub returns : goal.returns
returns g c = record {
  renewed = c.in_ok-renew_journal.ensures;
  config = c.into_parts-text.result.1;
  read = rw c.into_parts-text.ensures.text at c.into_parts-text.ensures.read;
  back = rw (c.deref-2.ensures.value, c.into_parts-text.ensures.text) at c.in_ok-kept.ensures;
}
