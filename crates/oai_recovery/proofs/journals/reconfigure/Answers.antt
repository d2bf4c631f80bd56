-- A checkpoint was written.
use Rattle.oai_recovery.proofs.RenewalLemmas.{renewed_always}
use Rattle.oai_recovery.proofs.journals.reconfigure.Goals as goal

pub returns-clause-renewed : goal.returns-clause-renewed
returns-clause-renewed g c = renewed_always _ _ c.prepare_begun.result (record {
  old = c.renew.new.old;
  written = c.in_ok-renew.field-0;
  renewed = λ honest clean. c.in_ok-renew.ensures honest clean c.requires.begun;
})
