-- The host that replayed them is of the configuration in the first record.
use Rattle.oai_recovery.proofs.RenewalLemmas.{renewed_of}
use Rattle.oai_recovery.proofs.renewals.renew.Goals as goal

pub returns-in-Ok : goal.returns-in-Ok
returns-in-Ok g c = λ honest clean begins.
    let begun = begins (c.renew_by.ensures.clean clean) in
    renewed_of _ _ begun.0 _ _ c.in_ok-config.config _ _ _ (c.in_ok-forms.ensures begun.0 begun.2) (rw c.deref.ensures.value at c.in_ok-config.ensures.read) c.in_ok-host.ensures.begun
    (c.in-Ok.ensures.saved (c.in_ok-host.ensures.honesty honest) clean begun.0 begun.1)
