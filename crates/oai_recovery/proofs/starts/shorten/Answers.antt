-- A checkpoint was written of what the host replayed.
use Rattle.oai_recovery.proofs.RenewalLemmas.{renewed_always, shortened_of}
use Rattle.oai_recovery.proofs.starts.shorten.Goals as goal

pub returns-clause-renewed : goal.returns-clause-renewed
returns-clause-renewed g c = renewed_always _ _ c.start_at.result
    (shortened_of g.P.Disk.Disk.seen g.P.Disk.Disk.may_leave g.P.Disk.Disk.is_clean _ c.args.text.now c.args.found.origin c.args.found.records c.args.found.handler c.args.found.recovery
    _ g.P.Place.is_honest 0 c.in_ok-saved.field-0 c.requires.started c.requires.honesty c.in_ok-saved.ensures)
