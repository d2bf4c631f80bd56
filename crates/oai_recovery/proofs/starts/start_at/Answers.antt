-- The host of the configuration performed all records again.
use Rattle.oai_recovery.specs.ServedDisks.{file_of}
use Rattle.oai_recovery.specs.declared.origins.Origin.{Origin}
use Rattle.oai_recovery.proofs.StartLemmas.{honest_over, started_over}
use Rattle.oai_recovery.proofs.starts.start_at.Goals as goal

pub returns-clause-started : goal.returns-clause-started
returns-clause-started g c = started_over g.P.Disk.Disk.seen g.P.Disk.Disk.may_leave g.P.Disk.Disk.is_clean (λ (o : Origin). file_of g.P.Place.held g.P.Place.held_begun o) c.args.prepared.forms c.args.text.now
    c.in_ok-config.config c.in_ok-host.host _ _ _ _ c.start_by.result c.in_ok-config.ensures.read c.in_ok-config.ensures.rules c.in_ok-host.ensures.begun c.start_by.ensures.replayed

pub returns-clause-honesty : goal.returns-clause-honesty
returns-clause-honesty g c = honest_over _ _ _ c.start_by.result c.start_by.ensures.honesty c.in_ok-host.ensures.honesty
