-- What was read back was replayed by a host of the configuration.
use Rattle.std.proofs.Common.{◌∙◌}
use Rattle.oai_recovery.specs.ServedDisks.{file_of}
use Rattle.oai_recovery.specs.declared.origins.Origin.{Origin}
use Rattle.oai_recovery.proofs.RenewalLemmas.{read_back}
use Rattle.oai_recovery.proofs.starts.keep_checkpoint.Goals as goal

pub returns-in-Ok : goal.returns-in-Ok
returns-in-Ok g c = read_back g.P.Disk.Disk.seen g.P.Disk.Disk.may_leave g.P.Disk.Disk.is_clean (λ (o : Origin). file_of g.P.Place.held g.P.Place.held_begun o) _ c.args.text.now _ c.in_ok-host.host _ _ _ _
    c.in_ok-host.ensures.begun (c.in-Ok.ensures.origin ∙ c.in_ok-checkpoint.ensures.origin) c.in_ok-checkpoint.ensures.forms c.in-Ok.ensures.replayed
