use Rattle.oai_recovery.specs.Archives.{archive}
use Rattle.oai_recovery.specs.Renewals.{state_before}
use Rattle.oai_recovery.proofs.RenewalLemmas.{checkpoint_left}
use Rattle.oai_recovery.proofs.laws.checkpoint_law.Goals as goal

pub returns : goal.returns
returns g c = λ old raise written renewed file first found.
    let held = renewed.saved.holds in
    checkpoint_left archive g.D.Disk.seen g.D.Disk.may_leave (state_before renewed) raise written held.records held.is held.holds file first found
