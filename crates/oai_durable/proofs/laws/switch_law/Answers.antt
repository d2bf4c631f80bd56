use Rattle.oai_durable.proofs.SwitchLemmas.{switch_left}
use Rattle.oai_durable.proofs.laws.switch_law.Goals as goal

pub returns : goal.returns
returns g c =
    switch_left (record { redone = g.H.Replayed.redone; restored = g.H.Replayed.restored }) g.D.Disk.seen g.D.Disk.may_leave g.E.Disk.seen g.E.Disk.may_leave
