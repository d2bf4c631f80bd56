use Rattle.std.proofs.Common.{◌≡◌, ℕ, [], IsTrue, List, length}
use Rattle.oai_durable.specs.Recovered.{HasRedone}
use Rattle.oai_journal.specs.Records.{Entry}
use Rattle.oai_journal.specs.Recovered.{HasRecovered, disk_of}
use Rattle.oai_durable.proofs.recovery.recover.Given as goal

-- so many records were read and performed again, and the disk is as it was, and has failed where it had
abbrev pub invariant-loop-count : goal.invariant-loop-count
invariant-loop-count g l =
    (g.H.Replayed.is_honest l.handler ≡ g.H.Replayed.is_honest l.fn.handler)
    × (g.D.Disk.seen (disk_of l.recovery) ≡ g.D.Disk.seen (disk_of l.fn.recovery))
    × ((c : List ℕ) → g.D.Disk.may_leave (disk_of l.recovery) c → g.D.Disk.may_leave (disk_of l.fn.recovery) c)
    × (IsTrue (g.D.Disk.is_clean (disk_of l.recovery)) → (first : Entry) → HasRecovered g.D.Disk.seen g.D.Disk.may_leave l.fn.recovery first []
    → (entries : List Entry) × (length entries ≡ l.count)
    × HasRedone g.H.Replayed.kept g.H.Replayed.is_honest (record { redone = g.H.Replayed.redone; restored = g.H.Replayed.restored }) g.D.Disk.seen g.D.Disk.may_leave (g.H.Replayed.kept l.fn.handler) l.handler l.recovery first entries)
    × (IsTrue (g.D.Disk.is_clean (disk_of l.recovery)) → IsTrue (g.D.Disk.is_clean (disk_of l.fn.recovery)))
