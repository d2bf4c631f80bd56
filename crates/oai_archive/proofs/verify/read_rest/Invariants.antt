use Rattle.std.proofs.Common.{◌≡◌, [], IsTrue, List, length}
use Rattle.oai_journal.specs.Records.{Entry}
use Rattle.oai_journal.specs.Recovered.{HasRecovered, disk_of}
use Rattle.oai_archive.proofs.verify.read_rest.Given as goal

-- so many records were read, and the disk has failed where it had
abbrev pub invariant-loop-count : goal.invariant-loop-count
invariant-loop-count g l =
    (IsTrue (g.D.Disk.is_clean (disk_of l.recovery)) → (first : Entry) → HasRecovered g.D.Disk.seen g.D.Disk.may_leave l.fn.recovery first []
    → (entries : List Entry) × (length entries ≡ l.count) × HasRecovered g.D.Disk.seen g.D.Disk.may_leave l.recovery first entries)
    × (IsTrue (g.D.Disk.is_clean (disk_of l.recovery)) → IsTrue (g.D.Disk.is_clean (disk_of l.fn.recovery)))
