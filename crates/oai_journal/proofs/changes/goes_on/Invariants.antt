use Rattle.std.proofs.Common.{◌≡◌, ◌-◌, ◌≤◌, ◌↔◌, ℕ, List, length, drop, vec_capacity, IsTrue}
use Rattle.oai_journal.specs.Blocks.{IsBlock}
use Rattle.oai_journal.specs.Changes.{GoesOn}
use Rattle.oai_journal.specs.declared.frames.TheConstants.{FRONT_ROOM}
use Rattle.oai_journal.proofs.changes.goes_on.Given as goal

abbrev pub invariant-loop-next : goal.invariant-loop-next
invariant-loop-next g l =
    (g.D.Disk.seen l.reader.disk ≡ g.D.Disk.seen l.fn.reader.disk) × (FRONT_ROOM ≤ vec_capacity l.out)
    × ((c : List ℕ) → g.D.Disk.may_leave l.reader.disk c → g.D.Disk.may_leave l.fn.reader.disk c)
    × (IsTrue (g.D.Disk.is_clean l.reader.disk) → IsTrue (g.D.Disk.is_clean l.fn.reader.disk))
    × (IsTrue (g.D.Disk.is_clean l.reader.disk) → IsBlock g.D.Disk.seen l.fn.reader → IsBlock g.D.Disk.seen l.reader)
    × (IsTrue (g.D.Disk.is_clean l.reader.disk) → IsBlock g.D.Disk.seen l.fn.reader → l.len ≡ length (g.D.Disk.seen l.fn.reader.disk)
    → GoesOn l.fn.digest (drop l.fn.at (g.D.Disk.seen l.fn.reader.disk)) ↔ GoesOn l.last (drop l.place (g.D.Disk.seen l.fn.reader.disk)))

abbrev pub decreases-loop-next : goal.decreases-loop-next
decreases-loop-next g l = l.len - l.place
