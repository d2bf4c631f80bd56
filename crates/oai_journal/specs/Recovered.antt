-- A recovery: how much of a journal's file it has read. This repository's own.
use Rattle.std.specs.Prelude.{◌≡◌, ℕ, true, List, length, Option}
use Rattle.sqlite_disk.specs.Disk.{Only}
use Rattle.oai_journal.specs.Blocks.{IsBlock}
use Rattle.oai_journal.specs.Frames.{entry_in}
use Rattle.oai_journal.specs.Records.{Entry}
use Rattle.oai_journal.specs.Recoveries.{EndsHere, ReadsTo}
use Rattle.oai_journal.specs.declared.recovery.Recovery.{Recovery}

abbrev pub disk_of : {D : Type 0} → Recovery D → D
disk_of recovery = recovery.reader.disk

-- the record that was read last
abbrev pub current : {D : Type 0} → Recovery D → Option Entry
current recovery = entry_in recovery.frame.items

-- the first record was read, and these, all of them durable
pub record HasRecovered {D : Type 0} (seen : D → List ℕ) (may_leave : D → List ℕ → Type 0) (recovery : Recovery D) (first : Entry) (entries : List Entry) : Type 0 where
  pub reads : ReadsTo (seen recovery.reader.disk) recovery.at recovery.digest first entries
  pub size : recovery.len ≡ length (seen recovery.reader.disk)
  pub durable : Only (seen recovery.reader.disk) (may_leave recovery.reader.disk)
  pub ends : recovery.ended ≡ true → EndsHere recovery.digest reads.rest
  pub block : IsBlock seen recovery.reader
