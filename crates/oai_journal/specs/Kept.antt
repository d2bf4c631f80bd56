-- What a journal's file keeps: on the disk, and in what waits for the next commit. This repository's own.
use Rattle.std.specs.Prelude.{◌≡◌, ◌⊎◌, ℕ, ◌+◌, ◌≤◌, false, List, [], ◌++◌, length, take, vec_len, vec_capacity, Vec}
use Rattle.std.proofs.Math.Nat.{add-le-add, le_refl, le_trans}
use Rattle.std.specs.declared.alloc.Global.{Global}
use Rattle.oai_journal.specs.Files.{IsJournalFile}
use Rattle.oai_journal.specs.Groups.{AreGrouped, IsOnDisk, digest_of_all, kept_group}
use Rattle.oai_journal.specs.Journals.{IsLeft}
use Rattle.oai_journal.specs.Records.{Entry}
use Rattle.oai_journal.specs.declared.file.FileJournal.{FileJournal}
use Rattle.oai_journal.specs.declared.frames.TheConstants.{FRAME_ROOM}

-- the disk of a journal
abbrev pub disk_in : {D : Type 0} → FileJournal D → D
disk_in journal = journal.reader.disk

-- the records wait in memory, their frames one after the other
pub record IsWaiting (bytes : List ℕ) (digest last : ℕ) (later : List Entry) : Type 0 where
  pub is : bytes ≡ kept_group digest later
  pub last_is : last ≡ digest_of_all digest later
  pub are : AreGrouped later

-- the file is a journal, and its records are a prefix of these that has all durable ones
pub record Survives (file : List ℕ) (first : Entry) (entries : List Entry) (durable : ℕ) : Type 0 where
  pub count : ℕ
  pub enough : durable ≤ count
  pub within : count ≤ length entries
  pub ends : IsJournalFile file first (take count entries)
  pub only : (other : Entry) (found : List Entry) → IsJournalFile file other found → found ≡ take count entries

-- the records of a journal that begins with the first one: those on the disk, which are durable, and those that wait
pub record KeepsRecords {D : Type 0} (seen : D → List ℕ) (may_leave : D → List ℕ → Type 0) (journal : FileJournal D) (first : Entry) (entries : List Entry) (durable : ℕ) : Type 0 where
  pub written : List Entry
  pub later : List Entry
  pub are : entries ≡ written ++ later
  pub count : durable ≡ length written
  pub settled : journal.stopped ≡ false → IsOnDisk seen may_leave (disk_in journal) journal.end journal.digest first written
  pub waits : journal.stopped ≡ false → IsWaiting journal.pending.items journal.digest journal.last later
  pub survives : (file : List ℕ) → may_leave (disk_in journal) file → Survives file first entries durable

abbrev pub HoldsRecords : {D : Type 0} → (D → List ℕ) → (D → List ℕ → Type 0) → FileJournal D → List Entry → ℕ → Type 0
HoldsRecords seen may_leave journal entries durable = (first : Entry) × KeepsRecords seen may_leave journal first entries durable

-- nothing waits, and the disk has not failed
pub record IsAtEnd {D : Type 0} (journal : FileJournal D) (disk : D) (end digest : ℕ) : Type 0 where
  pub disk_is : disk_in journal ≡ disk
  pub end_is : journal.end ≡ end
  pub digest_is : journal.digest ≡ digest
  pub none : journal.pending.items ≡ []
  pub last_is : journal.last ≡ journal.digest

-- a journal of no records but the first one
abbrev pub HoldsFirst : {D : Type 0} → (D → List ℕ) → (D → List ℕ → Type 0) → FileJournal D → Entry → Type 0
HoldsFirst seen may_leave journal first = KeepsRecords seen may_leave journal first [] 0

-- a crash may leave a file that is a journal of these records
pub record MayLeaveRecords {D : Type 0} (may_leave : D → List ℕ → Type 0) (disk : D) (found : List Entry) : Type 0 where
  pub file : List ℕ
  pub left : may_leave disk file
  pub first : Entry
  pub ends : IsJournalFile file first found

-- the disk has not failed
abbrev pub HasNotStopped : {D : Type 0} → FileJournal D → Type 0
HasNotStopped journal = journal.stopped ≡ false

-- a crash leaves the records that were durable, or all
abbrev pub DiskLeavesAllOrNone : {D : Type 0} → (D → List ℕ → Type 0) → D → List Entry → ℕ → Type 0
DiskLeavesAllOrNone may_leave disk entries durable =
    (found : List Entry) → MayLeaveRecords may_leave disk found → (found ≡ take durable entries) ⊎ (found ≡ entries)

abbrev pub LeavesAllOrNone : {D : Type 0} → (D → List ℕ → Type 0) → FileJournal D → List Entry → ℕ → Type 0
LeavesAllOrNone may_leave journal entries durable = DiskLeavesAllOrNone may_leave (disk_in journal) entries durable

abbrev pub HasRoom : Vec ℕ Global → ℕ → Type 0
HasRoom pending bytes = vec_len pending + bytes + FRAME_ROOM ≤ vec_capacity pending

-- space for a record is space for a shorter one
pub room_for_less : (pending : Vec ℕ Global) (bytes less : ℕ) → less ≤ bytes → HasRoom pending bytes → HasRoom pending less
room_for_less pending bytes less low room =
    le_trans (add-le-add (add-le-add (le_refl (vec_len pending)) low) (le_refl FRAME_ROOM)) room

-- what a crash leaves is a prefix
pub journal_left : {D : Type 0} (seen : D → List ℕ) (may_leave : D → List ℕ → Type 0) (journal : FileJournal D) (entries : List Entry) (durable : ℕ) (found : List Entry)
    → HoldsRecords seen may_leave journal entries durable → MayLeaveRecords may_leave (disk_in journal) found → IsLeft durable entries found
journal_left seen may_leave journal entries durable found held left =
    let survives = (held.1).survives left.file left.left in
    record { count = survives.count; enough = survives.enough; is = survives.only left.first found left.ends }

-- and it leaves one
pub journal_stays : {D : Type 0} (seen : D → List ℕ) (may_leave : D → List ℕ → Type 0) → ((disk : D) → may_leave disk (seen disk)) → (journal : FileJournal D) (entries : List Entry) (durable : ℕ)
    → HoldsRecords seen may_leave journal entries durable → (found : List Entry) × MayLeaveRecords may_leave (disk_in journal) found
journal_stays seen may_leave stays journal entries durable held =
    let survives = (held.1).survives (seen (disk_in journal)) (stays (disk_in journal)) in
    (take survives.count entries, record { file = seen (disk_in journal); left = stays (disk_in journal); first = held.0; ends = survives.ends })
