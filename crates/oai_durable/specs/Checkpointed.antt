-- A journaled handler beside whose exchanges a checkpoint is written, which takes the place of the journal once it is
-- whole. This repository's own.
use Rattle.std.specs.Prelude.{◌≡◌, ◌⊎◌, ℕ, ℤ, ◌≤◌, IsTrue, List, ◌++◌, length, Option, None, Some, IfSome, Result, Ok, Err}
use Rattle.oai_http.specs.Exchanges.{Asked}
use Rattle.oai_http.specs.declared.exchanges.Answer.{Answer}
use Rattle.oai_http.specs.declared.handlers.SettleFault.{SettleFault}
use Rattle.oai_journal.specs.Records.{Entry}
use Rattle.oai_journal.specs.declared.journals.Journal as journal
use Rattle.oai_durable.specs.Journaled.{IsExchange, IsHeld, IsSettled, Parts, Replaying}
use Rattle.oai_durable.specs.Lives.{HasPlace}
use Rattle.oai_durable.specs.OnlineCheckpoints.{IsWriting, LeavesSame, Writing}
use Rattle.oai_durable.specs.Records.{Leaving}
use Rattle.oai_durable.specs.Stood.{StandInFor}
use Rattle.oai_durable.specs.declared.steps.Stepped.{Stepped}
use Rattle.oai_durable.specs.declared.steps.Stepped.TheVariants.{InDoubt, Replaced, Stays}

-- the handler and its journal; the checkpoint that is written, if one is; and, where a new journal was renamed over the
-- old one, but the folder could not be synced, that new one
pub record Checkpointed (H J K : Type 0) : Type 0 where
  pub parts : Parts H J
  pub writing : Option (Writing K)
  pub unsynced : Option K

-- an exchange is the journaled handler's
pub record IsExchangeBeside {H J K : Type 0} (h : Replaying H) (j : journal.Ghosts J) (before : Checkpointed H J K) (moment : ℤ) (asked : Asked) (answer : Answer) (after : Checkpointed H J K) : Type 0 where
  pub exchange : IsExchange h j before.parts moment asked answer after.parts
  pub writing : after.writing ≡ before.writing
  pub unsynced : after.unsynced ≡ before.unsynced

-- these are all records, durable and replayed; and the checkpoint that is written, if one is, is one of them
pub record AreAll {H J K : Type 0} (h : Replaying H) (j : journal.Ghosts J) (k : journal.Ghosts K) (emptied : h.Kept → h.Kept) (begun : h.Kept)
    (parts : Parts H J) (at : Option (Writing K)) (entries : List Entry) : Type 0 where
  pub begins : emptied begun ≡ begun
  pub held : IsHeld h j begun parts entries (length entries)
  pub written : IfSome at (λ w. IsWriting h j k emptied begun parts entries (length entries) w)

-- the store is honest, and so far each read of the journal returned what the disk has
pub record IsReadRight {H J : Type 0} (h : Replaying H) (j : journal.Ghosts J) (read : Parts H J) : Type 0 where
  pub honest : IsTrue (h.is_honest read.handler)
  pub clean : IsTrue (j.is_clean read.journal)

-- the new journal leaves what all records do, if what was read for it was right
abbrev pub MaySwitch : {H J K : Type 0} → (h : Replaying H) → journal.Ghosts J → journal.Ghosts K → (h.Kept → h.Kept) → Parts H J → Option (Writing K) → Parts H J → K → Type 0
MaySwitch h j k emptied before at read new =
    IsReadRight h j read → (begun : h.Kept) (entries : List Entry) → AreAll h j k emptied begun before at entries → LeavesSame k h.leaving begun entries new

-- a checkpoint that is written behind a step is one of all records, if what was read for it was right
abbrev pub StaysWritten : {H J K : Type 0} → (h : Replaying H) → journal.Ghosts J → journal.Ghosts K → (h.Kept → h.Kept) → Parts H J → Option (Writing K) → Parts H J → Option (Writing K) → Type 0
StaysWritten h j k emptied before at read now =
    IfSome now (λ w. IsReadRight h j read → (begun : h.Kept) (entries : List Entry) → AreAll h j k emptied begun before at entries → IsWriting h j k emptied begun read entries (length entries) w)

-- where a step leads: the journal stays, or a new one that may take its place does so
abbrev pub StepsTo : {H J K : Type 0} → (h : Replaying H) → journal.Ghosts J → journal.Ghosts K → (h.Kept → h.Kept) → Parts H J → Option (Writing K) → Parts H J → Stepped K → Type 0
StepsTo h j k emptied before at read (Stays now) = StaysWritten h j k emptied before at read now
StepsTo h j k emptied before at read (Replaced new records) = MaySwitch h j k emptied before at read new
StepsTo h j k emptied before at read (InDoubt new) = MaySwitch h j k emptied before at read new

-- a step of a checkpoint that leaves the journal: a checkpoint that is written then is one of all records
pub record JournalStays {H J K : Type 0} (h : Replaying H) (j : journal.Ghosts J) (k : journal.Ghosts K) (emptied : h.Kept → h.Kept)
    (before : Parts H J) (at : Option (Writing K)) (read : Parts H J) (result : Result (Unit {0}) SettleFault) (after : Checkpointed H J K) : Type 0 where
  pub ok : result ≡ Ok tt
  pub parts : after.parts ≡ read
  pub unsynced : after.unsynced ≡ None
  pub written : StaysWritten h j k emptied before at read after.writing

-- the new journal is in the place of the old one
pub record IsSwitched {H J K : Type 0} (second : K → J) (read : Parts H J) (new : K) (result : Result (Unit {0}) SettleFault) (after : Checkpointed H J K) : Type 0 where
  pub ok : result ≡ Ok tt
  pub parts : after.parts ≡ record { handler = read.handler; journal = second new }
  pub writing : after.writing ≡ None
  pub unsynced : after.unsynced ≡ None

-- it was renamed, but the folder could not be synced: that fails, and a crash may leave either
pub record IsInDoubt {H J K : Type 0} (read : Parts H J) (new : K) (result : Result (Unit {0}) SettleFault) (after : Checkpointed H J K) : Type 0 where
  pub fault : SettleFault
  pub err : result ≡ Err fault
  pub parts : after.parts ≡ read
  pub writing : after.writing ≡ None
  pub unsynced : after.unsynced ≡ Some new

-- a new journal that may take the place of the old one does so, or may do so
pub record Switches {H J K : Type 0} (h : Replaying H) (j : journal.Ghosts J) (k : journal.Ghosts K) (emptied : h.Kept → h.Kept) (second : K → J)
    (before : Parts H J) (at : Option (Writing K)) (read : Parts H J) (result : Result (Unit {0}) SettleFault) (after : Checkpointed H J K) : Type 0 where
  pub new : K
  pub may : MaySwitch h j k emptied before at read new
  pub is : IsSwitched second read new result after ⊎ IsInDoubt read new result after

-- how a step ends: the journal stays, or a new one takes its place
pub data StepEnd {H J K : Type 0} (h : Replaying H) (j : journal.Ghosts J) (k : journal.Ghosts K) (emptied : h.Kept → h.Kept) (second : K → J)
    (before : Parts H J) (at : Option (Writing K)) (read : Parts H J) (result : Result (Unit {0}) SettleFault) (after : Checkpointed H J K) : Type 0 where
  keeps_journal : JournalStays h j k emptied before at read result after → StepEnd h j k emptied second before at read result after
  switches : Switches h j k emptied second before at read result after → StepEnd h j k emptied second before at read result after

-- a step of a checkpoint, behind a commit: the records of the handler and its state stay, whatever is read
pub record IsStepBeside {H J K : Type 0} (h : Replaying H) (j : journal.Ghosts J) (k : journal.Ghosts K) (emptied : h.Kept → h.Kept) (second : K → J)
    (before : Parts H J) (at : Option (Writing K)) (result : Result (Unit {0}) SettleFault) (after : Checkpointed H J K) : Type 0 where
  pub read : Parts H J
  pub held : (begun : h.Kept) (entries : List Entry) (durable : ℕ) → IsHeld h j begun before entries durable → IsHeld h j begun read entries durable
  pub honesty : h.is_honest read.handler ≡ h.is_honest before.handler
  pub ends : StepEnd h j k emptied second before at read result after

-- a commit that failed; the checkpoint stays as it is
pub record FailsToCommit {H J K : Type 0} (j : journal.Ghosts J) (before : Checkpointed H J K) (result : Result (Unit {0}) SettleFault) (after : Checkpointed H J K) : Type 0 where
  pub fault : SettleFault
  pub err : result ≡ Err fault
  pub settled : IsSettled j before.parts (Err fault) after.parts
  pub writing : after.writing ≡ before.writing
  pub unsynced : after.unsynced ≡ before.unsynced

-- a commit, and a step of a checkpoint behind it
pub record CommitsAndSteps {H J K : Type 0} (h : Replaying H) (j : journal.Ghosts J) (k : journal.Ghosts K) (emptied : h.Kept → h.Kept) (second : K → J)
    (before : Checkpointed H J K) (result : Result (Unit {0}) SettleFault) (after : Checkpointed H J K) : Type 0 where
  pub synced : before.unsynced ≡ None
  pub committed : Parts H J
  pub commits : IsSettled j before.parts (Ok tt) committed
  pub steps : IsStepBeside h j k emptied second committed before.writing result after

-- settling commits, and makes a step of a checkpoint; or the commit fails; or, where a folder could not be synced,
-- nothing is done, and it fails
pub data IsSettledBeside {H J K : Type 0} (h : Replaying H) (j : journal.Ghosts J) (k : journal.Ghosts K) (emptied : h.Kept → h.Kept) (second : K → J)
    (before : Checkpointed H J K) (result : Result (Unit {0}) SettleFault) (after : Checkpointed H J K) : Type 0 where
  commits : CommitsAndSteps h j k emptied second before result after → IsSettledBeside h j k emptied second before result after
  fails_to_commit : FailsToCommit j before result after → IsSettledBeside h j k emptied second before result after
  refuses : (fault : SettleFault) → result ≡ Err fault → after ≡ before → IsSettledBeside h j k emptied second before result after

-- ---- what is kept

-- what was read for a checkpoint in a settling was right, if a step of one was made that wrote it
abbrev pub IsStepSound : {H J K : Type 0} (h : Replaying H) (j : journal.Ghosts J) (k : journal.Ghosts K) (emptied : h.Kept → h.Kept) (second : K → J)
    (before : Parts H J) (at : Option (Writing K)) (read : Parts H J) (result : Result (Unit {0}) SettleFault) (after : Checkpointed H J K)
    → StepEnd h j k emptied second before at read result after → Type 0
IsStepSound h j k emptied second before at read result after (keeps_journal goes) = IfSome after.writing (λ w. IsReadRight h j read)
IsStepSound h j k emptied second before at read result after (switches put) = IsReadRight h j read

abbrev pub IsSettlingSound : {H J K : Type 0} (h : Replaying H) (j : journal.Ghosts J) (k : journal.Ghosts K) (emptied : h.Kept → h.Kept) (second : K → J)
    (before : Checkpointed H J K) (result : Result (Unit {0}) SettleFault) (after : Checkpointed H J K) → IsSettledBeside h j k emptied second before result after → Type 0
IsSettlingSound h j k emptied second before result after (commits done) =
    IsStepSound h j k emptied second done.committed before.writing done.steps.read result after done.steps.ends
IsSettlingSound h j k emptied second before result after (fails_to_commit done) = Unit {0}
IsSettlingSound h j k emptied second before result after (refuses fault err same) = Unit {0}

-- the new journal leaves what the first of these records do, among them all that are durable
pub record LeavesFirst {K S : Type 0} (k : journal.Ghosts K) (leaving : Leaving S) (begun : S) (entries : List Entry) (durable : ℕ) (new : K) : Type 0 where
  pub first : List Entry
  pub behind : List Entry
  pub are : entries ≡ first ++ behind
  pub enough : durable ≤ length first
  pub leaves : LeavesSame k leaving begun first new

-- the journal's file stands for these records, that many of which are durable, and its replay gives the handler's
-- state; a checkpoint that is written is one of the file's records; and so does a new journal that may be in its place
pub record IsHeldBeside {H J K : Type 0} (h : Replaying H) (j : journal.Ghosts J) (k : journal.Ghosts K) (emptied : h.Kept → h.Kept) (begun : h.Kept)
    (now : Checkpointed H J K) (entries : List Entry) (durable : ℕ) : Type 0 where
  pub file : List Entry
  pub many : ℕ
  pub held : IsHeld h j begun now.parts file many
  pub stands : StandInFor h.leaving begun entries durable file many
  pub written : IfSome now.writing (λ w. IsWriting h j k emptied begun now.parts file many w)
  pub unsynced : IfSome now.unsynced (λ new. LeavesFirst k h.leaving begun entries durable new)

-- a crash leaves what it leaves of the journal; or of a new one that may be in its place
abbrev pub MayLeaveBeside : {H J K : Type 0} → journal.Ghosts J → journal.Ghosts K → Checkpointed H J K → List Entry → Type 0
MayLeaveBeside {H} {J} {K} j k now left = j.may_leave now.parts.journal left ⊎ ((new : K) × (now.unsynced ≡ Some new) × k.may_leave new left)

-- an exchange after these records, of a checkpointed handler
pub record IsKeptBeside {H J K : Type 0} (h : Replaying H) (j : journal.Ghosts J) (k : journal.Ghosts K) (emptied : h.Kept → h.Kept) (begun : h.Kept) (entries : List Entry) (durable : ℕ)
    (before : Checkpointed H J K) (moment : ℤ) (asked : Asked) (answer : Answer) (after : Checkpointed H J K) : Type 0 where
  pub own : List Entry
  pub one : length own ≤ 1
  pub held : IsHeldBeside h j k emptied begun after (entries ++ own) durable
  pub place : IsTrue (h.is_honest before.parts.handler) → HasPlace h.leaving h.reply begun entries (record { moment = moment; asked = asked; answer = answer; own = own })
