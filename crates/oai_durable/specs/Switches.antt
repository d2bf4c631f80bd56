-- A switch: a second journal, with a checkpoint in place of the first records, is renamed over the first one. This
-- repository's own.
use Rattle.std.specs.Prelude.{◌≡◌, ◌⊎◌, ℕ, List, length}
use Rattle.oai_journal.specs.Files.{IsJournalFile}
use Rattle.oai_journal.specs.Records.{Entry}
use Rattle.oai_durable.specs.Records.{Leaving}
use Rattle.oai_durable.specs.Stood.{StandInFor}

-- how far a switch is: the file is not yet renamed; it is, but its folder is not yet synced; or it is synced
pub data SwitchPhase : Type 0 where
  unrenamed : SwitchPhase
  renamed : SwitchPhase
  synced : SwitchPhase

-- what a crash may leave under the name of the journal: until the rename what it leaves of the old disk, once the
-- folder is synced what it leaves of the new one, and between them either
abbrev pub FolderLeaves : {D E : Type 0} → (D → List ℕ → Type 0) → (E → List ℕ → Type 0) → D → E → SwitchPhase → List ℕ → Type 0
FolderLeaves of_old of_new old new unrenamed file = of_old old file
FolderLeaves of_old of_new old new renamed file = of_old old file ⊎ of_new new file
FolderLeaves of_old of_new old new synced file = of_new new file

-- the file is a journal of one reading, whose records, all of them durable, stand for all of these
pub record StandsForAll {K : Type 0} (leaving : Leaving K) (begun : K) (entries : List Entry) (file : List ℕ) : Type 0 where
  pub first : Entry
  pub found : List Entry
  pub is : IsJournalFile file first found
  pub only : (other : Entry) (others : List Entry) → IsJournalFile file other others → others ≡ found
  pub stands : StandInFor leaving begun entries (length entries) found (length found)
