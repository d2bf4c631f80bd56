-- A journal that is replaced by a checkpoint. This repository's own.
use Rattle.std.specs.Prelude.{ℕ, Bool, true, false, IsTrue, List, map, Option, Ok}
use Rattle.oai_item.specs.declared.forms.Forms.{Forms}
use Rattle.oai_item.specs.declared.forms.Forms.TheVariants.{Elements}
use Rattle.oai_config.specs.Configs.{HostConfig}
use Rattle.oai_config.specs.Reading.{IsRead}
use Rattle.oai_archive.specs.Firsts.{IsOf}
use Rattle.oai_host.specs.Hosts.{HostState, Repository, begun}
use Rattle.oai_journal.specs.Changes.{IsUndamaged}
use Rattle.oai_journal.specs.Records.{Entry}
use Rattle.oai_journal.specs.Recovered.{disk_of}
use Rattle.oai_journal.specs.declared.journals.Journal as journal
use Rattle.oai_journal.specs.declared.recovery.Recovery.{Recovery}
use Rattle.oai_durable.specs.Checkpoints.{HoldsCheckpoint, Saving}
use Rattle.oai_durable.specs.Records.{redone_all}
use Rattle.oai_recovery.specs.Archives.{archive, archived}
use Rattle.oai_recovery.specs.Starts.{HasReplayed}
use Rattle.oai_recovery.specs.declared.origins.Origin.{Origin}
use Rattle.oai_recovery.specs.declared.origins.Origin.TheVariants.{Begun, Found, Reconfigured, Shortened}

-- the journal is a checkpoint, which replaced another one
abbrev pub is_checkpoint : Origin → Bool
is_checkpoint Found = false
is_checkpoint Begun = false
is_checkpoint Shortened = true
is_checkpoint Reconfigured = true

-- the file is a whole journal that begins with the first record; and the journal that was written holds a checkpoint of
-- the state that all its other records leave, from that beginning, and all of it is durable
pub record IsSaved {K J : Type 0} (s : Saving K) (j : journal.Ghosts J) (file : List ℕ) (begun : K) (first : Entry) (raise : ℕ) (written : J) : Type 0 where
  pub entries : List Entry
  pub all : IsUndamaged file first entries
  pub holds : HoldsCheckpoint s j (redone_all s.leaving begun entries) raise written

-- the same of a host, from the initial state of the configuration in the first record, with records of the forms of its
-- version
pub record IsRenewed {J : Type 0} (j : journal.Ghosts J) (file : List ℕ) (raise : ℕ) (written : J) : Type 0 where
  pub first : Entry
  pub forms : Forms
  pub text : List ℕ
  pub own : IsOf forms first.name first.body text
  pub config : HostConfig
  pub read : IsRead forms text (Ok config)
  pub saved : IsSaved archive j file (map begun config.repositories) first raise written

-- the state of the host after the records of that file
abbrev pub state_before : {J : Type 0} {j : journal.Ghosts J} {file : List ℕ} {raise : ℕ} {written : J} → IsRenewed j file raise written → List Repository
state_before renewed = redone_all archive.leaving (map begun renewed.config.repositories) renewed.saved.entries

-- a journal was read, and one was written; if the device of the pages is honest, and the disk of the former returned
-- what was written to it, it is so of these
pub record HasRenewed {O J : Type 0} (seen : O → List ℕ) (is_clean : O → Bool) (j : journal.Ghosts J) (honest : Bool) (raise : ℕ) : Type 0 where
  pub old : Recovery O
  pub written : J
  pub renewed : IsTrue honest → IsTrue (is_clean (disk_of old)) → IsRenewed j (seen (disk_of old)) raise written

-- a journal of the configuration in the text, whose records may be elements, was read to its end, and replayed from that
-- beginning
pub record HasReadBack {D : Type 0} (seen : D → List ℕ) (may_leave : D → List ℕ → Type 0) (is_clean : D → Bool) (held : Option (List ℕ)) (text : List ℕ) (begun : List Repository) : Type 0 where
  pub count : ℕ
  pub host : HostState
  pub recovery : Recovery D
  pub replayed : HasReplayed archived.kept archived.is_honest archived.leaving seen may_leave is_clean held Elements text begun Shortened count host recovery

-- a journal was replaced: a checkpoint of it was written; then one of the configuration in the text was read back, and
-- took its place
pub record IsJournalReplaced {O J D : Type 0} (seen' : O → List ℕ) (is_clean' : O → Bool) (j : journal.Ghosts J) (honest : Bool) (raise : ℕ)
    (seen : D → List ℕ) (may_leave : D → List ℕ → Type 0) (is_clean : D → Bool) (held : Option (List ℕ)) (text : List ℕ) : Type 0 where
  pub renewed : HasRenewed seen' is_clean' j honest raise
  pub config : HostConfig
  pub read : IsRead Elements text (Ok config)
  pub back : HasReadBack seen may_leave is_clean held text (map begun config.repositories)
