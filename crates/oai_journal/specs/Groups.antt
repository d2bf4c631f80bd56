-- Commit groups: how they are written after the commit byte that ends a journal, and what the disk then holds. This
-- repository's own.
use Rattle.std.specs.Prelude.{◌≡◌, ◌⊎◌, ℕ, false, List, [], ◌∷◌, ◌++◌, length, map}
use Rattle.sqlite_disk.specs.Disk.{Holds, Only, Torn}
use Rattle.oai_journal.specs.Files.{AreGated, IsJournalFile, Gated, IsFirstRecord, digest_after, front, is_commit_set, spelled_frames}
use Rattle.oai_journal.specs.Frames.{frame, next_digest}
use Rattle.oai_journal.specs.Records.{Entry, IsFit, is_first_kind}

-- the digest of the last of these frames, the first of which follows the digest `before`
abbrev pub digest_of_all : ℕ → List Entry → ℕ
digest_of_all before [] = before
digest_of_all before (e ∷ es) = digest_of_all (next_digest before e) es

-- the records of a group: each is within the limits, and none begins a journal
abbrev pub AreGrouped : List Entry → Type 0
AreGrouped [] = Unit {0}
AreGrouped (e ∷ es) = (IsFit e × (is_first_kind e.kind ≡ false)) × AreGrouped es

-- the frames of a group in memory, each with the next commit byte after it
abbrev pub kept_group : ℕ → List Entry → List ℕ
kept_group before [] = []
kept_group before (e ∷ es) = frame before e ++ 38 ∷ kept_group (next_digest before e) es

-- further frames of a group
abbrev pub further : List Entry → List Gated
further es = map (λ e. record { gate = 38; entry = e }) es

-- the frames of a group, without the commit byte of the first one
abbrev pub inside : ℕ → List Entry → List ℕ
inside before [] = []
inside before (e ∷ es) = frame before e ++ spelled_frames (next_digest before e) (further es)

-- the disk holds a journal that ends at `end`: the first record, and these, the last of them with that digest
pub record IsOnDisk {D : Type 0} (seen : D → List ℕ) (may_leave : D → List ℕ → Type 0) (disk : D) (end digest : ℕ) (first : Entry) (entries : List Entry) : Type 0 where
  pub frames : List Gated
  pub gate : ℕ
  pub behind : List ℕ
  pub is : seen disk ≡ front first frames ++ gate ∷ behind
  pub closed : is_commit_set gate ≡ false
  pub begins : IsFirstRecord first
  pub are : AreGated frames
  pub says : map (λ f. f.entry) frames ≡ entries
  pub place : end ≡ length (front first frames)
  pub last : digest ≡ digest_after (next_digest 0 first) frames
  pub durable : Only (seen disk) (may_leave disk)

-- the bytes were written there, and are durable
pub record IsMadeDurable {D : Type 0} (seen : D → List ℕ) (may_leave : D → List ℕ → Type 0) (at : ℕ) (bytes : List ℕ) (old new : D) : Type 0 where
  pub torn : Torn at (length bytes) (seen old) (seen new)
  pub holds : Holds (seen new) at bytes
  pub durable : Only (seen new) (may_leave new)

-- the bytes after the commit byte are those of a group of these records
pub record IsGroup (bytes : List ℕ) (digest : ℕ) (later : List Entry) : Type 0 where
  pub is : bytes ≡ inside digest later ++ 45 ∷ []
  pub are : AreGrouped later
  pub some : later ≡ [] → ⊥

-- a journal of all of these, or without the last ones
abbrev pub EndsBeforeOrAfter : List ℕ → Entry → List Entry → List Entry → Type 0
EndsBeforeOrAfter file first entries later = IsJournalFile file first entries ⊎ IsJournalFile file first (entries ++ later)
