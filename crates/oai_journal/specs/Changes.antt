-- A set commit byte that was changed: what follows it still continues the chain of digests. This repository's own.
use Rattle.std.specs.Prelude.{◌≡◌, ℕ, ◌<◌, ◌≤◌, ◌↔◌, false, List, [], ◌∷◌, ◌++◌, length, drop, IsTrue}
use Rattle.oai_journal.specs.Files.{AreGated, IsJournalFile, Gated, IsFirstRecord, digest_after, front, is_commit_set}
use Rattle.oai_journal.specs.Frames.{frame, next_digest}
use Rattle.oai_journal.specs.Groups.{AreGrouped, digest_of_all, inside}
use Rattle.oai_journal.specs.Records.{Entry, IsFit, is_first_kind}
use Rattle.oai_journal.specs.declared.changes.ChainProgress.{ChainProgress}
use Rattle.oai_journal.specs.declared.changes.ChainProgress.TheVariants.{Further, Done}

-- the bytes begin with a frame that continues the chain after the digest `before`
pub record BeginsWithFrame (before : ℕ) (bytes : List ℕ) : Type 0 where
  pub entry : Entry
  pub fit : IsFit entry
  pub kind : is_first_kind entry.kind ≡ false
  pub after : List ℕ
  pub is : bytes ≡ frame before entry ++ after

-- the frames of a commit group, without the commit byte of the first one, and then a set commit byte and the first
-- frame of a further group
pub record GoesOn (before : ℕ) (bytes : List ℕ) : Type 0 where
  pub group : List Entry
  pub some : group ≡ [] → ⊥
  pub are : AreGrouped group
  pub behind : List ℕ
  pub is : bytes ≡ inside before group ++ 43 ∷ behind
  pub next : BeginsWithFrame (digest_of_all before group) behind

-- a journal up to that byte, where a commit byte is unset, and what follows it continues the chain
pub record IsChangedAt (file : List ℕ) (at : ℕ) : Type 0 where
  pub first : Entry
  pub frames : List Gated
  pub gate : ℕ
  pub behind : List ℕ
  pub is : file ≡ front first frames ++ gate ∷ behind
  pub begins : IsFirstRecord first
  pub are : AreGated frames
  pub place : at ≡ length (front first frames)
  pub closed : is_commit_set gate ≡ false
  pub goes : GoesOn (digest_after (next_digest 0 first) frames) behind

-- the file is a journal, and no commit byte of it was changed
pub record IsUndamaged (file : List ℕ) (first : Entry) (entries : List Entry) : Type 0 where
  pub ends : IsJournalFile file first entries
  pub unchanged : (at : ℕ) → IsChangedAt file at → ⊥

-- whether the bytes from a position on continue the chain is whether those from a further one do, or the result
abbrev pub IsSearchTurn : List ℕ → ℕ → ℕ → ChainProgress → Type 0
IsSearchTurn file at digest (Further next last) = GoesOn digest (drop at file) ↔ GoesOn last (drop next file)
IsSearchTurn file at digest (Done on) = IsTrue on ↔ GoesOn digest (drop at file)

-- a further position is within the file
abbrev pub TurnsOn : ℕ → ℕ → ChainProgress → Type 0
TurnsOn at len (Further next last) = (at < next) × (next ≤ len)
TurnsOn at len (Done on) = Unit {0}
