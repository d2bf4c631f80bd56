-- The records of a journal that is being written, read again behind some of them. This repository's own.
use Rattle.std.specs.Prelude.{◌≡◌, ℕ, ◌+◌, Bool, List, [], ◌∷◌, ◌++◌, length, Option, IsTrue}
use Rattle.oai_journal.specs.Blocks.{IsBlock}
use Rattle.oai_journal.specs.Frames.{entry_in, frame, next_digest}
use Rattle.oai_journal.specs.Groups.{digest_of_all}
use Rattle.oai_journal.specs.Kept.{disk_in}
use Rattle.oai_journal.specs.Records.{Entry, IsFit}
use Rattle.oai_journal.specs.declared.file.FileJournal.{FileJournal}
use Rattle.oai_journal.specs.declared.tails.Tail.{Tail}

-- how many bytes the frames of these records take, each with the commit byte before it, the first of them after the
-- digest `before`
abbrev pub frames_len : ℕ → List Entry → ℕ
frames_len before [] = 0
frames_len before (e ∷ es) = 1 + length (frame before e) + frames_len (next_digest before e) es

-- the tail is behind the first record and these
pub record IsBehind (tail : Tail) (first : Entry) (read : List Entry) : Type 0 where
  pub place : tail.at ≡ 1 + length (frame 0 first) + frames_len (next_digest 0 first) read
  pub last : tail.digest ≡ digest_of_all (next_digest 0 first) read

-- the file begins with a set commit byte and the frame of the record
pub record BeginsWith (file : List ℕ) (first : Entry) : Type 0 where
  pub fit : IsFit first
  pub rest : List ℕ
  pub is : file ≡ 43 ∷ (frame 0 first ++ rest)

-- the tail is behind the first record of the journal and these; and the block that was read is of its file
pub record StandsBehind {D : Type 0} (seen : D → List ℕ) (is_clean : D → Bool) (journal : FileJournal D) (tail : Tail) (read : List Entry) : Type 0 where
  pub first : Entry
  pub begins : BeginsWith (seen (disk_in journal)) first
  pub behind : IsBehind tail first read
  pub block : IsTrue (is_clean (disk_in journal)) → IsBlock seen journal.reader

-- the record that the tail read last
abbrev pub tail_record : Tail → Option Entry
tail_record tail = entry_in tail.frame.items
