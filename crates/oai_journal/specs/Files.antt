-- The file of a journal: frames, each after a set commit byte (a gate that is open), and then one that is unset
-- (closed). This repository's own.
use Rattle.std.specs.Prelude.{◌≡◌, ℕ, ◌==◌, Bool, true, false, ◌||◌, List, [], ◌∷◌, ◌++◌, map}
use Rattle.oai_journal.specs.Frames.{frame, next_digest}
use Rattle.oai_journal.specs.Records.{Entry, IsFit, is_first_kind}

-- the commit byte is set: `+` begins a committed group, and `&` a further frame of its group
abbrev pub is_commit_set : ℕ → Bool
is_commit_set gate = gate == 43 || gate == 38

-- a commit byte, and the record in the frame after it
pub record Gated : Type 0 where
  pub gate : ℕ
  pub entry : Entry

-- frames one after the other, the first of them after the digest `before`
abbrev pub spelled_frames : ℕ → List Gated → List ℕ
spelled_frames before [] = []
spelled_frames before (f ∷ fs) = f.gate ∷ (frame before f.entry ++ spelled_frames (next_digest before f.entry) fs)

-- the digest of the last of them
abbrev pub digest_after : ℕ → List Gated → ℕ
digest_after before [] = before
digest_after before (f ∷ fs) = digest_after (next_digest before f.entry) fs

-- a committed frame
pub record IsGated (f : Gated) : Type 0 where
  pub opened : is_commit_set f.gate ≡ true
  pub fit : IsFit f.entry
  pub kind : is_first_kind f.entry.kind ≡ false

abbrev pub AreGated : List Gated → Type 0
AreGated [] = Unit {0}
AreGated (f ∷ fs) = IsGated f × AreGated fs

-- a record with which a journal begins
pub record IsFirstRecord (e : Entry) : Type 0 where
  pub fit : IsFit e
  pub kind : is_first_kind e.kind ≡ true

-- the first record, and then frames: what precedes the commit byte that ends the journal
abbrev pub front : Entry → List Gated → List ℕ
front first frames = 43 ∷ (frame 0 first ++ spelled_frames (next_digest 0 first) frames)

-- the file is a journal that begins with the first record, and these are the others
pub record IsJournalFile (file : List ℕ) (first : Entry) (entries : List Entry) : Type 0 where
  pub frames : List Gated
  pub gate : ℕ
  pub behind : List ℕ
  pub is : file ≡ front first frames ++ gate ∷ behind
  pub closed : is_commit_set gate ≡ false
  pub begins : IsFirstRecord first
  pub are : AreGated frames
  pub says : map (λ f. f.entry) frames ≡ entries
