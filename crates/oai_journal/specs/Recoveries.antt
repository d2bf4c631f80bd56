-- A journal's file as it is read from its first byte on. This repository's own.
use Rattle.std.specs.Prelude.{◌≡◌, ◌⊎◌, ℕ, ◌+◌, ◌<◌, ◌≤◌, Bool, true, false, if◌then◌else◌, List, [], ◌∷◌, ◌++◌, length, map, drop, Option, Some, MatchOption, IsTrue, Vec, vec_len}
use Rattle.std.specs.declared.alloc.Global.{Global}
use Rattle.oai_journal.specs.Blocks.{IsBlock}
use Rattle.oai_journal.specs.Changes.{GoesOn}
use Rattle.oai_journal.specs.Files.{AreGated, Gated, IsFirstRecord, digest_after, front, is_commit_set}
use Rattle.oai_journal.specs.Frames.{IsFrameHead, entry_in, frame, head_of, next_digest}
use Rattle.oai_journal.specs.Heads.{RecordHeadFields}
use Rattle.oai_journal.specs.Records.{Entry, IsFit, is_first_kind}
use Rattle.oai_journal.specs.declared.blocks.BlockReader.{BlockReader}
use Rattle.oai_journal.specs.declared.frames.FrameHead.{FrameHead}
use Rattle.oai_journal.specs.declared.heads.TheConstants.{MAX_HEAD}
use Rattle.oai_journal.specs.declared.recovery.Step.{Step}
use Rattle.oai_journal.specs.declared.recovery.Step.TheVariants.{Changed, End, Frame, Damage}

-- the bytes are the frame of a record, the first of a journal or another one
pub record IsFrame (first : Bool) (before : ℕ) (bytes : List ℕ) (e : Entry) : Type 0 where
  pub fit : IsFit e
  pub kind : is_first_kind e.kind ≡ first
  pub is : bytes ≡ frame before e

-- they are one, whose digest is the answer, or none
pub record IsFrameChecked (first : Bool) (before : ℕ) (bytes : List ℕ) (digest : ℕ) : Type 0 where
  pub entry : Entry
  pub frame : IsFrame first before bytes entry
  pub digest_is : digest ≡ next_digest before entry
  pub read : entry_in bytes ≡ Some entry

abbrev pub Checks : Bool → ℕ → List ℕ → Option ℕ → Type 0
Checks first before bytes result = MatchOption result ((e : Entry) → IsFrame first before bytes e → ⊥) (λ digest. IsFrameChecked first before bytes digest)

-- the length of a frame with which these bytes begin; if there is none, they begin with no frame
abbrev pub IsLenAt : List ℕ → Option ℕ → Type 0
IsLenAt bytes found = (before : ℕ) (e : Entry) (after : List ℕ) → IsFit e → bytes ≡ frame before e ++ after → found ≡ Some (length (frame before e))

-- the head is that of each frame with which these bytes begin
abbrev pub IsHeadOf : RecordHeadFields → List ℕ → Type 0
IsHeadOf h bytes = (before : ℕ) (e : Entry) (after : List ℕ) → IsFit e → bytes ≡ frame before e ++ after → h ≡ head_of e

-- a head was read at that position of a file of that length: it is that of each frame with which the file's bytes begin
-- there, its frame is within the file, and its text is short
pub record IsHeadRead {D : Type 0} (clean : Bool) (seen : D → List ℕ) (reader : BlockReader D) (len at : ℕ) (head : FrameHead) (out : Vec ℕ Global) : Type 0 where
  pub fields : RecordHeadFields
  pub is : IsFrameHead fields head.kind head.size out.items
  pub begins : IsTrue clean → IsBlock seen reader → len ≡ length (seen reader.disk) → IsHeadOf fields (drop at (seen reader.disk))
  pub some : 0 < head.len
  pub within : at + head.len ≤ len
  pub short : vec_len out ≤ MAX_HEAD

-- the bytes do not begin with a frame
abbrev pub HasNoFrame : Bool → ℕ → List ℕ → Type 0
HasNoFrame first before bytes = (e : Entry) (after : List ℕ) → IsFit e → is_first_kind e.kind ≡ first → bytes ≡ frame before e ++ after → ⊥

-- the bytes begin with a frame
pub record HasFrame (first : Bool) (before : ℕ) (bytes read : List ℕ) (digest : ℕ) : Type 0 where
  pub entry : Entry
  pub fit : IsFit entry
  pub kind : is_first_kind entry.kind ≡ first
  pub after : List ℕ
  pub is : bytes ≡ frame before entry ++ after
  pub read_is : read ≡ frame before entry
  pub digest_is : digest ≡ next_digest before entry

abbrev pub FindsFrame : Bool → ℕ → List ℕ → List ℕ → Option ℕ → Type 0
FindsFrame first before bytes read result = MatchOption result (HasNoFrame first before bytes) (λ digest. HasFrame first before bytes read digest)

-- ---- damage

-- no frame follows a set commit byte
pub record IsOpenWithNone (before : ℕ) (bytes : List ℕ) : Type 0 where
  pub gate : ℕ
  pub behind : List ℕ
  pub is : bytes ≡ gate ∷ behind
  pub opened : is_commit_set gate ≡ true
  pub none : HasNoFrame false before behind

-- a journal up to that byte, where there is no commit byte or a set one without a frame after it
pub record IsBrokenAt (file : List ℕ) (at : ℕ) : Type 0 where
  pub first : Entry
  pub frames : List Gated
  pub rest : List ℕ
  pub is : file ≡ front first frames ++ rest
  pub begins : IsFirstRecord first
  pub are : AreGated frames
  pub place : at ≡ length (front first frames)
  pub broken : (rest ≡ []) ⊎ IsOpenWithNone (digest_after (next_digest 0 first) frames) rest

-- the file does not begin with a set commit byte and the frame of a first record
abbrev pub HasNoFirst : List ℕ → Type 0
HasNoFirst file = (behind : List ℕ) → file ≡ 43 ∷ behind → HasNoFrame true 0 behind

-- the file is no journal, because of what it has at that byte
abbrev pub IsDamagedAt : List ℕ → ℕ → Type 0
IsDamagedAt file at = ((at ≡ 0) × HasNoFirst file) ⊎ IsBrokenAt file at

-- ---- how far it was read

-- the file is a journal as far as it was read: the first record and these, followed by `rest`
pub record ReadsTo (file : List ℕ) (at digest : ℕ) (first : Entry) (entries : List Entry) : Type 0 where
  pub frames : List Gated
  pub rest : List ℕ
  pub is : file ≡ front first frames ++ rest
  pub begins : IsFirstRecord first
  pub are : AreGated frames
  pub says : map (λ f. f.entry) frames ≡ entries
  pub place : at ≡ length (front first frames)
  pub last : digest ≡ digest_after (next_digest 0 first) frames

-- ---- one step

-- the commit byte at that position, or none if the file ends there
abbrev pub IsGateAt : List ℕ → ℕ → Option ℕ → Type 0
IsGateAt file at gate = MatchOption gate (drop at file ≡ []) (λ g. drop at file ≡ g ∷ drop (at + 1) file)

-- a file that begins with a set commit byte and the frame of a first record, which was read
pub record StartsAs (file read : List ℕ) (digest : ℕ) : Type 0 where
  pub first : Entry
  pub begins : IsFirstRecord first
  pub after : List ℕ
  pub is : file ≡ 43 ∷ (frame 0 first ++ after)
  pub read_is : read ≡ frame 0 first
  pub digest_is : digest ≡ next_digest 0 first

abbrev pub Starts : List ℕ → List ℕ → Option ℕ → Type 0
Starts file read found = MatchOption found (HasNoFirst file) (λ digest. StartsAs file read digest)

-- an unset commit byte, after which nothing continues the chain
pub record EndsHere (before : ℕ) (rest : List ℕ) : Type 0 where
  pub gate : ℕ
  pub behind : List ℕ
  pub is : rest ≡ gate ∷ behind
  pub closed : is_commit_set gate ≡ false
  pub stops : GoesOn before behind → ⊥

-- an unset commit byte, which was set, since what follows it continues the chain
pub record WasOpen (before : ℕ) (rest : List ℕ) : Type 0 where
  pub gate : ℕ
  pub behind : List ℕ
  pub is : rest ≡ gate ∷ behind
  pub closed : is_commit_set gate ≡ false
  pub goes : GoesOn before behind

-- a set commit byte and a frame, which was read
pub record Continues (rest : List ℕ) (before : ℕ) (read : List ℕ) (digest : ℕ) : Type 0 where
  pub gate : ℕ
  pub entry : Entry
  pub after : List ℕ
  pub is : rest ≡ gate ∷ (frame before entry ++ after)
  pub opened : is_commit_set gate ≡ true
  pub fit : IsFit entry
  pub kind : is_first_kind entry.kind ≡ false
  pub read_is : read ≡ frame before entry
  pub digest_is : digest ≡ next_digest before entry

abbrev pub IsReadStep : List ℕ → ℕ → List ℕ → Step → Type 0
IsReadStep rest before read End = EndsHere before rest
IsReadStep rest before read Changed = WasOpen before rest
IsReadStep rest before read (Frame digest) = Continues rest before read digest
IsReadStep rest before read Damage = (rest ≡ []) ⊎ IsOpenWithNone before rest

-- a frame that was read is within the file
abbrev pub StepsWithin : ℕ → List ℕ → ℕ → Step → Type 0
StepsWithin at read len (Frame digest) = at + 1 + length read ≤ len
StepsWithin at read len other = Unit {0}

-- the result for an unset commit byte, after which the journal continues or not
abbrev pub step_of : Bool → Step
step_of on = if on then Changed else End
