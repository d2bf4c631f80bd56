-- A checkpoint that is written into a new journal while exchanges go on. This repository's own.
use Rattle.std.specs.Prelude.{◌≡◌, ◌≤◌, ℕ, Bool, true, false, IsTrue, List, [], ◌++◌, length, take}
use Rattle.oai_journal.specs.Records.{Entry}
use Rattle.oai_journal.specs.declared.journals.Journal as journal
use Rattle.oai_journal.specs.declared.tails.Tail.{Tail}
use Rattle.oai_replay.specs.Parts.{PartState, restored_all}
use Rattle.oai_durable.specs.Checkpoints.{records_of_parts}
use Rattle.oai_durable.specs.Journaled.{IsHeld, Parts, Replaying}
use Rattle.oai_durable.specs.Records.{Leaving, redone_all}

-- the new journal, up to where the records of the old one are in it, and whether all parts of the state are
pub record Writing (K : Type 0) : Type 0 where
  pub journal : K
  pub tail : Tail
  pub whole : Bool

-- these parts of that state are in the new journal: some, and the handler has the others left to save; or all, so that
-- they restore the state, and behind them these records are copied
abbrev pub AreInNew : {H : Type 0} → (h : Replaying H) → (h.Kept → h.Kept) → H → h.Kept → List PartState → List Entry → Bool → Type 0
AreInNew h emptied handler state saved copied false = h.saves handler state saved × (copied ≡ [])
AreInNew h emptied handler state saved copied true = restored_all h.leaving.restored (emptied state) saved ≡ state

-- of these records, that many of which are durable, the first ones were there when the checkpoint began: the new journal
-- has the parts of the state that they leave, all of them or some, and behind all those records that were copied; the
-- tail of the old journal stands behind these
pub record IsWriting {H J K : Type 0} (h : Replaying H) (j : journal.Ghosts J) (k : journal.Ghosts K) (emptied : h.Kept → h.Kept) (begun : h.Kept)
    (parts : Parts H J) (entries : List Entry) (durable : ℕ) (w : Writing K) : Type 0 where
  pub first : List Entry
  pub saved : List PartState
  pub copied : List Entry
  pub behind : List Entry
  pub are : entries ≡ (first ++ copied) ++ behind
  pub enough : length (first ++ copied) ≤ durable
  pub stands : j.stands parts.journal w.tail (first ++ copied)
  pub lasting : ℕ
  pub holds : k.holds w.journal (records_of_parts saved ++ copied) lasting
  pub new : AreInNew h emptied parts.handler (redone_all h.leaving begun first) saved copied w.whole

-- the same; and if no more is left, all durable records are copied
pub record IsCopying {H J K : Type 0} (h : Replaying H) (j : journal.Ghosts J) (k : journal.Ghosts K) (emptied : h.Kept → h.Kept) (begun : h.Kept)
    (parts : Parts H J) (entries : List Entry) (durable : ℕ) (w : Writing K) (more : Bool) : Type 0 where
  pub writing : IsWriting h j k emptied begun parts entries durable w
  pub whole : IsTrue w.whole
  pub all : more ≡ false → take durable entries ≡ writing.first ++ writing.copied

-- the records of the new journal, all of them durable, leave what those of the old one do
pub record LeavesSame {K S : Type 0} (k : journal.Ghosts K) (leaving : Leaving S) (begun : S) (entries : List Entry) (new : K) : Type 0 where
  pub file : List Entry
  pub holds : k.holds new file (length file)
  pub leaves : redone_all leaving begun file ≡ redone_all leaving begun entries

-- a checkpoint of these records is written; and if no more is left, and all of them are durable, it is whole
pub record IsWritingOn {H J K : Type 0} (h : Replaying H) (j : journal.Ghosts J) (k : journal.Ghosts K) (emptied : h.Kept → h.Kept) (begun : h.Kept)
    (parts : Parts H J) (entries : List Entry) (durable : ℕ) (w : Writing K) (more : Bool) : Type 0 where
  pub writing : IsWriting h j k emptied begun parts entries durable w
  pub over : more ≡ false → durable ≡ length entries → LeavesSame k h.leaving begun entries w.journal
