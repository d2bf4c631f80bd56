-- Checkpoints: journals of the parts of a handler's state; and lives with checkpoints between them. This repository's
-- own.
use Rattle.std.specs.Prelude.{◌≡◌, ℕ, List, [], ◌∷◌, ◌++◌, length, map, None}
use Rattle.std.specs.List.{flat_map}
use Rattle.oai_http.specs.Exchanges.{call_at}
use Rattle.oai_replay.specs.Parts.{PartState}
use Rattle.oai_http.specs.declared.exchanges.Answer.{Answer}
use Rattle.oai_http.specs.declared.exchanges.Call.{Call}
use Rattle.oai_journal.specs.Records.{Entry}
use Rattle.oai_journal.specs.declared.journals.Journal as journal
use Rattle.oai_durable.specs.Lives.{Exchanged, IsLife, Life}
use Rattle.oai_durable.specs.Records.{Leaving, entry_of_part, left_by_entry, redone_all}

-- the operations of a handler that can be saved: the state after calls and parts, the answer to a call, the parts of
-- the state, the state after all lists ended and the number of each next list was raised by that much, and the initial
-- state of a handler of the same repositories
pub record Saving (K : Type 0) : Type 0 where
  pub leaving : Leaving K
  pub reply : K → Call → Answer
  pub parts : K → List PartState
  pub ended : ℕ → K → K
  pub emptied : K → K

-- the records of parts, in their order
abbrev pub records_of_parts : List PartState → List Entry
records_of_parts parts = map entry_of_part parts

-- the journal holds the records of these parts, and no others
abbrev pub HasSaved : {J : Type 0} → journal.Ghosts J → J → List PartState → Type 0
HasSaved j journal' parts = (durable : ℕ) × j.holds journal' (records_of_parts parts) durable

-- a checkpoint of a state: the records of its parts, once all lists ended; restored by a handler of the same
-- repositories, from its initial state, they give exactly that state
pub record IsCheckpoint {K : Type 0} (s : Saving K) (kept : K) (raise : ℕ) (records : List Entry) : Type 0 where
  pub is : records ≡ records_of_parts (s.parts (s.ended raise kept))
  pub leaves : redone_all s.leaving (s.emptied kept) records ≡ s.ended raise kept

-- the journal holds a checkpoint of a state, and all of it is durable
pub record HoldsCheckpoint {K J : Type 0} (s : Saving K) (j : journal.Ghosts J) (kept : K) (raise : ℕ) (journal' : J) : Type 0 where
  pub records : List Entry
  pub is : IsCheckpoint s kept raise records
  pub holds : j.holds journal' records (length records)

-- a stage: a life, or a checkpoint of the state that the records leave that were found, which raises the numbers of the
-- next lists by that much
pub data JournalStage : Type 0 where
  lived : Life → JournalStage
  saved : ℕ → JournalStage

abbrev pub IsStage : {K : Type 0} (s : Saving K) → K → List Entry → JournalStage → List Entry → Type 0
IsStage s begun found (lived life) left = IsLife s.leaving s.reply begun found life left
IsStage s begun found (saved raise) left = IsCheckpoint s (redone_all s.leaving begun found) raise left

-- stages, each of which finds the records that the one before it left
abbrev pub AreStages : {K : Type 0} (s : Saving K) → K → List Entry → List JournalStage → List Entry → Type 0
AreStages s begun found [] left = left ≡ found
AreStages s begun found (stage ∷ stages) left = (between : List Entry) × IsStage s begun found stage between × AreStages s begun between stages left

-- the exchanges of a stage whose answers were sent
abbrev pub answered_at : JournalStage → List Exchanged
answered_at (lived life) = life.answered
answered_at (saved raise) = []

-- by how much a stage raises the numbers of the next lists, if it is a checkpoint
abbrev pub raises_at : JournalStage → List ℕ
raises_at (lived life) = []
raises_at (saved raise) = raise ∷ []

-- an event of a history: a record was performed; or all lists ended, and the number of each next list was raised by
-- that much
pub data HistoryEvent : Type 0 where
  done : Entry → HistoryEvent
  lists_ended : ℕ → HistoryEvent

abbrev pub after_event : {K : Type 0} (s : Saving K) → K → HistoryEvent → K
after_event s kept (done entry) = left_by_entry s.leaving kept entry
after_event s kept (lists_ended raise) = s.ended raise kept

-- the state after a history
abbrev pub after_all : {K : Type 0} (s : Saving K) → K → List HistoryEvent → K
after_all s kept [] = kept
after_all s kept (event ∷ events) = after_all s (after_event s kept event) events

-- it has its place after these events: an answer without a fault is what they make of the request, and with its own
-- record they leave the state after it
pub record HasPlaceBehind {K : Type 0} (s : Saving K) (begun : K) (before : List HistoryEvent) (e : Exchanged) : Type 0 where
  pub told : e.answer.fault ≡ None → e.answer ≡ s.reply (after_all s begun before) (call_at e.moment e.asked)
  pub left : e.answer.fault ≡ None → after_all s begun (before ++ map done e.own) ≡ s.leaving.redone (after_all s begun before) (call_at e.moment e.asked)

-- these exchanges have their places in the history, in order: each after all that is before it, and its own record
-- follows
abbrev pub AreIn : {K : Type 0} (s : Saving K) → K → List HistoryEvent → List Exchanged → List HistoryEvent → Type 0
AreIn s begun before [] history = (others : List HistoryEvent) × (history ≡ before ++ others)
AreIn s begun before (e ∷ es) history =
    (unanswered : List HistoryEvent)
    × HasPlaceBehind s begun (before ++ unanswered) e
    × AreIn s begun ((before ++ unanswered) ++ map done e.own) es history

-- by how much an event raises the numbers of the next lists, if it is their end
abbrev pub raises_by : HistoryEvent → List ℕ
raises_by (done entry) = []
raises_by (lists_ended raise) = raise ∷ []

-- the stages are one history: it has the effect of the records that the last of them left, every answer that was sent
-- has its place in it, in order over all lives, and only checkpoints ended lists
pub record IsHistory {K : Type 0} (s : Saving K) (begun : K) (stages : List JournalStage) (left : List Entry) : Type 0 where
  pub history : List HistoryEvent
  pub leaves : after_all s begun history ≡ redone_all s.leaving begun left
  pub places : AreIn s begun [] (flat_map answered_at stages) history
  pub ends : flat_map raises_by history ≡ flat_map raises_at stages
