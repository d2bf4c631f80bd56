-- A handler whose exchanges are logged in a journal before their answers are sent. This repository's own.
use Rattle.std.specs.Prelude.{◌≡◌, ◌⊎◌, ℕ, ℤ, ◌≤◌, Bool, IsTrue, List, ◌++◌, length, Option, None, Some, Result, OnErr, OnOk}
use Rattle.oai_item.specs.declared.faults.Fault.TheVariants.{NoMemory}
use Rattle.oai_http.specs.Answers.{failed}
use Rattle.oai_http.specs.Exchanges.{Asked, call_at}
use Rattle.oai_http.specs.Targets.{endpoint_of}
use Rattle.oai_http.specs.declared.exchanges.Answer.{Answer}
use Rattle.oai_http.specs.declared.exchanges.Call.{Call}
use Rattle.oai_http.specs.declared.handlers.SettleFault.{SettleFault}
use Rattle.oai_http.specs.declared.targets.Endpoint.{Endpoint}
use Rattle.oai_http.specs.declared.targets.Endpoint.TheVariants.{Deposits, Requests}
use Rattle.oai_journal.specs.Records.{Entry}
use Rattle.oai_journal.specs.declared.journals.Journal as journal
use Rattle.oai_journal.specs.declared.tails.Tail.{Tail}
use Rattle.oai_replay.specs.Parts.{PartState}
use Rattle.oai_durable.specs.Records.{Leaving, redone_all}

-- the operations of a handler whose exchanges can be replayed: what may be answered, its state, whether its device
-- returns what was written to it, the state after calls and parts, the answer to a call, and whether a checkpoint of a
-- state is written, of which some parts are saved
pub record Replaying (H : Type 0) : Type 1 where
  pub step : H → ℤ → Asked → Answer → H → Type 0
  pub Kept : Type 0
  pub kept : H → Kept
  pub is_honest : H → Bool
  pub leaving : Leaving Kept
  pub reply : Kept → Call → Answer
  pub saves : H → Kept → List PartState → Type 0

-- what the traits `Handler` and `Replayed` say of a handler
abbrev pub Promised : Type 0 → Type 1
Promised H = record {
  step : H → ℤ → Asked → Answer → H → Type 0;
  Kept : Type 0;
  kept : H → Kept;
  is_honest : H → Bool;
  redone : Kept → Call → Kept;
  reply : Kept → Call → Answer;
  saves : H → Kept → List PartState → Type 0;
  restored : Kept → PartState → Kept;
  parts : Kept → List PartState;
  ended : ℕ → Kept → Kept;
  emptied : Kept → Kept;
}

-- the handler of which they say it, as its journal replays it
abbrev pub promised : {H : Type 0} → Promised H → Replaying H
promised p = record {
  step = p.step;
  Kept = p.Kept;
  kept = p.kept;
  is_honest = p.is_honest;
  leaving = record { redone = p.redone; restored = p.restored };
  reply = p.reply;
  saves = p.saves;
}

-- the handler, and the journal
pub record Parts (H J : Type 0) : Type 0 where
  pub handler : H
  pub journal : J

-- these are the records of the journal, that many of them are durable, and their replay from that beginning gives the
-- handler's state
pub record IsHeld {H J : Type 0} (h : Replaying H) (j : journal.Ghosts J) (begun : h.Kept) (parts : Parts H J) (entries : List Entry) (durable : ℕ) : Type 0 where
  pub records : j.holds parts.journal entries durable
  pub kept : IsTrue (h.is_honest parts.handler) → h.kept parts.handler ≡ redone_all h.leaving begun entries

-- for a deposit that was not begun, no line was done
abbrev pub none_done : Option Endpoint → Option ℕ
none_done (Some Deposits) = Some 0
none_done (Some Requests) = None
none_done None = None

-- the answer to a message that was refused before it was performed, since no space could be reserved for its record
abbrev pub unperformed_answer : List ℕ → Answer
unperformed_answer target = failed NoMemory (none_done (endpoint_of target))

-- the handler performed the message; or it was refused before it was
abbrev pub IsTried : {H J : Type 0} → Replaying H → Parts H J → ℤ → Asked → Answer → Parts H J → Type 0
IsTried h before moment asked answer after =
    h.step before.handler moment asked answer after.handler
    ⊎ ((after.handler ≡ before.handler) × (answer ≡ unperformed_answer asked.target))

-- an exchange after these records: what was performed is logged after them, at most one record, and nothing more is
-- durable. An answer without a fault is what the records before it make of the exchange, and with its own record they
-- leave the state after the exchange
pub record IsKept {H J : Type 0} (h : Replaying H) (j : journal.Ghosts J) (begun : h.Kept) (entries : List Entry) (durable : ℕ)
    (before : Parts H J) (moment : ℤ) (asked : Asked) (answer : Answer) (after : Parts H J) : Type 0 where
  pub own : List Entry
  pub one : length own ≤ 1
  pub held : IsHeld h j begun after (entries ++ own) durable
  pub told : IsTrue (h.is_honest before.handler) → answer.fault ≡ None → answer ≡ h.reply (redone_all h.leaving begun entries) (call_at moment asked)
  pub left : IsTrue (h.is_honest before.handler) → answer.fault ≡ None
      → redone_all h.leaving begun (entries ++ own) ≡ h.leaving.redone (redone_all h.leaving begun entries) (call_at moment asked)

-- what an exchange does, whatever records precede it. A checkpoint that is written stays one of the same state, and each
-- tail of the journal stays where it stands
pub record IsExchange {H J : Type 0} (h : Replaying H) (j : journal.Ghosts J) (before : Parts H J) (moment : ℤ) (asked : Asked) (answer : Answer) (after : Parts H J) : Type 0 where
  pub tried : IsTried h before moment asked answer after
  pub honesty : h.is_honest after.handler ≡ h.is_honest before.handler
  pub kept : (begun : h.Kept) (entries : List Entry) (durable : ℕ) → IsHeld h j begun before entries durable → IsKept h j begun entries durable before moment asked answer after
  pub saving : (state : h.Kept) (saved : List PartState) → h.saves before.handler state saved → h.saves after.handler state saved
  pub tails : (tail : Tail) (read : List Entry) → j.stands before.journal tail read → j.stands after.journal tail read

-- settling makes all records durable, and leaves each tail where it stands; or it fails and leaves the records. The
-- handler is unchanged
pub record IsSettled {H J : Type 0} (j : journal.Ghosts J) (before : Parts H J) (result : Result (Unit {0}) SettleFault) (after : Parts H J) : Type 0 where
  pub handler : after.handler ≡ before.handler
  pub ok : OnOk result ((entries : List Entry) (durable : ℕ) → j.holds before.journal entries durable → j.holds after.journal entries (length entries))
  pub err : OnErr result ((entries : List Entry) (durable : ℕ) → j.holds before.journal entries durable → j.holds after.journal entries durable)
  pub tails : OnOk result ((entries : List Entry) (durable : ℕ) → j.holds before.journal entries durable → (tail : Tail) (read : List Entry) → j.stands before.journal tail read → j.stands after.journal tail read)
