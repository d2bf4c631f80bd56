-- A life of a handler as a server lives it: rounds in which messages are served and the handler settles, and then
-- others whose answers are held back. This repository's own.
use Rattle.std.specs.Prelude.{◌≡◌, ◌⊎◌, ℕ, ℤ, IsTrue, List, ◌++◌, length, map, Option, Result}
use Rattle.oai_http.specs.Exchanges.{Asked}
use Rattle.oai_http.specs.declared.exchanges.Answer.{Answer}
use Rattle.oai_http.specs.declared.exchanges.Call.{Call}
use Rattle.oai_http.specs.declared.handlers.SettleFault.{SettleFault}
use Rattle.oai_front.specs.Runs.{Served, Serves}
use Rattle.oai_journal.specs.Records.{Entry}
use Rattle.oai_journal.specs.declared.journals.Journal as journal
use Rattle.oai_serving.specs.Accepted.{Known, Passes}
use Rattle.oai_serving.specs.Rounds.{AreSettled, World}
use Rattle.oai_serving.specs.Tables.{AreAllAnswered, AreAllKept}
use Rattle.oai_durable.specs.Journaled.{IsExchange, IsHeld, IsSettled, Parts, Replaying}
use Rattle.oai_durable.specs.Lives.{Exchanged, IsLife, Life}
use Rattle.oai_durable.specs.Records.{Leaving}

-- what was asked at which moment, and its answer
pub record TimedAnswer : Type 0 where
  pub moment : ℤ
  pub asked : Asked
  pub answer : Answer

abbrev pub told_by : Exchanged → TimedAnswer
told_by e = record { moment = e.moment; asked = e.asked; answer = e.answer }

abbrev pub told_to : Served → TimedAnswer
told_to s = record { moment = s.moment; asked = s.done.message.asked; answer = s.done.answer }

-- the exchanges are those that were served, in order
abbrev pub AreThose : List Exchanged → List Served → Type 0
AreThose exchanges served = map told_by exchanges ≡ map told_to served

-- how a life ends: at once, or after settling succeeded or failed, before an answer is sent
abbrev pub EndsAs : {H J : Type 0} → journal.Ghosts J → Parts H J → Parts H J → Type 0
EndsAs j performed last = (last ≡ performed) ⊎ ((result : Result (Unit {0}) SettleFault) × IsSettled j performed result last)

-- a life that begins in the state that those records leave, all of them durable: rounds that settled, messages after
-- them, and what a crash then leaves
pub record IsLived {H J : Type 0} (h : Replaying H) (j : journal.Ghosts J) (begun : h.Kept) (found : List Entry) (first : Parts H J)
    (rounds : List (List Served)) (held : List Served) (left : List Entry) : Type 0 where
  pub begins : IsHeld h j begun first found (length found)
  pub honest : IsTrue (h.is_honest first.handler)
  pub settled : Parts H J
  pub settles : AreSettled (IsExchange h j) (IsSettled j) rounds first settled
  pub performed : Parts H J
  pub serves : Serves (IsExchange h j) settled held performed
  pub last : Parts H J
  pub ends : EndsAs j performed last
  pub leaves : j.may_leave last.journal left

-- the life whose answers that were sent are those of the rounds that settled
pub record LivesAs {K : Type 0} (leaving : Leaving K) (reply : K → Call → Answer) (begun : K) (found : List Entry) (answered held : List Served) (left : List Entry) : Type 0 where
  pub life : Life
  pub answers : AreThose life.answered answered
  pub others : AreThose life.held held
  pub is : IsLife leaving reply begun found life left

-- what a service leaves: of the messages that were served those whose answers were sent, each of which has its place
-- among the records that a crash then leaves, and the others; and each client that was accepted, whether it has a link
-- or was let go, received a prefix of the answers to its own among the first
pub record IsRemembered {S H J K : Type 0} (contents remaining : S → Option (List ℕ)) (leaving : Leaving K) (reply : K → Call → Answer) (begun : K) (found : List Entry)
    (known later : Known S) (old new : World S (Parts H J)) (left : List Entry) : Type 0 where
  pub answered : List Served
  pub held : List Served
  pub lives : LivesAs leaving reply begun found answered held left
  pub streams : List S
  pub parted : List (ℕ × S)
  pub passes : Passes known later streams parted
  pub clients : (accepted : List S) (gone : List (ℕ × S)) (earlier : List Served) → old.last ≡ length accepted → AreAllKept contents remaining accepted gone earlier old.links
      → AreAllAnswered contents remaining (accepted ++ streams) (gone ++ parted) (earlier ++ answered) new.links
