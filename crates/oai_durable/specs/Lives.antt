-- Lives of a handler, one after the other: what each leaves in its journal, and what was answered in them. A life is
-- one run of the server. This repository's own.
use Rattle.std.specs.Prelude.{◌≡◌, ℤ, List, [], ◌∷◌, ◌++◌, length, None}
use Rattle.std.specs.List.{flat_map}
use Rattle.oai_http.specs.Exchanges.{Asked, call_at}
use Rattle.oai_http.specs.declared.exchanges.Answer.{Answer}
use Rattle.oai_http.specs.declared.exchanges.Call.{Call}
use Rattle.oai_journal.specs.Journals.{IsLeft}
use Rattle.oai_journal.specs.Records.{Entry}
use Rattle.oai_durable.specs.Records.{Leaving, redone_all}

-- an exchange: what was asked at which moment, its answer, and its own record, if there is one
pub record Exchanged : Type 0 where
  pub moment : ℤ
  pub asked : Asked
  pub answer : Answer
  pub own : List Entry

-- it has its place after these records: an answer without a fault is what they make of the request, and with its own
-- record they leave the state after it
pub record HasPlace {K : Type 0} (leaving : Leaving K) (reply : K → Call → Answer) (begun : K) (before : List Entry) (e : Exchanged) : Type 0 where
  pub told : e.answer.fault ≡ None → e.answer ≡ reply (redone_all leaving begun before) (call_at e.moment e.asked)
  pub left : e.answer.fault ≡ None → redone_all leaving begun (before ++ e.own) ≡ leaving.redone (redone_all leaving begun before) (call_at e.moment e.asked)

-- exchanges, the first after these records, and each further one after those of the one before it
abbrev pub HavePlaces : {K : Type 0} → Leaving K → (K → Call → Answer) → K → List Entry → List Exchanged → Type 0
HavePlaces leaving reply begun before [] = Unit {0}
HavePlaces leaving reply begun before (e ∷ es) = HasPlace leaving reply begun before e × HavePlaces leaving reply begun (before ++ e.own) es

abbrev pub records_of_exchanges : List Exchanged → List Entry
records_of_exchanges exchanges = flat_map (λ (e : Exchanged). e.own) exchanges

-- a life: the exchanges whose answers were sent, and those after them whose answers were held back
pub record Life : Type 0 where
  pub answered : List Exchanged
  pub held : List Exchanged

-- it begins in the state after the records that it found; and it leaves all of these, then those of the exchanges whose
-- answers were sent, and a prefix of the others
pub record IsLife {K : Type 0} (leaving : Leaving K) (reply : K → Call → Answer) (begun : K) (found : List Entry) (life : Life) (left : List Entry) : Type 0 where
  pub places : HavePlaces leaving reply begun found (life.answered ++ life.held)
  pub leaves : IsLeft (length (found ++ records_of_exchanges life.answered)) (found ++ records_of_exchanges (life.answered ++ life.held)) left

-- lives, each of which finds the records that the one before it left
abbrev pub AreLives : {K : Type 0} → Leaving K → (K → Call → Answer) → K → List Entry → List Life → List Entry → Type 0
AreLives leaving reply begun found [] left = left ≡ found
AreLives leaving reply begun found (life ∷ lives) left =
    (between : List Entry) × IsLife leaving reply begun found life between × AreLives leaving reply begun between lives left

-- the exchanges whose answers were sent, over all lives
abbrev pub answered_in : List Life → List Exchanged
answered_in lives = flat_map (λ (life : Life). life.answered) lives

-- these exchanges have their places among the records, in order: each after all that are before it, and its own record
-- follows. All other records were performed, and their answers held back
abbrev pub AreAmong : {K : Type 0} → Leaving K → (K → Call → Answer) → K → List Entry → List Exchanged → List Entry → Type 0
AreAmong leaving reply begun before [] records = (others : List Entry) × (records ≡ before ++ others)
AreAmong leaving reply begun before (e ∷ es) records =
    (unanswered : List Entry)
    × HasPlace leaving reply begun (before ++ unanswered) e
    × AreAmong leaving reply begun ((before ++ unanswered) ++ e.own) es records
