-- A server's handler that keeps what it performs: what the theorem of a server is stated over. This repository's own.
use Rattle.std.specs.Prelude.{◌≡◌, List, [], ◌∷◌, length, Result, Ok, Err}
use Rattle.oai_http.specs.declared.handlers.SettleFault.{SettleFault}
use Rattle.oai_front.specs.Performing.{Steps}
use Rattle.oai_front.specs.Runs.{Served}
use Rattle.oai_host.specs.Performed.{StoreState}
use Rattle.oai_journal.specs.Records.{Entry}
use Rattle.oai_journal.specs.declared.journals.Journal as journal
use Rattle.oai_serving.specs.Rounds.{AreSettled, EndsService, IsRoundSettled, Settles}
use Rattle.oai_serving.specs.declared.faults.ServeFault.{ServeFault}
use Rattle.oai_serving.specs.declared.faults.ServeFault.TheVariants.{Clock, Unsettled, Wait}
use Rattle.oai_durable.specs.Journaled.{IsExchange, IsHeld, IsSettled, Parts, Replaying}

-- a handler in states X, which logs what it performs, so that the replay of its records gives a state of K: what an
-- exchange does, and settling; whether what a settling read was what the disk has; that it begins with these records,
-- all of them replayed and durable; what a crash may leave of its records; that the records of a file stand for others;
-- and how the state of its store may change between two messages
pub record Keeping (X K : Type 0) : Type 1 where
  pub step : Steps X
  pub settled : Settles X
  pub sound : (before : X) (result : Result (Unit {0}) SettleFault) (after : X) → settled before result after → Type 0
  pub begins : K → X → List Entry → Type 0
  pub may_leave : X → List Entry → Type 0
  pub stands : K → List Entry → List Entry → Type 0
  pub changes : StoreState → StoreState → Type 0

-- the store stays as it is
abbrev pub stays : StoreState → StoreState → Type 0
stays old new = new ≡ old

-- a journaled handler: settling reads nothing, its file has its own records, and only messages change its store
abbrev pub journaling : {H J : Type 0} → (h : Replaying H) → journal.Ghosts J → Keeping (Parts H J) h.Kept
journaling h j = record {
  step = IsExchange h j;
  settled = IsSettled j;
  sound = λ before result after is. Unit {0};
  begins = λ begun parts found. IsHeld h j begun parts found (length found);
  may_leave = λ parts left. j.may_leave parts.journal left;
  stands = λ begun file entries. file ≡ entries;
  changes = stays;
}

-- ---- the settlings of a service

-- each round's was right
abbrev pub AreSound : {X K : Type 0} (keeping : Keeping X K) (step : Steps X) (rounds : List (List Served)) (old new : X) → AreSettled step keeping.settled rounds old new → Type 0
AreSound keeping step [] old new settles = Unit {0}
AreSound keeping step (served ∷ rounds) old new settles =
    keeping.sound settles.1.0 (Ok tt) settles.0 settles.1.2 × AreSound keeping step rounds settles.0 new settles.2

-- and so was the one that ended it, if one did
abbrev pub IsSoundRound : {X K : Type 0} (keeping : Keeping X K) (performed : X) (fault : ServeFault) (new : X) → IsRoundSettled keeping.settled performed (Err fault) new → Type 0
IsSoundRound keeping performed Unsettled new settles = keeping.sound performed (Err settles.0) new settles.1
IsSoundRound keeping performed Wait new settles = Unit {0}
IsSoundRound keeping performed Clock new settles = Unit {0}

abbrev pub IsSoundEnd : {X K : Type 0} (keeping : Keeping X K) (step : Steps X) (mid : X) (result : Result (Unit {0}) ServeFault) (new : X) → EndsService step keeping.settled mid result new → Type 0
IsSoundEnd keeping step mid (Ok done) new ends = Unit {0}
IsSoundEnd keeping step mid (Err fault) new ends = IsSoundRound keeping ends.performed fault new ends.settles
