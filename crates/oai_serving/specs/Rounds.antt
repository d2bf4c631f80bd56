-- A server: what a round does, and many of them. This repository's own.
use Rattle.std.specs.Prelude.{◌≡◌, ◌≤◌, ◌⊎◌, ℕ, ◌+◌, List, [], ◌∷◌, ◌++◌, length, Option, None, Some, Result, Ok, Err, IfOk}
use Rattle.std.specs.List.{flat_map}
use Rattle.slab.specs.Slab.{SameValues, Slab, Updates, get}
use Rattle.oai_http.specs.declared.handlers.SettleFault.{SettleFault}
use Rattle.oai_front.specs.Performing.{Chain, Steps}
use Rattle.oai_front.specs.Runs.{Served, Serves}
use Rattle.oai_serving.specs.Accepted.{Known, Passes}
use Rattle.oai_serving.specs.Links.{Link}
use Rattle.oai_serving.specs.Tables.{AreAllAnswered, AreAllKept, AreLinksDropped, AreSent}
use Rattle.oai_serving.specs.declared.faults.ServeFault.{ServeFault}
use Rattle.oai_serving.specs.declared.faults.ServeFault.TheVariants.{Wait, Clock, Unsettled}

-- the handler, the links, and how many streams were accepted
pub record World (S H : Type 0) : Type 0 where
  pub handler : H
  pub links : Slab (Link S)
  pub last : ℕ

-- ---- steps of a round

-- links were written
pub record AreLinksWritten {S H : Type 0} (contents remaining : S → Option (List ℕ)) (old new : World S H) : Type 0 where
  pub handler : new.handler ≡ old.handler
  pub last : new.last ≡ old.last
  pub links : AreSent contents remaining old.links new.links

-- links were removed, and the stream of each was let go with its number
pub record AreLinksEnded {S H : Type 0} (contents remaining : S → Option (List ℕ)) (known later : Known S) (old new : World S H) : Type 0 where
  pub handler : new.handler ≡ old.handler
  pub last : new.last ≡ old.last
  pub links : AreLinksDropped contents remaining known later old.links new.links

-- streams were accepted, each with the next number, and links begin with them, or they were let go
pub record AreAccepted {S H : Type 0} (contents remaining : S → Option (List ℕ)) (known later : Known S) (old new : World S H) : Type 0 where
  pub streams : List S
  pub parted : List (ℕ × S)
  pub passes : Passes known later streams parted
  pub handler : new.handler ≡ old.handler
  pub last : new.last ≡ old.last + length streams
  pub kept : (accepted : List S) (gone : List (ℕ × S)) (served : List Served) → old.last ≡ length accepted → AreAllKept contents remaining accepted gone served old.links
      → AreAllKept contents remaining (accepted ++ streams) (gone ++ parted) served new.links

-- that link was stored under a key that had none; no other changes
abbrev pub HasOneMore : {S : Type 0} → Link S → Slab (Link S) → Slab (Link S) → Type 0
HasOneMore link old new = (key : ℕ) × (get old key ≡ None) × Updates old new key (Some link)

-- that link was stored under a key that had none; or its stream was let go with its number, and no link changes
abbrev pub IsStoredOrDropped : {S : Type 0} → Known S → Known S → Link S → Slab (Link S) → Slab (Link S) → Type 0
IsStoredOrDropped known later link old new =
    (Passes known later [] [] × HasOneMore link old new) ⊎ (Passes known later [] ((link.connection.number, link.stream) ∷ []) × SameValues old new)

-- the stream was accepted with the next number, and a link begins with it, or it was let go with that number
pub record IsAdmitted {S H : Type 0} (contents remaining : S → Option (List ℕ)) (known later : Known S) (stream : S) (old new : World S H) : Type 0 where
  pub parted : List (ℕ × S)
  pub passes : Passes known later [] parted
  pub handler : new.handler ≡ old.handler
  pub last : new.last ≡ old.last + 1
  pub kept : (accepted : List S) (gone : List (ℕ × S)) (served : List Served) → old.last ≡ length accepted → AreAllKept contents remaining accepted gone served old.links
      → AreAllKept contents remaining (accepted ++ stream ∷ []) (gone ++ parted) served new.links

-- ---- a round

-- the settling of a handler: in that state it may return that, and get to that next state
abbrev pub Settles : Type 0 → Type 1
Settles H = H → Result Unit SettleFault → H → Type 0

-- how a round ends: the handler settled, or did not, or was not called
abbrev pub IsRoundSettled : {H : Type 0} → Settles H → H → Result Unit ServeFault → H → Type 0
IsRoundSettled settled mid (Ok done) new = settled mid (Ok tt) new
IsRoundSettled settled mid (Err Unsettled) new = (cause : SettleFault) × settled mid (Err cause) new
IsRoundSettled settled mid (Err Wait) new = new ≡ mid
IsRoundSettled settled mid (Err Clock) new = new ≡ mid

-- after a round that was Ok the links are the result of all that was served; after another no client has more than the
-- answers to what was served before the round, whether it has a link or was let go
abbrev pub RoundOutcome : {S : Type 0} → (S → Option (List ℕ)) → (S → Option (List ℕ)) → List S → List (ℕ × S) → List Served → List Served → Result Unit ServeFault
    → Slab (Link S) → Type 0
RoundOutcome contents remaining accepted gone earlier served (Ok done) links = AreAllKept contents remaining accepted gone (earlier ++ served) links
RoundOutcome contents remaining accepted gone earlier served (Err fault) links = AreAllAnswered contents remaining accepted gone earlier links

-- links are read, what comes is served, the handler settles, and only then links are written
pub record IsPerformance {S H : Type 0} (step : Steps H) (settled : Settles H) (contents remaining : S → Option (List ℕ)) (old : World S H) (result : Result Unit ServeFault) (new : World S H) : Type 0 where
  pub served : List Served
  pub mid : H
  pub run : Serves step old.handler served mid
  pub settles : IsRoundSettled settled mid result new.handler
  pub last : new.last ≡ old.last
  pub outcome : (accepted : List S) (gone : List (ℕ × S)) (earlier : List Served) → AreAllKept contents remaining accepted gone earlier old.links
      → RoundOutcome contents remaining accepted gone earlier served result new.links

-- a round: links are removed, and their streams let go; streams are accepted, links are read, what comes is served, the
-- handler settles, and only then links are written
pub record IsRound {S H : Type 0} (step : Steps H) (settled : Settles H) (contents remaining : S → Option (List ℕ)) (known later : Known S)
    (old : World S H) (result : Result Unit ServeFault) (new : World S H) : Type 0 where
  pub served : List Served
  pub mid : H
  pub run : Serves step old.handler served mid
  pub settles : IsRoundSettled settled mid result new.handler
  pub streams : List S
  pub parted : List (ℕ × S)
  pub passes : Passes known later streams parted
  pub last : new.last ≡ old.last + length streams
  pub outcome : (accepted : List S) (gone : List (ℕ × S)) (earlier : List Served) → old.last ≡ length accepted → AreAllKept contents remaining accepted gone earlier old.links
      → RoundOutcome contents remaining (accepted ++ streams) (gone ++ parted) earlier served result new.links

-- ---- rounds

-- what was served in rounds, in order
abbrev pub served_in : List (List Served) → List Served
served_in rounds = flat_map (λ (served : List Served). served) rounds

-- in each of the rounds messages were served, and then the handler settled
abbrev pub AreSettled : {H : Type 0} → Steps H → Settles H → List (List Served) → H → H → Type 0
AreSettled {H} step settled rounds old new = Chain (λ served before after. (mid : H) × Serves step before served mid × settled mid (Ok tt) after) rounds old new

-- that many rounds, all of them Ok
pub record AreRounds {S H : Type 0} (step : Steps H) (settled : Settles H) (contents remaining : S → Option (List ℕ)) (count : ℕ) (known later : Known S) (old new : World S H) : Type 0 where
  pub rounds : List (List Served)
  pub many : length rounds ≡ count
  pub settles : AreSettled step settled rounds old.handler new.handler
  pub streams : List S
  pub parted : List (ℕ × S)
  pub passes : Passes known later streams parted
  pub last : new.last ≡ old.last + length streams
  pub kept : (accepted : List S) (gone : List (ℕ × S)) (earlier : List Served) → old.last ≡ length accepted → AreAllKept contents remaining accepted gone earlier old.links
      → AreAllKept contents remaining (accepted ++ streams) (gone ++ parted) (earlier ++ served_in rounds) new.links

-- how it ended: what the last round performed, and whether the handler settled after it
pub record IsEnd {H : Type 0} (step : Steps H) (settled : Settles H) (mid : H) (fault : ServeFault) (new : H) : Type 0 where
  pub served : List Served
  pub performed : H
  pub run : Serves step mid served performed
  pub settles : IsRoundSettled settled performed (Err fault) new

abbrev pub EndsService : {H : Type 0} → Steps H → Settles H → H → Result Unit ServeFault → H → Type 0
EndsService step settled mid (Ok done) new = new ≡ mid
EndsService step settled mid (Err fault) new = IsEnd step settled mid fault new

-- a service: rounds in which the handler settled, 2^64 - 1 of them, or fewer and one that ended it, in which further
-- messages may have been performed. Each stream that was accepted stands under a link, or was let go, and each client
-- has at most a prefix of the answers to those of its messages that were served in the rounds that settled
pub record IsService {S H : Type 0} (step : Steps H) (settled : Settles H) (contents remaining : S → Option (List ℕ)) (known later : Known S) (old : World S H) (result : Result Unit ServeFault) (new : World S H) : Type 0 where
  pub rounds : List (List Served)
  pub many : IfOk result (λ done. 18_446_744_073_709_551_615 ≤ length rounds)
  pub mid : H
  pub settles : AreSettled step settled rounds old.handler mid
  pub ends : EndsService step settled mid result new.handler
  pub streams : List S
  pub parted : List (ℕ × S)
  pub passes : Passes known later streams parted
  pub answered : (accepted : List S) (gone : List (ℕ × S)) (earlier : List Served) → old.last ≡ length accepted → AreAllKept contents remaining accepted gone earlier old.links
      → AreAllAnswered contents remaining (accepted ++ streams) (gone ++ parted) (earlier ++ served_in rounds) new.links
