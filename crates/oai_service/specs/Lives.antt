-- Lives of a server, one after the other: each as its service was, over what the one before it left, or over a
-- checkpoint of it. A life is one run of the server. This repository's own.
use Rattle.std.specs.Prelude.{◌≡◌, ℕ, List, [], ◌∷◌, Option, None, Some, Result, Ok, Err}
use Rattle.oai_front.specs.Performing.{Steps}
use Rattle.oai_front.specs.Runs.{Served}
use Rattle.oai_journal.specs.Records.{Entry}
use Rattle.oai_serving.specs.Accepted.{Known}
use Rattle.oai_serving.specs.Rounds.{EndsService, IsService, Settles, World}
use Rattle.oai_serving.specs.declared.faults.ServeFault.{ServeFault}
use Rattle.oai_keys.specs.Guards.{Guards}
use Rattle.oai_keys.specs.declared.rings.Ring.{Ring}
use Rattle.oai_daemon.specs.Watches.{Watches}
use Rattle.oai_durable.specs.Checkpoints.{IsCheckpoint, Saving}
use Rattle.oai_durable.specs.Records.{redone_all}
use Rattle.oai_service.specs.Keeping.{AreSound, IsSoundEnd, Keeping}

-- a life: the records that it found; the keys under which it was served; the streams that were accepted, and let go,
-- before it and by its end, if they are known; the world in which it began; the messages that were served in each round
-- that settled, and after the last of these; how its service ended, in which world; and the records that the journal
-- had when the next life began
pub record ServerLife (S X : Type 0) : Type 0 where
  pub found : List Entry
  pub rings : List Ring
  pub known : Known S
  pub later : Known S
  pub old : World S X
  pub rounds : List (List Served)
  pub behind : List Served
  pub result : Result (Unit {0}) ServeFault
  pub new : World S X
  pub left : List Entry

-- the messages that were served after the last round that settled
abbrev pub served_behind : {X : Type 0} (step : Steps X) (settled : Settles X) (mid : X) (result : Result (Unit {0}) ServeFault) (new : X) → EndsService step settled mid result new → List Served
served_behind step settled mid (Ok done) new ends = []
served_behind step settled mid (Err fault) new ends = ends.served

-- it began with no connection, and with all records that it found replayed; it was a service under its keys, of these
-- rounds, each of whose settlings read what the disk has; and a crash at its end may leave what it left
pub record IsServerLife {S X K : Type 0} (keeping : Keeping X K) (contents remaining : S → Option (List ℕ)) (begun : K) (life : ServerLife S X) : Type 0 where
  pub begins : keeping.begins begun life.old.handler life.found
  pub unlinked : life.old.links.slots ≡ []
  pub none : life.old.last ≡ 0
  pub serves : IsService (Watches (Guards life.rings keeping.step)) keeping.settled contents remaining life.known life.later life.old life.result life.new
  pub rounds : serves.rounds ≡ life.rounds
  pub behind : served_behind (Watches (Guards life.rings keeping.step)) keeping.settled serves.mid life.result life.new.handler serves.ends ≡ life.behind
  pub sound : AreSound keeping (Watches (Guards life.rings keeping.step)) serves.rounds life.old.handler serves.mid serves.settles
  pub sound_end : IsSoundEnd keeping (Watches (Guards life.rings keeping.step)) serves.mid life.result life.new.handler serves.ends
  pub leaves : keeping.may_leave life.new.handler life.left

-- lives, the first with those records, and each other one with those that the one before it left
abbrev pub AreServerLives : {S X K : Type 0} → Keeping X K → (S → Option (List ℕ)) → (S → Option (List ℕ)) → K → List Entry → List (ServerLife S X) → List Entry → Type 0
AreServerLives keeping contents remaining begun found [] left = left ≡ found
AreServerLives keeping contents remaining begun found (life ∷ lives) left =
    (life.found ≡ found)
    × IsServerLife keeping contents remaining begun life
    × AreServerLives keeping contents remaining begun life.left lives left

-- an era, what lies between two checkpoints: by how much the numbers of the next lists were raised at its begin, its
-- records then, its lives, and the records that the last of them left
pub record ServerEra (S X : Type 0) : Type 0 where
  pub raise : ℕ
  pub found : List Entry
  pub lives : List (ServerLife S X)
  pub left : List Entry

-- the first era begins with no record, and each other one with a checkpoint of what the records before it leave
abbrev pub BeginsEra : {S X K : Type 0} → Saving K → K → Option (List Entry) → ServerEra S X → Type 0
BeginsEra s begun None era = (era.found ≡ []) × (era.raise ≡ 0)
BeginsEra s begun (Some before) era = IsCheckpoint s (redone_all s.leaving begun before) era.raise era.found

-- eras, after those records, if there are any
abbrev pub AreServerEras : {S X K : Type 0} → Keeping X K → Saving K → (S → Option (List ℕ)) → (S → Option (List ℕ)) → K → Option (List Entry) → List (ServerEra S X) → Type 0
AreServerEras keeping s contents remaining begun before [] = Unit {0}
AreServerEras keeping s contents remaining begun before (era ∷ eras) =
    BeginsEra s begun before era
    × AreServerLives keeping contents remaining begun era.found era.lives era.left
    × AreServerEras keeping s contents remaining begun (Some era.left) eras
