-- The theorem of a server over all its lives, in one definition. OAI-PMH 2.0, sections 2.7, 3.1.2.2 and 3.5;
-- connections, deposits, lives, and many repositories behind one interface are this repository's own.
use Rattle.std.specs.Prelude.{◌≡◌, ℕ, IsTrue, List, [], ◌∷◌, ◌++◌, map, Option}
use Rattle.std.specs.List.{AllByRecursion, AllZip, flat_map}
use Rattle.oai_journal.specs.Records.{Entry}
use Rattle.oai_serving.specs.Accepted.{Passes}
use Rattle.oai_serving.specs.Rounds.{served_in}
use Rattle.oai_serving.specs.Tables.{AreAllAnswered}
use Rattle.oai_config.specs.Configs.{HostConfig, NamedConfig}
use Rattle.oai_host.specs.Alone.{own_answers, own_calls}
use Rattle.oai_host.specs.Hosts.{Repository, begun}
use Rattle.oai_host.specs.Performed.{StoreState}
use Rattle.oai_host.specs.Saved.{ended_in}
use Rattle.oai_durable.specs.Records.{redone_all}
use Rattle.oai_durable.specs.Served.{AreThose}
use Rattle.oai_headline.specs.Eras.{AreTrueOver, FollowListsOver, MissNothingOver, VisitedEra}
use Rattle.oai_service.specs.Hosting.{leaving}
use Rattle.oai_service.specs.Keeping.{Keeping}
use Rattle.oai_service.specs.Lives.{ServerEra, ServerLife}
use Rattle.oai_service.specs.Turns.{AreTurns, IsKeyed, IsWatched, Turn, answers_in, calls_in, its, turn_records}

-- what of a life is in the journal: the turns whose answers were sent, and those after them whose answers were held
-- back, and whose records are there
pub record LoggedTurns : Type 0 where
  pub answered : List Turn
  pub held : List Turn

abbrev pub turns_of : LoggedTurns → List Turn
turns_of told = told.answered ++ told.held

-- of all lives
abbrev pub all_turns : List LoggedTurns → List Turn
all_turns told = flat_map turns_of told

-- of the life: its answered turns are the messages that were served in its rounds that settled, in order; its held ones
-- are a prefix of those that were served after them; all of these are as its keys say, and those for figures are
-- answered with them alone; and each client that was accepted, whether its connection is open at its end or was let go, received a prefix of the answers to those of the
-- former that it sent, in order
pub record IsReceivedIn {S X : Type 0} (contents remaining : S → Option (List ℕ)) (life : ServerLife S X) (told : LoggedTurns) : Type 0 where
  pub those : AreThose (map its told.answered) (served_in life.rounds)
  pub lost : List Turn
  pub held : AreThose (map its (told.held ++ lost)) life.behind
  pub keyed : AllByRecursion (IsKeyed life.rings) (told.answered ++ (told.held ++ lost))
  pub watched : AllByRecursion IsWatched (told.answered ++ (told.held ++ lost))
  pub streams : List S
  pub gone : List (ℕ × S)
  pub passes : Passes life.known life.later streams gone
  pub clients : AreAllAnswered contents remaining streams gone (served_in life.rounds) life.new.links

-- the life is over a store that returns what was written to it
abbrev pub IsOverHonest : {S X : Type 0} → (X → StoreState) → ServerLife S X → Type 0
IsOverHonest store life = IsTrue (store life.old.handler).honest

-- the turns of the life, and others after them whose records are lost, over its store, from the begin to the end: so
-- each begins in the state that the replay of the records before it leaves, and its own record leaves what it did; and
-- a fault of the device or of its room has its cause in this life
pub record AreRecorded {S X : Type 0} (changes : StoreState → StoreState → Type 0) (store : X → StoreState) (begun : List Repository) (life : ServerLife S X) (told : LoggedTurns) : Type 0 where
  pub lost : List Turn
  pub turned : AreTurns changes begun life.found (store life.old.handler) (turns_of told ++ lost) (store life.new.handler)

-- if the store is honest
abbrev pub IsRecordedIn : {S X : Type 0} → (StoreState → StoreState → Type 0) → (X → StoreState) → List Repository → ServerLife S X → LoggedTurns → Type 0
IsRecordedIn changes store begun life told = IsOverHonest store life → AreRecorded changes store begun life told

-- what each life finds stands for the records of the turns of all lives before it, and what the last one leaves for
-- these and its own
abbrev pub AreResumed : {S X : Type 0} → (List Entry → List Entry → Type 0) → List Entry → List (ServerLife S X) → List LoggedTurns → List Entry → Type 0
AreResumed stands before [] [] left = stands left before
AreResumed stands before [] (t ∷ told) left = ⊥
AreResumed stands before (life ∷ lives) [] left = ⊥
AreResumed stands before (life ∷ lives) (t ∷ told) left = stands life.found before × AreResumed stands (before ++ turn_records (turns_of t)) lives told left

-- ---- eras

-- as a repository has them: by how much the number of its next list was raised, and what was performed
abbrev pub eras_told : {S X : Type 0} → List (ServerEra S X) → List (List LoggedTurns) → List VisitedEra
eras_told [] told = []
eras_told (era ∷ eras) [] = []
eras_told (era ∷ eras) (t ∷ told) = record { raise = era.raise; calls = calls_in (all_turns t); answers = answers_in (all_turns t) } ∷ eras_told eras told

-- what of them is the repository's own
abbrev pub own_era : List ℕ → VisitedEra → VisitedEra
own_era name era = record { raise = era.raise; calls = own_calls name era.calls; answers = own_answers name era.calls era.answers }

abbrev pub own_eras : List ℕ → List VisitedEra → List VisitedEra
own_eras name eras = map (own_era name) eras

-- each era begins with what was before it, after all lists ended and the number of each next one was raised
abbrev pub AreEndedBetween : {S X : Type 0} → List Repository → List Repository → List (ServerEra S X) → Type 0
AreEndedBetween begun before [] = Unit {0}
AreEndedBetween begun before (era ∷ eras) =
    (redone_all leaving begun era.found ≡ ended_in era.raise before) × AreEndedBetween begun (redone_all leaving begun era.left) eras

-- what the last of them leaves
abbrev pub eras_left : {S X : Type 0} → List Repository → List Repository → List (ServerEra S X) → List Repository
eras_left begun before [] = before
eras_left begun before (era ∷ eras) = eras_left begun (redone_all leaving begun era.left) eras

-- ---- the theorem

-- every life is over a store that returns what was written to it
abbrev pub AreOverHonest : {S X : Type 0} → (X → StoreState) → List (ServerEra S X) → Type 0
AreOverHonest {S} {X} store eras = AllByRecursion (λ (era : ServerEra S X). AllByRecursion (IsOverHonest store) era.lives) eras

-- the eras are one history, written as turns. Over whatever stores: `received`: each client that was accepted was sent
-- a prefix of the answers to the messages that it sent. `kept`: in an era each life begins with the records of all
-- turns before it, those of the answers that were sent among them, or with what stands for them. `ended`: each era
-- begins with all that was kept before it except the open lists, and may raise the number of the next list. `recorded`:
-- in a life over an honest store a turn did what the replay of its own record does, after the records before it. If all
-- stores are honest: `answered`: at each repository each answer without a fault is the machine's after what was
-- performed before it, in whichever life, and after the checkpoints, and one with a fault did what its number of lines
-- says, or nothing. `followed`: if visits without a fault follow a list by its unexpired tokens within an era, their
-- pages, joined, are the records selected at the first of them; a token of an earlier era is refused, and no number of
-- a list is given twice, in whichever eras. `harvested`: harvests miss nothing, in whichever eras they are made
pub record IsServed {S X : Type 0} (keeping : Keeping X (List Repository)) (store : X → StoreState) (config : HostConfig) (contents remaining : S → Option (List ℕ)) (eras : List (ServerEra S X)) : Type 0 where
  pub told : List (List LoggedTurns)
  pub received : AllZip (λ (era : ServerEra S X) (t : List LoggedTurns). AllZip (IsReceivedIn contents remaining) era.lives t) eras told
  pub kept : AllZip (λ (era : ServerEra S X) (t : List LoggedTurns). AreResumed (keeping.stands (map begun config.repositories)) era.found era.lives t era.left) eras told
  pub ended : AreEndedBetween (map begun config.repositories) (map begun config.repositories) eras
  pub recorded : AllZip (λ (era : ServerEra S X) (t : List LoggedTurns). AllZip (IsRecordedIn keeping.changes store (map begun config.repositories)) era.lives t) eras told
  pub answered : AreOverHonest store eras
      → AllZip (λ (entry : NamedConfig) (repository : Repository). AreTrueOver entry.config (own_eras entry.name (eras_told eras told)) repository.state)
      config.repositories (eras_left (map begun config.repositories) (map begun config.repositories) eras)
  pub followed : AreOverHonest store eras → AllByRecursion (λ (entry : NamedConfig). FollowListsOver entry.config (own_eras entry.name (eras_told eras told))) config.repositories
  pub harvested : AreOverHonest store eras → AllByRecursion (λ (entry : NamedConfig). MissNothingOver entry.config (own_eras entry.name (eras_told eras told))) config.repositories
