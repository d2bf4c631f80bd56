-- Many repositories, and what exchanges with their host do to each. This repository's own.
use Rattle.std.specs.Prelude.{◌≡◌, ◌≤◌, ℕ, ℤ, Bool, true, false, not, is_none, if◌then◌else◌, List, [], ◌∷◌}
use Rattle.std.specs.List.{AllByRecursion, AllZip, list_all}
use Rattle.oai_catalogue.specs.Store.{IsHonest}
use Rattle.oai_device.specs.Device.{CountsFailures}
use Rattle.oai_item.specs.declared.faults.Fault.TheVariants.{Device}
use Rattle.oai_settings.specs.Config.{RepositoryConfig}
use Rattle.oai_repo.specs.Saved.{SavedPartState}
use Rattle.oai_repo.specs.State.{RepoState, empty_state}
use Rattle.oai_http.specs.Answers.{answered}
use Rattle.oai_config.specs.Configs.{NamedConfig}
use Rattle.oai_http.specs.Targets.{is_rooted, leads_to_repository}
use Rattle.oai_http.specs.declared.exchanges.Answer.{Answer}
use Rattle.oai_http.specs.declared.exchanges.Call.{Call}
use Rattle.oai_http.specs.declared.statuses.Status.TheVariants as status
use Rattle.oai_host.specs.Alone.{answers_alone, own_answers, own_calls}
use Rattle.oai_host.specs.Answers.{failure_in}
use Rattle.oai_host.specs.Performed.{IsPerformed, StoreState}
use Rattle.oai_host.specs.Tasks.{task_of}

-- a repository of a host: its name, its configuration and its state
pub record Repository : Type 0 where
  pub name : List ℕ
  pub config : RepositoryConfig
  pub state : RepoState

-- in its initial state
abbrev pub begun : NamedConfig → Repository
begun entry = record { name = entry.name; config = entry.config; state = empty_state entry.config }

-- a part of the repository of that name, whose clock is this
pub record NamedPart : Type 0 where
  pub name : List ℕ
  pub clock : ℤ
  pub part : SavedPartState

-- a host: its repositories, whether the device of its store returns what was written to it, how often that has failed,
-- how many calls of the store are sure to find room, and what is left to save of the checkpoint that is written
pub record HostState : Type 0 where
  pub repositories : List Repository
  pub honest : Bool
  pub failures : ℕ
  pub room : ℕ
  pub unsaved : List NamedPart

-- the state of its store
abbrev pub store_of : HostState → StoreState
store_of host = record { honest = host.honest; failures = host.failures; room = host.room }

-- ---- one exchange

-- what an exchange does to a repository, from one state of the store to the other: its own repository performs it; any
-- other is unchanged
pub record IsStep (call : Call) (answer : Answer) (old new : StoreState) (before after : Repository) : Type 0 where
  pub name : after.name ≡ before.name
  pub config : after.config ≡ before.config
  pub own : leads_to_repository before.name call.target ≡ true
      → IsPerformed before.config call.moment (task_of call) answer before.state old after.state new
  pub other : leads_to_repository before.name call.target ≡ false → after.state ≡ before.state

-- to each of them
abbrev pub AreSteps : Call → Answer → StoreState → StoreState → List Repository → List Repository → Type 0
AreSteps call answer old new before after = AllZip (IsStep call answer old new) before after

-- the exchange is no repository's
abbrev pub is_of_none : List Repository → Call → Bool
is_of_none repositories call = list_all (λ (repository : Repository). not (leads_to_repository repository.name call.target)) repositories

-- the answer to such an exchange
abbrev pub refused : Call → Answer
refused call = answered (if is_rooted call.target then status.NotFound else status.BadRequest)

-- an exchange with the host: it is a step of each repository; one that is no repository's is refused, and leaves the
-- host unchanged; what is left to save stays; and a fault has its cause
pub record IsExchanged (call : Call) (answer : Answer) (before after : HostState) : Type 0 where
  pub each : AreSteps call answer (store_of before) (store_of after) before.repositories after.repositories
  pub none : is_of_none before.repositories call ≡ true → (answer ≡ refused call) × (after ≡ before)
  pub unsaved : after.unsaved ≡ before.unsaved
  pub device : CountsFailures Device (failure_in answer) before.failures after.failures
  pub honesty : IsHonest (failure_in answer) before.honest after.honest

-- ---- exchanges one after the other

-- each with its answer
abbrev pub AreExchanged : List Call → List Answer → HostState → HostState → Type 0
AreExchanged [] [] before after = after ≡ before
AreExchanged [] (answer ∷ answers) before after = ⊥
AreExchanged (call ∷ calls) [] before after = ⊥
AreExchanged (call ∷ calls) (answer ∷ answers) before after =
    (between : HostState) × IsExchanged call answer before between × AreExchanged calls answers between after

-- between the exchanges of a repository others may use the store: the honesty of its device is unchanged, and it may
-- have failed more often
pub record IsLater (old new : StoreState) : Type 0 where
  pub honesty : new.honest ≡ old.honest
  pub count : old.failures ≤ new.failures

-- exchanges of one repository, each performed
abbrev pub IsRun : RepositoryConfig → List Call → List Answer → RepoState → StoreState → RepoState → StoreState → Type 0
IsRun config [] [] before old after new = (after ≡ before) × IsLater old new
IsRun config [] (answer ∷ answers) before old after new = ⊥
IsRun config (call ∷ calls) [] before old after new = ⊥
IsRun config (call ∷ calls) (answer ∷ answers) before old after new =
    (first : StoreState)
    × (between : RepoState)
    × (next : StoreState)
    × IsLater old first
    × IsPerformed config call.moment (task_of call) answer before first between next
    × IsRun config calls answers between next after new

-- what exchanges do to a repository: its own do what they would do if there were no others, and the others nothing
pub record IsOwnRun (calls : List Call) (answers : List Answer) (old new : StoreState) (before after : Repository) : Type 0 where
  pub name : after.name ≡ before.name
  pub config : after.config ≡ before.config
  pub run : IsRun before.config (own_calls before.name calls) (own_answers before.name calls answers) before.state old after.state new

-- each exchange that is no repository's is refused
abbrev pub AreRefused : List Repository → List Call → List Answer → Type 0
AreRefused repositories calls answers = AllZip (λ (call : Call) (answer : Answer). is_of_none repositories call ≡ true → answer ≡ refused call) calls answers

-- exchanges with the host, each with its answer
pub record AreAnswered (calls : List Call) (answers : List Answer) (before after : HostState) : Type 0 where
  pub each : AllZip (IsOwnRun calls answers (store_of before) (store_of after)) before.repositories after.repositories
  pub none : AreRefused before.repositories calls answers

-- ---- without failures

-- no exchange failed
abbrev pub none_failed : List Answer → Bool
none_failed answers = list_all (λ (answer : Answer). is_none answer.fault) answers

-- the answers at the repository are those that it alone would give to its own exchanges
abbrev pub IsAsAlone : List Call → List Answer → Repository → Type 0
IsAsAlone calls answers repository =
    own_answers repository.name calls answers ≡ answers_alone repository.config repository.state (own_calls repository.name calls)

-- the same, if none of its own exchanges failed
abbrev pub IsAloneUnlessFailed : List Call → List Answer → Repository → Type 0
IsAloneUnlessFailed calls answers repository = none_failed (own_answers repository.name calls answers) ≡ true → IsAsAlone calls answers repository

-- at each of them
abbrev pub AreAloneUnlessFailed : List Call → List Answer → List Repository → Type 0
AreAloneUnlessFailed calls answers repositories = AllByRecursion (IsAloneUnlessFailed calls answers) repositories
