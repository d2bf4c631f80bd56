-- What an exchange leaves at the repositories of a host, and what of it has to be replayed. This repository's own.
use Rattle.std.specs.Prelude.{◌≡◌, ◌≤◌, ◌⊎◌, ℕ, ℤ, Bool, false, if◌then◌else◌, IfSome, IsTrue, length, List, [], ◌∷◌, map, MatchOption, max, Option, None, Some, Err, Result}
use Rattle.std.specs.List.{list_any}
use Rattle.std.specs.Str.{bytes_eq}
use Rattle.oai_item.specs.declared.faults.Fault.{Fault}
use Rattle.oai_item.specs.declared.faults.Fault.TheVariants.{Damaged, Device}
use Rattle.oai_catalogue.specs.Store.{IsHonest}
use Rattle.oai_device.specs.Device.{CountsFailures}
use Rattle.oai_settings.specs.Config.{RepositoryConfig}
use Rattle.oai_repo.specs.State.{RepoState}
use Rattle.oai_repo.specs.declared.responses.Replay.{Replay}
use Rattle.oai_repo.specs.declared.responses.Replay.TheVariants.{Nothing, Tick, Request}
use Rattle.oai_http.specs.Exchanges.{call_of}
use Rattle.oai_replay.specs.Redone.{call_again, is_short_name, left_again, own_call}
use Rattle.oai_http.specs.Targets.{leads_to_repository}
use Rattle.oai_http.specs.declared.exchanges.Answer.{Answer}
use Rattle.oai_http.specs.declared.exchanges.Call.{Call}
use Rattle.oai_http.specs.declared.exchanges.Exchange.{Exchange}
use Rattle.oai_replay.specs.declared.replays.Performed.{Performed}
use Rattle.oai_http.specs.declared.targets.Endpoint.{Endpoint}
use Rattle.oai_http.specs.declared.targets.Endpoint.TheVariants.{Deposits, Requests}
use Rattle.oai_host.specs.Alone.{done_alone, exchanged_alone}
use Rattle.oai_host.specs.Answers.{failure_in}
use Rattle.oai_host.specs.Bodies.{lines_in}
use Rattle.oai_host.specs.Hosts.{AreSteps, HostState, IsExchanged, Repository, refused}
use Rattle.oai_host.specs.Performed.{StoreState}
use Rattle.oai_host.specs.Tasks.{Task, asking, depositing}

-- ---- the state after a call, and its answer

-- its own repository does what it alone would do, and any other nothing
abbrev pub redone_at : Call → Repository → Repository
redone_at call repository =
    if leads_to_repository repository.name call.target then record repository { state = (exchanged_alone repository.config repository.state call).1 }
    else repository

abbrev pub redone_repositories : List Repository → Call → List Repository
redone_repositories repositories call = map (redone_at call) repositories

-- its own repository answers what it alone would answer; a call that is none's is refused
abbrev pub reply_all : List Repository → Call → Answer
reply_all [] call = refused call
reply_all (repository ∷ repositories) call =
    if leads_to_repository repository.name call.target then (exchanged_alone repository.config repository.state call).0
    else reply_all repositories call

-- ---- the replay at one repository

-- a request with these arguments, or a deposit of these lines
abbrev pub task_again : Endpoint → List ℕ → Task
task_again Requests arguments = asking arguments
task_again Deposits lines = depositing (lines_in lines)

-- the state after is what the replay makes of the state before; or nothing has to be replayed, since it is the state
-- before
abbrev pub IsLeftBy : RepositoryConfig → ℤ → Endpoint → Option (List ℕ) → RepoState → RepoState → Type 0
IsLeftBy config moment endpoint None before after = after ≡ before
IsLeftBy config moment endpoint (Some bytes) before after = after ≡ (done_alone config before moment (task_again endpoint bytes)).1

-- as much of the arguments of a request as replays it
abbrev pub arguments_to_replay : Replay → List ℕ → Option (List ℕ)
arguments_to_replay Nothing arguments = None
arguments_to_replay Tick arguments = Some []
arguments_to_replay Request arguments = Some arguments

-- the body, if it has any of these lines
abbrev pub if_any : List (List ℕ) → List ℕ → Option (List ℕ)
if_any [] body = None
if_any (line ∷ lines) body = Some body

-- the lines of a deposit that were performed, if any were; blank ones are none
abbrev pub lines_to_replay : List ℕ → Option (List ℕ)
lines_to_replay body = if_any (lines_in body) body

-- they are no longer
abbrev pub AreNoLonger : List ℕ → Option (List ℕ) → Type 0
AreNoLonger bytes others = IfSome others (λ (its : List ℕ). length its ≤ length bytes)

-- they are no longer than the target or the body of the exchange
abbrev pub IsNoLonger : Exchange → Option (List ℕ) → Type 0
IsNoLonger exchange bytes = IfSome bytes (λ (its : List ℕ). length its ≤ max (length exchange.target) (length exchange.body.now))

-- ---- at a host

-- the repository with that name was left so, and the others unchanged
abbrev pub AreLeftBy : ℤ → Endpoint → List ℕ → Option (List ℕ) → List Repository → List Repository → Type 0
AreLeftBy moment endpoint name None before after = after ≡ before
AreLeftBy moment endpoint name (Some bytes) before after = after ≡ redone_repositories before (own_call moment endpoint name bytes)

-- these bytes were performed at the repository with that name; or nothing was
abbrev pub IsPerformedAt : Endpoint → List ℕ → Option (List ℕ) → Option Performed → Type 0
IsPerformedAt endpoint name bytes performed =
    MatchOption performed (bytes ≡ None) (λ (p : Performed). (p.endpoint ≡ endpoint) × (p.name.now ≡ name) × (bytes ≡ Some p.bytes.now))

-- an exchange has that answer, and this is what of it has to be replayed
pub record IsRecorded (moment : ℤ) (exchange : Exchange) (answer : Answer) (performed : Option Performed) (before after : HostState) : Type 0 where
  pub exchanged : IsExchanged (call_of moment exchange) answer before after
  pub left : IsTrue before.honest → after.repositories ≡ left_again redone_repositories before.repositories moment performed
  pub name : IfSome performed (λ (p : Performed). IsTrue (is_short_name p.name.now))
  pub size : IfSome performed (λ (p : Performed). length p.bytes.now ≤ max (length exchange.target) (length exchange.body.now))

-- a call was replayed at each, and its answer dropped except for its fault, which has its cause
abbrev pub AreRedone : Call → Result (Unit {0}) Fault → StoreState → StoreState → List Repository → List Repository → Type 0
AreRedone call result old new before after =
    (answer : Answer)
    × (result ≡ failure_in answer)
    × AreSteps call answer old new before after
    × CountsFailures Device (failure_in answer) old.failures new.failures
    × IsHonest (failure_in answer) old.honest new.honest

-- a repository has that name
abbrev pub has_name : List Repository → List ℕ → Bool
has_name repositories name = list_any (λ (repository : Repository). bytes_eq repository.name name) repositories

-- what was performed was replayed, and its answer dropped except for its fault; or no repository has its name, and
-- nothing was done
abbrev pub IsRedone : ℤ → Performed → Result (Unit {0}) Fault → HostState → HostState → Type 0
IsRedone moment performed result before after =
    ((answer : Answer) × (result ≡ failure_in answer) × IsExchanged (call_again moment performed) answer before after)
    ⊎ ((has_name before.repositories performed.name.now ≡ false) × (result ≡ Err Damaged) × (after ≡ before))
