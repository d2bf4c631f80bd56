-- How a front passes its messages to a host, and what that does to what the host stores. This repository's own.
use Rattle.std.specs.Prelude.{◌≡◌, ◌++◌, ℕ, ℤ, List, Result, IfOk, OnErr, OnOk}
use Rattle.oai_catalogue.specs.Store.{IsHonest, Spends}
use Rattle.oai_catalogue.specs.declared.versions.Versions.{Ghosts}
use Rattle.oai_deposit.specs.declared.changes.Change.{Change}
use Rattle.oai_device.specs.Device.{CountsFailures}
use Rattle.oai_item.specs.declared.faults.Fault.{Fault}
use Rattle.oai_item.specs.declared.faults.Fault.TheVariants as fault
use Rattle.oai_item.specs.declared.refusals.LineRefusal.{LineRefusal}
use Rattle.oai_repo.specs.Fields.{Keeps, RepoFields, state_of}
use Rattle.oai_http.specs.Exchanges.{Asked, call_at}
use Rattle.oai_http.specs.declared.exchanges.Answer.{Answer}
use Rattle.oai_host.specs.Answers.{failure_in}
use Rattle.oai_host.specs.DepositLines.{IsWritableOutcome, outcome_line}
use Rattle.oai_host.specs.Hosts.{HostState, IsExchanged}
use Rattle.oai_host.specs.Performed.{IsLinePerformed, IsPerformed, StoreState}
use Rattle.oai_host.specs.Room.{room_for_line}
use Rattle.oai_host.specs.Tasks.{Task}
use Rattle.oai_host.specs.declared.deposits.LineOutcome.{LineOutcome}

-- what is asked at a moment was exchanged, as a front passes its messages
abbrev pub IsHandled : HostState → ℤ → Asked → Answer → HostState → Type 0
IsHandled before moment asked answer after = IsExchanged (call_at moment asked) answer before after

-- ---- over a store

-- the state of a store that clauses speak of
abbrev pub store_state : {V : Type 0} → Ghosts V → V → StoreState
store_state g store = record { honest = g.honest store; failures = g.failures store; room = g.room store }

-- what an exchange leaves of a store beside its lists: a fault of the device is counted, and the store is as honest
pub record CountsFaults {V : Type 0} (g : Ghosts V) (answer : Answer) (before after : V) : Type 0 where
  pub device : CountsFailures fault.Device (failure_in answer) (g.failures before) (g.failures after)
  pub honesty : IsHonest (failure_in answer) (g.honest before) (g.honest after)

-- a repository in a store performs what is asked, and keeps its invariants
pub record PerformsIn {V : Type 0} (g : Ghosts V) (moment : ℤ) (task : Task) (answer : Answer) (old : RepoFields) (before : V) (new : RepoFields) (after : V) : Type 0 where
  pub performed : IsPerformed old.config moment task answer (state_of old (g.lists before)) (store_state g before) (state_of new (g.lists after)) (store_state g after)
  pub kept : Keeps (g.honest before) old (g.lists before) new (g.lists after)

-- and its answer is dropped except for its fault
abbrev pub RedoesIn : {V : Type 0} → Ghosts V → ℤ → Task → Result (Unit {0}) Fault → RepoFields → V → RepoFields → V → Type 0
RedoesIn g moment task result old before new after = (answer : Answer) × (result ≡ failure_in answer) × PerformsIn g moment task answer old before new after

-- ---- a line of a deposit

-- a repository in a store performs a line, as it was parsed; a fault leaves the repository and all lists unchanged
pub record PerformsLine {V : Type 0} (g : Ghosts V) (moment : ℤ) (read : Result Change LineRefusal) (result : Result LineOutcome Fault) (old : RepoFields) (before : V) (new : RepoFields) (after : V) : Type 0 where
  pub ok : IfOk result (λ (outcome : LineOutcome). IsLinePerformed (g.honest before) old.config moment read (state_of old (g.lists before)) (outcome_line old.config.granularity outcome) (state_of new (g.lists after)))
  pub writable : IfOk result IsWritableOutcome
  pub err : OnErr result ((new ≡ old) × (g.lists after ≡ g.lists before))
  pub kept : Keeps (g.honest before) old (g.lists before) new (g.lists after)
  pub store : Spends g.room g.failures g.honest (room_for_line old.config read) result before after

-- a line was performed, as it was parsed, and its answer follows the others
pub record IsLineAdded {V : Type 0} (g : Ghosts V) (moment : ℤ) (read : Result Change LineRefusal) (old : RepoFields) (before : V) (was : List ℕ) (new : RepoFields) (after : V) (is : List ℕ) : Type 0 where
  pub text : List ℕ
  pub told : is ≡ was ++ text
  pub line : IsLinePerformed (g.honest before) old.config moment read (state_of old (g.lists before)) text (state_of new (g.lists after))

-- a repository in a store performs a line, as it was parsed, and answers it; a fault leaves the repository and all
-- lists unchanged
pub record AnswersLine {V : Type 0} (g : Ghosts V) (moment : ℤ) (read : Result Change LineRefusal) (result : Result (Unit {0}) Fault) (old : RepoFields) (before : V) (was : List ℕ) (new : RepoFields) (after : V) (is : List ℕ) : Type 0 where
  pub ok : OnOk result (IsLineAdded g moment read old before was new after is)
  pub err : OnErr result ((new ≡ old) × (g.lists after ≡ g.lists before))
  pub kept : Keeps (g.honest before) old (g.lists before) new (g.lists after)
  pub store : Spends g.room g.failures g.honest (room_for_line old.config read) result before after
