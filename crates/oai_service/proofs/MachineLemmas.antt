-- What the machine does over a store that does not fail is what a host may do.
use Rattle.std.proofs.Common.{◌≡◌, ◌∙◌, inl, inr, ◌<◌, ℕ, ℤ, Bool, true, false, not, List, [], ◌∷◌, length, map, take, Option, None, Some, refl, sym, ap, subst, arith}
use Rattle.std.specs.Prelude.{if◌then◌else◌, Result, Ok, Err}
use Rattle.std.specs.List.{list_all}
use Rattle.std.proofs.lemmas.Bool.{and_parts, cond-true, cond-false, false≢true, true≢false}
use Rattle.oai_deposit.specs.declared.changes.Change.{Change}
use Rattle.oai_deposit.specs.declared.changes.Change.TheVariants as change
use Rattle.oai_item.specs.Item.{ItemState}
use Rattle.oai_item.specs.declared.faults.Fault.{Fault}
use Rattle.oai_item.specs.declared.faults.Fault.TheVariants.{Device, NoMemory}
use Rattle.oai_item.specs.declared.refusals.ChangeRefusal.{ChangeRefusal}
use Rattle.oai_item.specs.declared.refusals.LineRefusal.{LineRefusal}
use Rattle.oai_deposit.specs.Lines.{line_of}
use Rattle.oai_catalogue.specs.Store.{IsHonest, NeedsRoom}
use Rattle.oai_device.specs.Device.{CountsFailures}
use Rattle.oai_settings.specs.Config.{RepositoryConfig}
use Rattle.oai_holdings.specs.Accepted.{sets_with}
use Rattle.oai_holdings.specs.Changes.{changed, refusal_of, stamp_at, told_stamp}
use Rattle.oai_repo.specs.Machine.{Output, act, act_on_change, bytes, outcome_output, query, step, wait}
use Rattle.oai_holdings.specs.Holdings.{Holdings}
use Rattle.oai_repo.specs.State.{RepoState, moved}
use Rattle.oai_http.specs.Answers.{failed}
use Rattle.oai_http.specs.Targets.{leads_to_repository}
use Rattle.oai_http.specs.declared.exchanges.Answer.{Answer}
use Rattle.oai_http.specs.declared.exchanges.Call.{Call}
use Rattle.oai_host.specs.Alone.{after_line, after_lines, after_read, done_alone, exchanged_alone, with_end}
use Rattle.oai_host.specs.Answers.{IsReply, answer_of, failure, failure_in}
use Rattle.oai_host.specs.Hosts.{AreSteps, HostState, IsExchanged, IsStep, Repository, is_of_none}
use Rattle.oai_host.specs.Performed.{AreLinesPerformed, IsDone, IsLineAnswered, IsPerformed, IsStampOf, StoreState}
use Rattle.oai_host.specs.Redone.{redone_at, redone_repositories, reply_all}
use Rattle.oai_host.specs.Room.{room_for_task}
use Rattle.oai_host.specs.Tasks.{Task, asking, depositing, refusing, task_of}
use Rattle.oai_host.proofs.RedoLemmas.{alone_whole}

-- a store that does not fail
abbrev pub sound_store : StoreState
sound_store = record { honest = true; failures = 0; room = 0 }

-- a host over it
abbrev pub sound_host : List Repository → HostState
sound_host repositories = record { repositories = repositories; honest = true; failures = 0; room = 0; unsaved = [] }

-- ---- at one repository

reply_of : (output : Output) → IsReply (answer_of output)
reply_of (bytes text) = refl
reply_of (wait seconds) = refl

asking_done : (config : RepositoryConfig) (state : RepoState) (moment : ℤ) (arguments : List ℕ)
    → IsDone true config moment (asking arguments) state (done_alone config state moment (asking arguments)).0 (done_alone config state moment (asking arguments)).1
unfolding act
asking_done config state moment arguments = record {
  reply = reply_of (step config state moment (query arguments)).0;
  clock = refl;
  holdings = refl;
  exact = λ so. refl;
}

sets_after : (config : RepositoryConfig) (stamp : ℤ) (holdings : Holdings) (its : Change) → (changed config stamp holdings its).sets ≡ sets_with its holdings.sets
unfolding changed
sets_after config stamp holdings (change.Deposit identifier sets records) = refl
sets_after config stamp holdings (change.Put identifier sets records) = refl
sets_after config stamp holdings (change.Delete identifier) = refl
sets_after config stamp holdings (change.Purge before) = refl
sets_after config stamp holdings (change.AddSet spec name) = refl

stamp_told : (its : Change) (now : ℤ) (items : List ItemState) → IsStampOf its now (told_stamp now its items)
stamp_told (change.Deposit identifier sets records) now items = refl
stamp_told (change.Put identifier sets records) now items = tt
stamp_told (change.Delete identifier) now items = refl
stamp_told (change.Purge before) now items = refl
stamp_told (change.AddSet spec name) now items = refl

change_answered : (config : RepositoryConfig) (state : RepoState) (moment : ℤ) (its : Change) (refusal : Option ChangeRefusal)
    → (let done = act_on_change config (moved moment state) (stamp_at config (moved moment state).clock) its refusal in
    IsLineAnswered config moment (Ok its) state (with_end (outcome_output config.granularity done.0)) done.1)
unfolding outcome_output
change_answered config state moment its None =
    let now : ℤ = stamp_at config (moved moment state).clock in
    let items : List ItemState = (changed config now state.holdings its).items in
    inl (record {
      stamp = told_stamp now its items;
      stamped = stamp_told its now items;
      told = refl;
      clock = refl;
      sets = sets_after config now state.holdings its;
      open_lists = refl;
    })
change_answered config state moment its (Some cause) = inr (cause, record { told = refl; state = refl })

line_answered : (config : RepositoryConfig) (state : RepoState) (moment : ℤ) (read : Result Change LineRefusal)
    → IsLineAnswered config moment read state (after_read config moment state read).0 (after_read config moment state read).1
unfolding act outcome_output
line_answered config state moment (Ok its) = change_answered config state moment its (refusal_of config (stamp_at config (moved moment state).clock) (moved moment state).holdings its)
line_answered config state moment (Err cause) = record { told = refl; state = refl }

pub lines_performed : (config : RepositoryConfig) (moment : ℤ) (lines : List (List ℕ)) (state : RepoState)
    → AreLinesPerformed true config moment lines state (after_lines config moment state lines).0 (after_lines config moment state lines).1
lines_performed config moment [] state = (refl, refl)
lines_performed config moment (text ∷ lines) state =
    let first = after_line config moment state text in
    let others = after_lines config moment first.1 lines in (
      first.0,
      others.0,
      first.1,
      refl,
      record { so = line_answered config state moment (line_of config.forms text); exact = λ so. refl },
      lines_performed config moment lines first.1,
    )

task_done : (config : RepositoryConfig) (state : RepoState) (moment : ℤ) (task : Task) → IsDone true config moment task state (done_alone config state moment task).0 (done_alone config state moment task).1
task_done config state moment (refusing status) = (refl, refl)
task_done config state moment (asking arguments) = asking_done config state moment arguments
task_done config state moment (depositing lines) = (refl, lines_performed config moment lines state)

room_enough : (calls : ℕ) (answer : Answer) (fault : Option Fault) → answer.fault ≡ fault → (fault ≡ None) → NeedsRoom calls (failure_in answer) 0 0
room_enough calls answer fault is none =
    subst (λ (f : Option Fault). NeedsRoom calls (failure f) 0 0) (sym (is ∙ none)) (record { enough = tt; used = omega arith })

counted_none : (answer : Answer) → answer.fault ≡ None → CountsFailures Device (failure_in answer) 0 0
counted_none answer none = subst (λ (f : Option Fault). CountsFailures Device (failure f) 0 0) (sym none) (record { count = omega arith; device = tt })

honest_none : (answer : Answer) → answer.fault ≡ None → IsHonest (failure_in answer) true true
honest_none answer none = subst (λ (f : Option Fault). IsHonest (failure f) true true) (sym none) (record { same = refl; damaged = tt })

pub performed_alone : (config : RepositoryConfig) (state : RepoState) (call : Call)
    → IsPerformed config call.moment (task_of call) (exchanged_alone config state call).0 state sound_store (exchanged_alone config state call).1 sound_store
performed_alone config state call =
    let answer : Answer = (exchanged_alone config state call).0 in
    let none : answer.fault ≡ None = alone_whole config state call.moment (task_of call) in
    record {
      ended = inl (task_done config state call.moment (task_of call));
      room = room_enough (room_for_task config (task_of call)) answer answer.fault refl none;
      device = counted_none answer none;
      honesty = honest_none answer none;
    }

-- a deposit that is refused memory behind its first line
pub performed_once : (config : RepositoryConfig) (state : RepoState) (moment : ℤ) (task : Task) (lines : List (List ℕ)) → task ≡ depositing lines → 1 < length lines
    → IsPerformed config moment task (failed NoMemory (Some 1)) state sound_store (after_lines config moment state (take 1 lines)).1 sound_store
performed_once config state moment task lines is more =
    subst (λ (t : Task). IsPerformed config moment t (failed NoMemory (Some 1)) state sound_store (after_lines config moment state (take 1 lines)).1 sound_store) (sym is)
    (record {
      ended = inr (NoMemory, (1, more, refl, (after_lines config moment state (take 1 lines)).0, lines_performed config moment (take 1 lines) state));
      room = record { enough = λ h. cc; used = omega arith };
      device = record { count = omega arith; device = λ h. cc };
      honesty = record { same = refl; damaged = λ h. cc };
    })

-- ---- at a host

abbrev pub names_in : List Repository → List (List ℕ)
names_in repositories = map (λ (repository : Repository). repository.name) repositories

abbrev pub leads_away : List ℕ → List (List ℕ) → Bool
leads_away target names = list_all (λ (name : List ℕ). not (leads_to_repository name target)) names

-- the target leads to just one of the names
abbrev pub leads_to_one : List ℕ → List (List ℕ) → Bool
leads_to_one target [] = false
leads_to_one target (name ∷ names) = if leads_to_repository name target then leads_away target names else leads_to_one target names

not_so : (b : Bool) → not b ≡ true → b ≡ false
not_so true h = cc
not_so false h = refl

step_yes : (call : Call) (answer : Answer) (x y : Repository) (state : RepoState) → leads_to_repository x.name call.target ≡ true
    → IsPerformed x.config call.moment (task_of call) answer x.state sound_store state sound_store → y ≡ record x { state = state } → IsStep call answer sound_store sound_store x y
step_yes call answer x y state own performed is =
    subst (IsStep call answer sound_store sound_store x) (sym is) (record { name = refl; config = refl; own = λ yes. performed; other = λ no. absurd (true≢false (sym own ∙ no)) })

step_no : (call : Call) (answer : Answer) (x y : Repository) → leads_to_repository x.name call.target ≡ false → y ≡ x → IsStep call answer sound_store sound_store x y
step_no call answer x y other is =
    subst (IsStep call answer sound_store sound_store x) (sym is) (record { name = refl; config = refl; own = λ yes. absurd (true≢false (sym yes ∙ other)); other = λ no. refl })

redone_yes : (again : Call) (x : Repository) → leads_to_repository x.name again.target ≡ true → redone_at again x ≡ record x { state = (exchanged_alone x.config x.state again).1 }
redone_yes again x own = cond-true (leads_to_repository x.name again.target) (record x { state = (exchanged_alone x.config x.state again).1 }) x own

redone_no : (again : Call) (x : Repository) → leads_to_repository x.name again.target ≡ false → redone_at again x ≡ x
redone_no again x other = cond-false (leads_to_repository x.name again.target) (record x { state = (exchanged_alone x.config x.state again).1 }) x other

steps_away : (call again : Call) (answer : Answer) (repositories : List Repository) → again.target ≡ call.target → leads_away call.target (names_in repositories) ≡ true
    → AreSteps call answer sound_store sound_store repositories (redone_repositories repositories again)
steps_away call again answer [] same away = tt
steps_away call again answer (x ∷ repositories) same away =
    let parts = and_parts (not (leads_to_repository x.name call.target)) (leads_away call.target (names_in repositories)) away in
    let other : leads_to_repository x.name call.target ≡ false = not_so (leads_to_repository x.name call.target) parts.0 in
    (step_no call answer x (redone_at again x) other (redone_no again x (ap (leads_to_repository x.name) same ∙ other)), steps_away call again answer repositories same parts.1)

first_or_others : (target name : List ℕ) (names : List (List ℕ)) (b : Bool) → leads_to_repository name target ≡ b → leads_to_one target (name ∷ names) ≡ true
    → (if b then leads_away target names else leads_to_one target names) ≡ true
first_or_others target name names b is one = subst (λ (c : Bool). (if c then leads_away target names else leads_to_one target names) ≡ true) is one

whole_steps : (call : Call) (repositories : List Repository) → leads_to_one call.target (names_in repositories) ≡ true
    → AreSteps call (reply_all repositories call) sound_store sound_store repositories (redone_repositories repositories call)
whole_steps call [] one = absurd (false≢true one)
whole_steps call (x ∷ repositories) one = by (leads_to_repository x.name call.target) refl (first_or_others call.target x.name (names_in repositories) (leads_to_repository x.name call.target) refl one) (whole_steps call repositories)
  where
    all : List Repository
    all = redone_repositories (x ∷ repositories) call

    by : (b : Bool) → leads_to_repository x.name call.target ≡ b → (if b then leads_away call.target (names_in repositories) else leads_to_one call.target (names_in repositories)) ≡ true
        → (leads_to_one call.target (names_in repositories) ≡ true → AreSteps call (reply_all repositories call) sound_store sound_store repositories (redone_repositories repositories call))
        → AreSteps call (reply_all (x ∷ repositories) call) sound_store sound_store (x ∷ repositories) all
    by true own away others =
        let answer : Answer = (exchanged_alone x.config x.state call).0 in
        let is : reply_all (x ∷ repositories) call ≡ answer = cond-true (leads_to_repository x.name call.target) answer (reply_all repositories call) own in
        subst (λ (a : Answer). AreSteps call a sound_store sound_store (x ∷ repositories) all) (sym is)
        (step_yes call answer x (redone_at call x) (exchanged_alone x.config x.state call).1 own (performed_alone x.config x.state call) (redone_yes call x own), steps_away call call answer repositories refl away)
    by false other one others =
        let answer : Answer = (exchanged_alone x.config x.state call).0 in
        let is : reply_all (x ∷ repositories) call ≡ reply_all repositories call = cond-false (leads_to_repository x.name call.target) answer (reply_all repositories call) other in
        subst (λ (a : Answer). AreSteps call a sound_store sound_store (x ∷ repositories) all) (sym is)
        (step_no call (reply_all repositories call) x (redone_at call x) other (redone_no call x other), others one)

-- a deposit of which the first line is done again
pub record IsOnce (call again : Call) : Type 0 where
  pub lines : List (List ℕ)
  pub asked : task_of call ≡ depositing lines
  pub more : 1 < length lines
  pub first : task_of again ≡ depositing (take 1 lines)
  pub target : again.target ≡ call.target
  pub moment : again.moment ≡ call.moment

once_steps : (call again : Call) (repositories : List Repository) → IsOnce call again → leads_to_one call.target (names_in repositories) ≡ true
    → AreSteps call (failed NoMemory (Some 1)) sound_store sound_store repositories (redone_repositories repositories again)
once_steps call again [] once one = absurd (false≢true one)
once_steps call again (x ∷ repositories) once one = by (leads_to_repository x.name call.target) refl (first_or_others call.target x.name (names_in repositories) (leads_to_repository x.name call.target) refl one) (once_steps call again repositories once)
  where
    by : (b : Bool) → leads_to_repository x.name call.target ≡ b → (if b then leads_away call.target (names_in repositories) else leads_to_one call.target (names_in repositories)) ≡ true
        → (leads_to_one call.target (names_in repositories) ≡ true → AreSteps call (failed NoMemory (Some 1)) sound_store sound_store repositories (redone_repositories repositories again))
        → AreSteps call (failed NoMemory (Some 1)) sound_store sound_store (x ∷ repositories) (redone_repositories (x ∷ repositories) again)
    by true own away others =
        let state : RepoState = (after_lines x.config call.moment x.state (take 1 once.lines)).1 in
        let left : (exchanged_alone x.config x.state again).1 ≡ state =
        ap (λ (t : Task). (done_alone x.config x.state again.moment t).1) once.first ∙ ap (λ (m : ℤ). (after_lines x.config m x.state (take 1 once.lines)).1) once.moment in (
          step_yes call (failed NoMemory (Some 1)) x (redone_at again x) state own (performed_once x.config x.state call.moment (task_of call) once.lines once.asked once.more)
              (redone_yes again x (ap (leads_to_repository x.name) once.target ∙ own) ∙ ap (λ (s : RepoState). record x { state = s }) left),
          steps_away call again (failed NoMemory (Some 1)) repositories once.target away,
        )
    by false other one others =
        (step_no call (failed NoMemory (Some 1)) x (redone_at again x) other (redone_no again x (ap (leads_to_repository x.name) once.target ∙ other)), others one)

-- a target that leads to one is not of none
not_of_none : (call : Call) (repositories : List Repository) → leads_to_one call.target (names_in repositories) ≡ true → is_of_none repositories call ≡ true → ⊥
not_of_none call [] one none = false≢true one
not_of_none call (x ∷ repositories) one none =
    let parts = and_parts (not (leads_to_repository x.name call.target)) (is_of_none repositories call) none in
    not_of_none call repositories (first_or_others call.target x.name (names_in repositories) false (not_so (leads_to_repository x.name call.target) parts.0) one) parts.1

reply_either : (call : Call) (x : Repository) (others : Answer) (b : Bool) → others.fault ≡ None → (if b then (exchanged_alone x.config x.state call).0 else others).fault ≡ None
reply_either call x others true none = alone_whole x.config x.state call.moment (task_of call)
reply_either call x others false none = none

pub reply_whole : (call : Call) (repositories : List Repository) → (reply_all repositories call).fault ≡ None
reply_whole call [] = refl
reply_whole call (x ∷ repositories) = reply_either call x (reply_all repositories call) (leads_to_repository x.name call.target) (reply_whole call repositories)

pub whole_exchanged : (call : Call) (repositories : List Repository) → leads_to_one call.target (names_in repositories) ≡ true
    → IsExchanged call (reply_all repositories call) (sound_host repositories) (sound_host (redone_repositories repositories call))
whole_exchanged call repositories one = record {
  each = whole_steps call repositories one;
  none = λ none. absurd (not_of_none call repositories one none);
  unsaved = refl;
  device = counted_none (reply_all repositories call) (reply_whole call repositories);
  honesty = honest_none (reply_all repositories call) (reply_whole call repositories);
}

pub once_exchanged : (call again : Call) (repositories : List Repository) → IsOnce call again → leads_to_one call.target (names_in repositories) ≡ true
    → IsExchanged call (failed NoMemory (Some 1)) (sound_host repositories) (sound_host (redone_repositories repositories again))
once_exchanged call again repositories once one = record {
  each = once_steps call again repositories once one;
  none = λ none. absurd (not_of_none call repositories one none);
  unsaved = refl;
  device = record { count = omega arith; device = λ h. cc };
  honesty = record { same = refl; damaged = λ h. cc };
}

-- the names stay
pub names_left : (again : Call) (repositories : List Repository) → names_in (redone_repositories repositories again) ≡ names_in repositories
names_left again [] = refl
names_left again (x ∷ repositories) = ap (λ (name : List ℕ). name ∷ names_in (redone_repositories repositories again)) (one (leads_to_repository x.name again.target)) ∙ ap (λ (names : List (List ℕ)). x.name ∷ names) (names_left again repositories)
  where
    one : (b : Bool) → (if b then record x { state = (exchanged_alone x.config x.state again).1 } else x).name ≡ x.name
    one true = refl
    one false = refl
