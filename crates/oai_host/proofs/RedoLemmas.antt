-- What an exchange left is what is left again by as much of it as was performed.
use Rattle.std.proofs.Common.{◌≡◌, ◌∙◌, inl, inr, ℕ, ℤ, Bool, true, false, not, ◌&&◌, ◌≤◌, IsTrue, ◌≢◌, List, [], ◌∷◌, length, take, Option, None, Some, Result, Ok, Err, refl, sym, ap, arith}
use Rattle.std.specs.Prelude.{MatchOption, OnOk}
use Rattle.std.proofs.lemmas.Bool.{cases_Bool, cond-true, cond-false}
use Rattle.oai_item.specs.declared.faults.Fault.{Fault}
use Rattle.oai_item.specs.declared.faults.Fault.TheVariants.{Damaged, Device, NoMemory, TooManyPages}
use Rattle.oai_settings.specs.Config.{RepositoryConfig}
use Rattle.oai_repo.specs.Machine.{Output, bytes, query, step, wait}
use Rattle.oai_repo.specs.Replays.{IsReplay}
use Rattle.oai_repo.specs.State.{RepoState, moved}
use Rattle.oai_repo.specs.declared.responses.Replay.{Replay}
use Rattle.oai_repo.specs.declared.responses.Replay.TheVariants.{Nothing, Tick, Request}
use Rattle.oai_repo.specs.Calls.{IsClockAt, IsLeftByStep, room_to_ask}
use Rattle.oai_holdings.specs.Index.{holdings_of}
use Rattle.oai_repo.specs.Fields.{Keeps, RepoFields, state_of}
use Rattle.oai_repo.proofs.PassLemmas.{bare_ticks, ticks}
use Rattle.oai_args.specs.Pairs.{decoded_pairs}
use Rattle.oai_args.specs.Requests.{request_of}
use Rattle.oai_catalogue.specs.Store.{Spends}
use Rattle.oai_catalogue.specs.declared.versions.Versions.{Ghosts}
use Rattle.oai_http.specs.declared.targets.Endpoint.TheVariants.{Deposits, Requests}
use Rattle.oai_host.specs.Exchanged.{RedoesIn}
use Rattle.oai_http.specs.Answers.{failed}
use Rattle.oai_replay.specs.Redone.{call_again}
use Rattle.oai_http.specs.Targets.{leads_to_repository}
use Rattle.oai_http.specs.declared.exchanges.Answer.{Answer}
use Rattle.oai_http.specs.declared.exchanges.Call.{Call}
use Rattle.oai_replay.specs.declared.replays.Performed.{Performed}
use Rattle.oai_host.specs.Alone.{done_alone, exchanged_alone}
use Rattle.oai_host.specs.Answers.{IsReply, answer_of, failure, failure_in}
use Rattle.oai_host.specs.Bodies.{lines_in}
use Rattle.oai_host.specs.DepositLines.{HasDone}
use Rattle.oai_host.specs.Hosts.{AreSteps, HostState, IsExchanged, Repository, is_of_none, refused, store_of}
use Rattle.oai_host.specs.Performed.{HasStopped, IsDone, IsPerformed, StoreState}
use Rattle.oai_host.specs.Redone.{AreNoLonger, IsLeftBy, IsRedone, arguments_to_replay, if_any, lines_to_replay, redone_at, redone_repositories, reply_all}
use Rattle.oai_host.specs.Tasks.{Task, asking, depositing, refusing, task_of}
use Rattle.oai_host.proofs.DepositLemmas.{lines_exact}
use Rattle.oai_host.proofs.RoomLemmas.{fault_told}
use Rattle.oai_host.proofs.RunLemmas.{done_exact}

-- ---- faults

output_whole : (output : Output) → (answer_of output).fault ≡ None
output_whole (bytes body) = refl
output_whole (wait seconds) = refl

-- so it tells of no failure
pub output_told : (output : Output) → failure_in (answer_of output) ≡ Ok tt
output_told output = ap failure (output_whole output)

-- the answers of the machine have none
pub alone_whole : (config : RepositoryConfig) (state : RepoState) (moment : ℤ) (task : Task) → (done_alone config state moment task).0.fault ≡ None
alone_whole config state moment (refusing status) = refl
alone_whole config state moment (asking arguments) = output_whole (step config state moment (query arguments)).0
alone_whole config state moment (depositing lines) = refl

pub failed_fault : (fault : Fault) (lines : Option ℕ) → (failed fault lines).fault ≡ Some fault
failed_fault NoMemory lines = refl
failed_fault TooManyPages lines = refl
failed_fault Device lines = refl
failed_fault Damaged lines = refl

pub failed_done : (fault : Fault) (lines : Option ℕ) → (failed fault lines).done ≡ lines
failed_done NoMemory lines = refl
failed_done TooManyPages lines = refl
failed_done Device lines = refl
failed_done Damaged lines = refl

pub never : {P : Type 0} {A : Type 0} (x : A) → None ≡ Some x → P
never x is = cc

stopped_fault : (honest : Bool) (config : RepositoryConfig) (moment : ℤ) (task : Task) (fault : Fault) (before : RepoState) (answer : Answer) (after : RepoState) → HasStopped honest config moment task fault before answer after
    → answer.fault ≡ Some fault
stopped_fault honest config moment (refusing status) fault before answer after stopped = absurd stopped
stopped_fault honest config moment (asking arguments) fault before answer after stopped = ap (λ (a : Answer). a.fault) stopped.0 ∙ failed_fault fault None
stopped_fault honest config moment (depositing lines) fault before answer after stopped = ap (λ (a : Answer). a.fault) stopped.2 ∙ failed_fault fault (Some stopped.0)

-- ---- a repository

module _ (config : RepositoryConfig) (moment : ℤ) (task : Task) (answer : Answer) (before : RepoState) (old : StoreState) (after : RepoState) (new : StoreState) (honest : IsTrue old.honest)
    (performed : IsPerformed config moment task answer before old after new) where
  pub done_whole : IsDone old.honest config moment task before answer after → answer.fault ≡ None
  done_whole done =
      ap (λ (p : Answer × RepoState). p.0.fault) (sym (done_exact old.honest config moment task before answer after honest done))
      ∙ alone_whole config before moment task

  -- without a fault it was done
  pub whole_done : answer.fault ≡ None → done_alone config before moment task ≡ (answer, after)
  whole_done none = elim performed.ended [
    | inl done ↦ done_exact old.honest config moment task before answer after honest done
    | inr stopped ↦ never stopped.0 (sym none ∙ stopped_fault old.honest config moment task stopped.0 before answer after stopped.1)
  ]

  pub whole_left : answer.fault ≡ None → after ≡ (done_alone config before moment task).1
  whole_left none = ap (λ (p : Answer × RepoState). p.1) (sym (whole_done none))

  pub whole_reply : answer.fault ≡ None → answer ≡ (done_alone config before moment task).0
  whole_reply none = ap (λ (p : Answer × RepoState). p.0) (sym (whole_done none))

  -- what failed with no count of lines has left all
  none_left : (fault : Fault) → answer.fault ≡ Some fault → answer.done ≡ None → after ≡ before
  none_left fault is none = elim performed.ended [
    | inl done ↦ never fault (sym (done_whole done) ∙ is)
    | inr stopped ↦ of_task task stopped.0 stopped.1
  ]
    where
      of_task : (its : Task) (f : Fault) → HasStopped old.honest config moment its f before answer after → after ≡ before
      of_task (refusing status) f stopped = absurd stopped
      of_task (asking arguments) f stopped = stopped.1
      of_task (depositing lines) f stopped = never stopped.0 (sym none ∙ ap (λ (a : Answer). a.done) stopped.2 ∙ failed_done f (Some stopped.0))

module _ (config : RepositoryConfig) (moment : ℤ) (body : List ℕ) (answer : Answer) (before : RepoState) (old : StoreState) (after : RepoState) (new : StoreState) (honest : IsTrue old.honest)
    (performed : IsPerformed config moment (depositing (lines_in body)) answer before old after new) where
  -- a deposit that failed has done its first lines
  first_left : (fault : Fault) (n : ℕ) (lines : List ℕ) → answer.fault ≡ Some fault → answer.done ≡ Some n → lines_in lines ≡ take n (lines_in body)
      → after ≡ (done_alone config before moment (depositing (lines_in lines))).1
  first_left fault n lines is count taken = elim performed.ended [
    | inl done ↦ never fault (sym (done_whole config moment (depositing (lines_in body)) answer before old after new honest performed done) ∙ is)
    | inr stopped ↦
        let part = stopped.1 in
        let some : Some part.0 ≡ Some n = sym (failed_done stopped.0 (Some part.0)) ∙ sym (ap (λ (a : Answer). a.done) part.2) ∙ count in
        let same : part.0 ≡ n = cc in
        ap (λ (p : List ℕ × RepoState). p.1) (sym (lines_exact old.honest config moment (take part.0 (lines_in body)) before part.3 after honest part.4))
        ∙ ap (λ (k : ℕ). (done_alone config before moment (depositing (take k (lines_in body)))).1) same
        ∙ ap (λ (its : List (List ℕ)). (done_alone config before moment (depositing its)).1) (sym taken)
  ]

  -- the lines that were done leave what the deposit did
  done_left : (fault : Option Fault) (count : Option ℕ) (lines : List ℕ) → answer.fault ≡ fault → answer.done ≡ count
      → MatchOption fault (lines ≡ body) (λ (f : Fault). MatchOption count (lines ≡ []) (λ (n : ℕ). lines_in lines ≡ take n (lines_in body)))
      → after ≡ (done_alone config before moment (depositing (lines_in lines))).1
  done_left None count lines none counts all =
      whole_left config moment (depositing (lines_in body)) answer before old after new honest performed none
      ∙ ap (λ (text : List ℕ). (done_alone config before moment (depositing (lines_in text))).1) (sym all)
  done_left (Some fault) None lines is none nothing =
      none_left config moment (depositing (lines_in body)) answer before old after new honest performed fault is none
      ∙ ap (λ (text : List ℕ). (done_alone config before moment (depositing (lines_in text))).1) (sym nothing)
  done_left (Some fault) (Some n) lines is count taken = first_left fault n lines is count taken

  -- and nothing, if there are none
  left_if_any : (its : List (List ℕ)) (lines : List ℕ) → lines_in lines ≡ its → after ≡ (done_alone config before moment (depositing (lines_in lines))).1
      → IsLeftBy config moment Deposits (if_any its lines) before after
  left_if_any [] lines is left = left ∙ ap (λ (its : List (List ℕ)). (done_alone config before moment (depositing its)).1) is
  left_if_any (line ∷ its) lines is left = left

  pub lines_left : (lines : List ℕ) → HasDone body answer lines → IsLeftBy config moment Deposits (lines_to_replay lines) before after
  lines_left lines done = left_if_any (lines_in lines) lines refl (done_left answer.fault answer.done lines refl refl done)

-- a deposit that failed, and its first lines
pub failed_lines : (body lines : List ℕ) (fault : Fault) (n : ℕ) → lines_in lines ≡ take n (lines_in body) → HasDone body (failed fault (Some n)) lines
failed_lines body lines NoMemory n is = is
failed_lines body lines TooManyPages n is = is
failed_lines body lines Device n is = is
failed_lines body lines Damaged n is = is

-- lines that are there are to be replayed
pub any_lines : (its : List (List ℕ)) (lines : List ℕ) (count : ℕ) → count ≡ length its → count ≢ 0 → Some lines ≡ if_any its lines
any_lines [] lines count many some = absurd (some many)
any_lines (line ∷ its) lines count many some = refl

-- and none are not
pub none_lines : (its : List (List ℕ)) (lines : List ℕ) (count : ℕ) → count ≡ length its → count ≡ 0 → None ≡ if_any its lines
none_lines [] lines count many none = refl
none_lines (line ∷ its) lines count many none = absurd (omega (arith, many, none))

within_if_any : (its : List (List ℕ)) (body lines : List ℕ) → length lines ≤ length body → AreNoLonger body (if_any its lines)
within_if_any [] body lines within = tt
within_if_any (line ∷ its) body lines within = within

pub lines_within : (body lines : List ℕ) → length lines ≤ length body → AreNoLonger body (lines_to_replay lines)
lines_within body lines within = within_if_any (lines_in lines) body lines within

-- ---- what of a request is to be replayed

-- a request without arguments is a tick
bare_tick : (config : RepositoryConfig) (moment : ℤ) (before : RepoState) → (done_alone config before moment (asking [])).1 ≡ moved moment before
bare_tick config moment before = ticks config before moment (request_of config.granularity (decoded_pairs [])) (bare_ticks config.granularity)

pub replay_left : (config : RepositoryConfig) (moment : ℤ) (arguments : List ℕ) (replay : Replay) (before after : RepoState) → IsReplay config before moment (request_of config.granularity (decoded_pairs arguments)) replay after
    → after ≡ (done_alone config before moment (asking arguments)).1 → IsLeftBy config moment Requests (arguments_to_replay replay arguments) before after
replay_left config moment arguments Nothing before after is done = is.replayed
replay_left config moment arguments Tick before after is done = is.replayed ∙ sym (bare_tick config moment before)
replay_left config moment arguments Request before after is done = done

pub no_longer : (replay : Replay) (arguments : List ℕ) → AreNoLonger arguments (arguments_to_replay replay arguments)
no_longer Nothing arguments = tt
no_longer Tick arguments = omega arith
no_longer Request arguments = omega arith

-- ---- a request is passed

pub reply_of_output : (output : Output) → IsReply (answer_of output)
reply_of_output (bytes body) = refl
reply_of_output (wait seconds) = refl

-- a repository that passes a request has performed it, and its answer is dropped
pub passed_in : {V : Type 0} (g : Ghosts V) (moment : ℤ) (arguments : List ℕ) (result : Result (Unit {0}) Fault) (old : RepoFields) (before : V) (new : RepoFields) (after : V)
    → OnOk result (IsTrue (g.honest before) → IsLeftByStep old (g.lists before) moment arguments new (g.lists after)) → IsClockAt result moment old (g.lists before) new (g.lists after)
    → holdings_of new.index new.sets (g.lists after) ≡ holdings_of old.index old.sets (g.lists before) → Keeps (g.honest before) old (g.lists before) new (g.lists after)
    → Spends g.room g.failures g.honest (room_to_ask (request_of old.config.granularity (decoded_pairs arguments))) result before after → RedoesIn g moment (asking arguments) result old before new after
passed_in g moment arguments (Ok done) old before new after passed clock kept keeps store =
    let was : RepoState = state_of old (g.lists before) in
    let alone : Answer × RepoState = done_alone old.config was moment (asking arguments) in
    let whole : alone.0.fault ≡ None = output_whole (step old.config was moment (query arguments)).0 in
    let no_failure : failure_in alone.0 ≡ Ok done = ap failure whole in (
      alone.0,
      sym no_failure,
      record {
        performed = record {
          ended = inl (record {
            reply = reply_of_output (step old.config was moment (query arguments)).0;
            clock = clock;
            holdings = kept;
            exact = λ honest. ap (λ (state : RepoState). (alone.0, state)) (sym (passed honest));
          });
          room = rw no_failure (record { enough = tt; used = store.room.used });
          device = rw no_failure (record { count = store.device.count; device = tt });
          honesty = rw no_failure (record { same = store.honesty.same; damaged = tt });
        };
        kept = keeps;
      },
    )
passed_in g moment arguments (Err fault) old before new after passed clock kept keeps store =
    let told = fault_told fault None in (
      failed fault None,
      sym told,
      record {
        performed = record {
          ended = inr (fault, (refl, rw (clock.0, clock.1) refl));
          room = rw told (record { enough = store.room.enough; used = store.room.used });
          device = rw told (record { count = store.device.count; device = store.device.device });
          honesty = rw told (record { same = store.honesty.same; damaged = store.honesty.damaged });
        };
        kept = keeps;
      },
    )

-- ---- the host

same_repository : (x y : Repository) → y.name ≡ x.name → y.config ≡ x.config → (s : RepoState) → y.state ≡ s → y ≡ record x { state = s }
same_repository x y a b s c =
    ap (λ (n : List ℕ). record { name = n; config = y.config; state = y.state }) a
    ∙ ap (λ (n : RepositoryConfig). record { name = x.name; config = n; state = y.state }) b
    ∙ ap (λ (n : RepoState). record { name = x.name; config = x.config; state = n }) c

-- what an exchange without a fault leaves, and what it is answered
module _ (call : Call) (answer : Answer) (old new : StoreState) (honest : IsTrue old.honest) (none : answer.fault ≡ None) where
  each_redone : (before after : List Repository) → AreSteps call answer old new before after → after ≡ redone_repositories before call
  each_redone [] [] steps = refl
  each_redone [] (y ∷ after) steps = absurd steps
  each_redone (x ∷ before) [] steps = absurd steps
  each_redone (x ∷ before) (y ∷ after) steps =
      ap (λ (r : Repository). r ∷ after) (one (leads_to_repository x.name call.target) refl)
      ∙ ap (λ (rs : List Repository). redone_at call x ∷ rs) (each_redone before after steps.1)
    where
      one : (b : Bool) → leads_to_repository x.name call.target ≡ b → y ≡ redone_at call x
      one true own =
          same_repository x y steps.0.name steps.0.config (exchanged_alone x.config x.state call).1
          (whole_left x.config call.moment (task_of call) answer x.state old y.state new honest (steps.0.own own) none)
          ∙ sym (cond-true (leads_to_repository x.name call.target) (record x { state = (exchanged_alone x.config x.state call).1 }) x own)
      one false elsewhere =
          same_repository x y steps.0.name steps.0.config x.state (steps.0.other elsewhere)
          ∙ sym (cond-false (leads_to_repository x.name call.target) (record x { state = (exchanged_alone x.config x.state call).1 }) x elsewhere)

  each_replied : (before after : List Repository) → AreSteps call answer old new before after → (is_of_none before call ≡ true → answer ≡ refused call) → answer ≡ reply_all before call
  each_replied [] [] steps refusal = refusal refl
  each_replied [] (y ∷ after) steps refusal = absurd steps
  each_replied (x ∷ before) [] steps refusal = absurd steps
  each_replied (x ∷ before) (y ∷ after) steps refusal = elim (cases_Bool (leads_to_repository x.name call.target)) [
    | inl own ↦
        whole_reply x.config call.moment (task_of call) answer x.state old y.state new honest (steps.0.own own) none
        ∙ sym (cond-true (leads_to_repository x.name call.target) (exchanged_alone x.config x.state call).0 (reply_all before call) own)
    | inr elsewhere ↦
        each_replied before after steps.1 (λ of_none. refusal (ap (λ (b : Bool). not b && is_of_none before call) elsewhere ∙ of_none))
        ∙ sym (cond-false (leads_to_repository x.name call.target) (exchanged_alone x.config x.state call).0 (reply_all before call) elsewhere)
  ]

module _ (call : Call) (answer : Answer) (before after : HostState) (honest : IsTrue before.honest) (exchanged : IsExchanged call answer before after) (none : answer.fault ≡ None) where
  pub redone_whole : after.repositories ≡ redone_repositories before.repositories call
  redone_whole = each_redone call answer (store_of before) (store_of after) honest none before.repositories after.repositories exchanged.each

  pub replied_whole : answer ≡ reply_all before.repositories call
  replied_whole = each_replied call answer (store_of before) (store_of after) honest none before.repositories after.repositories exchanged.each (λ of_none. (exchanged.none of_none).0)

-- ---- performed again

no_fault : (done : Unit {0}) (fault : Option Fault) → Ok done ≡ failure fault → fault ≡ None
no_fault done None same = refl
no_fault done (Some fault) same = cc

pub redo_left : (moment : ℤ) (performed : Performed) (result : Result (Unit {0}) Fault) (before after : HostState) → IsRedone moment performed result before after
    → OnOk result (IsTrue before.honest → after.repositories ≡ redone_repositories before.repositories (call_again moment performed))
redo_left moment performed (Err fault) before after redone = tt
redo_left moment performed (Ok done) before after redone = λ honest. elim redone [
  | inl again ↦ redone_whole (call_again moment performed) again.0 before after honest again.2 (no_fault done again.0.fault again.1)
  | inr unknown ↦ failed unknown.1
]
  where
    failed : {P : Type 0} → Ok done ≡ Err Damaged → P
    failed is = cc

pub redo_honest : (moment : ℤ) (performed : Performed) (result : Result (Unit {0}) Fault) (before after : HostState) → IsRedone moment performed result before after → after.honest ≡ before.honest
redo_honest moment performed result before after redone = elim redone [
  | inl again ↦ again.2.honesty.same
  | inr unknown ↦ ap (λ (host : HostState). host.honest) unknown.2
]
