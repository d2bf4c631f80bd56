-- Answers that a device failed: they number at most its failures; and over a store that gives back what was written to it, no other fault is
-- answered by 500.
use Rattle.std.proofs.Common.{◌≡◌, ◌∙◌, ◌<◌, ◌≤◌, ◌+◌, ◌⊎◌, inl, inr, ℕ, ℤ, suc, Bool, true, false, IsTrue, not, List, [], ◌∷◌, length, filter, Option, None, Some, cond, refl, sym, ap, subst, arith}
use Rattle.std.specs.Prelude.{MatchOption}
use Rattle.std.specs.List.{AllByRecursion}
use Rattle.std.proofs.lemmas.Bool.{and_from, cases_Bool, cond-true, cond-false, not_from_false}
use Rattle.oai_item.specs.declared.faults.Fault.{Fault}
use Rattle.oai_item.specs.declared.faults.Fault.TheVariants.{Damaged, Device, NoMemory, TooManyPages}
use Rattle.oai_catalogue.specs.Store.{IsHonest}
use Rattle.oai_device.specs.Device.{CountsFailures}
use Rattle.oai_device.specs.declared.devices.TheConstants.{MAX_FAILURES}
use Rattle.oai_settings.specs.Config.{RepositoryConfig}
use Rattle.oai_repo.specs.State.{RepoState}
use Rattle.oai_http.specs.Answers.{answered, answered_with, asked_to_wait, failed}
use Rattle.oai_http.specs.Bodies.{is_form}
use Rattle.oai_http.specs.Targets.{endpoint_of, is_rooted, leads_to_repository, query_of}
use Rattle.oai_http.specs.declared.exchanges.Answer.{Answer}
use Rattle.oai_http.specs.declared.exchanges.Call.{Call}
use Rattle.oai_http.specs.declared.statuses.Status.TheVariants as status
use Rattle.oai_http.specs.declared.targets.Endpoint.{Endpoint}
use Rattle.oai_http.specs.declared.targets.Endpoint.TheVariants.{Deposits, Requests}
use Rattle.oai_http.proofs.TargetLemmas.{clash}
use Rattle.oai_host.specs.Answers.{failure, failure_in, is_of_device, tells_of_device}
use Rattle.oai_host.specs.Bodies.{lines_in}
use Rattle.oai_host.specs.Hosts.{AreExchanged, AreSteps, HostState, IsExchanged, IsRun, Repository, is_of_none, store_of}
use Rattle.oai_host.specs.Performed.{HasStopped, IsDone, IsPerformed, StoreState}
use Rattle.oai_host.specs.Tasks.{Task, asking, depositing, is_get, is_post, refusing, task_at, task_of}
use Rattle.oai_host.proofs.RunLemmas.{count_rises}

-- ---- how many

of_device : (fault : Option Fault) → is_of_device fault ≡ true → fault ≡ Some Device
of_device None is = cc
of_device (Some NoMemory) is = cc
of_device (Some TooManyPages) is = cc
of_device (Some Device) is = refl
of_device (Some Damaged) is = cc

-- where the count is below its last number, it rose
rose : (fault : Option Fault) (old new : ℕ) → is_of_device fault ≡ true → CountsFailures Device (failure fault) old new → new < MAX_FAILURES → old < new
rose fault old new is counted below =
    let device = subst (λ (f : Option Fault). CountsFailures Device (failure f) old new) (of_device fault is) counted in
    let count = counted.count in
    elim (device.device refl) [
      | inl more ↦ more
      | inr last ↦ absurd (omega (arith, last, count, below))
    ]

one_more : (answer : Answer) (answers : List Answer) (old mid new : ℕ) → CountsFailures Device (failure_in answer) old mid → mid ≤ new → new < MAX_FAILURES → length (filter tells_of_device answers) + mid ≤ new
    → length (filter tells_of_device (answer ∷ answers)) + old ≤ new
one_more answer answers old mid new counted later below others =
    let count = counted.count in
    elim (cases_Bool (tells_of_device answer)) [
      | inl is ↦
          let more = rose answer.fault old mid is counted (omega (arith, later, below)) in
          let all : length (filter tells_of_device (answer ∷ answers)) ≡ suc (length (filter tells_of_device answers)) =
          ap (λ (xs : List Answer). length xs) (cond-true (tells_of_device answer) (answer ∷ filter tells_of_device answers) (filter tells_of_device answers) is)
          in
          omega (arith, all, more, others)
      | inr not_so ↦
          let all : length (filter tells_of_device (answer ∷ answers)) ≡ length (filter tells_of_device answers) =
          ap (λ (xs : List Answer). length xs) (cond-false (tells_of_device answer) (answer ∷ filter tells_of_device answers) (filter tells_of_device answers) not_so)
          in
          omega (arith, all, count, others)
    ]

pub run_counted : (config : RepositoryConfig) (calls : List Call) (answers : List Answer) (before : RepoState) (old : StoreState) (after : RepoState) (new : StoreState)
    → IsRun config calls answers before old after new → new.failures < MAX_FAILURES → length (filter tells_of_device answers) + old.failures ≤ new.failures
run_counted config [] [] before old after new run below = let count = run.1.count in omega (arith, count)
run_counted config [] (a ∷ answers) before old after new run below = absurd run
run_counted config (c ∷ calls) [] before old after new run below = absurd run
run_counted config (c ∷ calls) (a ∷ answers) before old after new run below =
    let passed = run.3.count in
    let others = run_counted config calls answers run.1 run.2 after new run.5 below in
    let all = one_more a answers run.0.failures run.2.failures new.failures run.4.device (omega (arith, others)) below others in
    omega (arith, passed, all)

pub exchanged_counted : (calls : List Call) (answers : List Answer) (before after : HostState) → AreExchanged calls answers before after → after.failures < MAX_FAILURES
    → length (filter tells_of_device answers) + before.failures ≤ after.failures
exchanged_counted [] [] before after run below = omega (arith, ap (λ (h : HostState). h.failures) run)
exchanged_counted [] (a ∷ answers) before after run below = absurd run
exchanged_counted (c ∷ calls) [] before after run below = absurd run
exchanged_counted (c ∷ calls) (a ∷ answers) before after run below =
    one_more a answers before.failures run.0.failures after.failures run.1.device (count_rises calls answers run.0 after run.2) below (exchanged_counted calls answers run.0 after run.2 below)

-- ---- what is answered by 500

request_not_broken : (get post form : Bool) (arguments body : List ℕ)
    → cond get (asking arguments) (cond post (cond form (asking body) (refusing status.UnsupportedMediaType)) (refusing status.MethodNotAllowed)) ≡ refusing status.InternalServerError → ⊥
request_not_broken true post form arguments body is = cc
request_not_broken false true true arguments body is = cc
request_not_broken false true false arguments body is = cc
request_not_broken false false form arguments body is = cc

deposit_not_broken : (post : Bool) (lines : List (List ℕ)) → cond post (depositing lines) (refusing status.MethodNotAllowed) ≡ refusing status.InternalServerError → ⊥
deposit_not_broken true lines is = cc
deposit_not_broken false lines is = cc

refusal_not_broken : (rooted : Bool) → (answered (cond rooted status.NotFound status.BadRequest)).status ≡ status.InternalServerError → ⊥
refusal_not_broken true is = cc
refusal_not_broken false is = cc

nowhere_not_broken : (rooted : Bool) → refusing (cond rooted status.NotFound status.BadRequest) ≡ refusing status.InternalServerError → ⊥
nowhere_not_broken true is = cc
nowhere_not_broken false is = cc

task_not_broken : (endpoint : Option Endpoint) (call : Call) → task_at endpoint call ≡ refusing status.InternalServerError → ⊥
task_not_broken None call is = nowhere_not_broken (is_rooted call.target) is
task_not_broken (Some Requests) call is = request_not_broken (is_get call.method) (is_post call.method) (is_form call.content_type) (query_of call.target) call.body is
task_not_broken (Some Deposits) call is = deposit_not_broken (is_post call.method) (lines_in call.body) is

reply_not_broken : (seconds : Option ℤ) (answer : Answer) → MatchOption seconds (answer ≡ answered_with answer.body) (λ s. answer ≡ asked_to_wait s) → answer.status ≡ status.InternalServerError → ⊥
reply_not_broken None answer reply broken = let same : status.Ok ≡ status.InternalServerError = sym (ap (λ (a : Answer). a.status) reply) ∙ broken in cc
reply_not_broken (Some seconds) answer reply broken = let same : status.ServiceUnavailable ≡ status.InternalServerError = sym (ap (λ (a : Answer). a.status) reply) ∙ broken in cc

done_not_broken : (honest : Bool) (config : RepositoryConfig) (moment : ℤ) (task : Task) (before : RepoState) (answer : Answer) (after : RepoState) → (task ≡ refusing status.InternalServerError → ⊥)
    → IsDone honest config moment task before answer after → answer.status ≡ status.InternalServerError → ⊥
done_not_broken honest config moment (refusing why) before answer after never done is = never (ap refusing (sym (ap (λ (a : Answer). a.status) done.0) ∙ is))
done_not_broken honest config moment (asking arguments) before answer after never done is = reply_not_broken answer.seconds answer done.reply is
done_not_broken honest config moment (depositing lines) before answer after never done is =
    let same : status.Ok ≡ status.InternalServerError = sym (ap (λ (a : Answer). a.status) done.0) ∙ is in cc

module _ (was is : Bool) (honest : IsTrue was) where
  failed_broken : (fault : Fault) (lines : Option ℕ) → IsHonest (failure_in (failed fault lines)) was is → (failed fault lines).status ≡ status.InternalServerError
      → tells_of_device (failed fault lines) ≡ true
  failed_broken NoMemory lines honesty broken = cc
  failed_broken TooManyPages lines honesty broken = cc
  failed_broken Device lines honesty broken = refl
  failed_broken Damaged lines honesty broken = clash was honest (honesty.damaged refl)

  so_failed : (fault : Fault) (lines : Option ℕ) (answer : Answer) → answer ≡ failed fault lines → IsHonest (failure_in answer) was is → answer.status ≡ status.InternalServerError
      → tells_of_device answer ≡ true
  so_failed fault lines answer told honesty broken =
      ap tells_of_device told
      ∙ failed_broken fault lines (subst (λ (a : Answer). IsHonest (failure_in a) was is) told honesty) (sym (ap (λ (a : Answer). a.status) told) ∙ broken)

  stopped_broken : (config : RepositoryConfig) (moment : ℤ) (task : Task) (fault : Fault) (before : RepoState) (answer : Answer) (after : RepoState) → HasStopped was config moment task fault before answer after
      → IsHonest (failure_in answer) was is → answer.status ≡ status.InternalServerError → tells_of_device answer ≡ true
  stopped_broken config moment (refusing why) fault before answer after stopped honesty broken = absurd stopped
  stopped_broken config moment (asking arguments) fault before answer after stopped honesty broken = so_failed fault None answer stopped.0 honesty broken
  stopped_broken config moment (depositing lines) fault before answer after stopped honesty broken = so_failed fault (Some stopped.0) answer stopped.2 honesty broken

performed_broken : (config : RepositoryConfig) (call : Call) (answer : Answer) (before : RepoState) (old : StoreState) (after : RepoState) (new : StoreState) → IsTrue old.honest
    → IsPerformed config call.moment (task_of call) answer before old after new → answer.status ≡ status.InternalServerError → tells_of_device answer ≡ true
performed_broken config call answer before old after new honest performed broken = elim performed.ended [
  | inl done ↦ absurd (done_not_broken old.honest config call.moment (task_of call) before answer after (task_not_broken (endpoint_of call.target) call) done broken)
  | inr stopped ↦ stopped_broken old.honest new.honest honest config call.moment (task_of call) stopped.0 before answer after stopped.1 performed.honesty broken
]

-- an exchange is a repository's, or of none
steps_broken : (call : Call) (answer : Answer) (old new : StoreState) (before after : List Repository) → IsTrue old.honest → AreSteps call answer old new before after
    → answer.status ≡ status.InternalServerError → (tells_of_device answer ≡ true) ⊎ (is_of_none before call ≡ true)
steps_broken call answer old new [] after honest steps broken = inr refl
steps_broken call answer old new (x ∷ before) [] honest steps broken = absurd steps
steps_broken call answer old new (x ∷ before) (y ∷ after) honest steps broken = elim (cases_Bool (leads_to_repository x.name call.target)) [
  | inl own ↦ inl (performed_broken x.config call answer x.state old y.state new honest (steps.0.own own) broken)
  | inr other ↦
      elim (steps_broken call answer old new before after honest steps.1 broken) [
        | inl tells ↦ inl tells
        | inr none ↦ inr (and_from (not (leads_to_repository x.name call.target)) (is_of_none before call) (not_from_false (leads_to_repository x.name call.target) other) none)
      ]
]

one_broken : (call : Call) (answer : Answer) (before after : HostState) → IsTrue before.honest → IsExchanged call answer before after → answer.status ≡ status.InternalServerError → tells_of_device answer ≡ true
one_broken call answer before after honest exchanged broken =
    elim (steps_broken call answer (store_of before) (store_of after) before.repositories after.repositories honest exchanged.each broken) [
      | inl tells ↦ tells
      | inr none ↦ absurd (refusal_not_broken (is_rooted call.target) (sym (ap (λ (a : Answer). a.status) (exchanged.none none).0) ∙ broken))
    ]

pub exchanged_broken : (calls : List Call) (answers : List Answer) (before after : HostState) → IsTrue before.honest → AreExchanged calls answers before after
    → AllByRecursion (λ (answer : Answer). answer.status ≡ status.InternalServerError → tells_of_device answer ≡ true) answers
exchanged_broken [] [] before after honest run = tt
exchanged_broken [] (a ∷ answers) before after honest run = absurd run
exchanged_broken (c ∷ calls) [] before after honest run = absurd run
exchanged_broken (c ∷ calls) (a ∷ answers) before after honest run =
    (one_broken c a before run.0 honest run.1, exchanged_broken calls answers run.0 after (subst (λ (b : Bool). IsTrue b) (sym run.1.honesty.same) honest) run.2)
