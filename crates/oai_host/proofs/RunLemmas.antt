-- Exchanges one after the other: what they do to each repository, and that it is what they would do to it alone.
use Rattle.std.proofs.Common.{◌≡◌, ◌∙◌, ◌<◌, ◌≤◌, inl, inr, ℕ, ℤ, zero, suc, Bool, true, false, IsTrue, not, ◌&&◌, List, [], ◌∷◌, ◌++◌, length, take, map, get_or, filter, Option, None, Some, is_none, refl, sym, ap, subst, arith}
use Rattle.std.specs.List.{AllZip, zip}
use Rattle.std.proofs.lemmas.List.{take_all}
use Rattle.std.proofs.lemmas.Bool.{and_parts, cases_Bool, cond-true, cond-false}
use Rattle.oai_item.specs.declared.faults.Fault.{Fault}
use Rattle.oai_item.specs.declared.faults.Fault.TheVariants.{Damaged, Device, NoMemory, TooManyPages}
use Rattle.oai_settings.specs.Config.{RepositoryConfig}
use Rattle.oai_repo.specs.State.{RepoState}
use Rattle.oai_http.specs.Answers.{answered_with, failed}
use Rattle.oai_http.specs.Targets.{leads_to_repository}
use Rattle.oai_http.specs.declared.exchanges.Answer.{Answer}
use Rattle.oai_http.specs.declared.exchanges.Call.{Call}
use Rattle.oai_http.proofs.TargetLemmas.{clash}
use Rattle.oai_host.specs.Alone.{answers_alone, done_alone, own_answers, own_calls}
use Rattle.oai_host.specs.Answers.{AreCounted, AreHonest, failure_in}
use Rattle.oai_host.specs.Hosts.{AreAloneUnlessFailed, AreAnswered, AreExchanged, AreRefused, AreSteps, HostState, IsExchanged, IsOwnRun, IsLater, IsRun, IsStep, Repository, is_of_none, none_failed, store_of}
use Rattle.oai_host.specs.Performed.{HasStopped, IsDone, StoreState}
use Rattle.oai_host.specs.Tasks.{Task, asking, depositing, refusing, task_of}
use Rattle.oai_host.proofs.DepositLemmas.{lines_exact}
use Rattle.oai_host.proofs.FaultLemmas.{all_counted_since, all_honest_since, counted_on, honest_on}

-- ---- the store

passed_self : (store : StoreState) → IsLater store store
passed_self store = record { honesty = refl; count = omega arith }

passed_twice : (old mid new : StoreState) → IsLater old mid → IsLater mid new → IsLater old new
passed_twice old mid new first second = record { honesty = second.honesty ∙ first.honesty; count = omega (arith, first.count, second.count) }

passed_by : (call : Call) (answer : Answer) (before after : HostState) → IsExchanged call answer before after → IsLater (store_of before) (store_of after)
passed_by call answer before after exchanged = record { honesty = exchanged.honesty.same; count = exchanged.device.count }

-- exchanges of others came before
run_before : (config : RepositoryConfig) (calls : List Call) (answers : List Answer) (before : RepoState) (old mid : StoreState) (after : RepoState) (new : StoreState) → IsLater old mid
    → IsRun config calls answers before mid after new → IsRun config calls answers before old after new
run_before config [] [] before old mid after new passed run = (run.0, passed_twice old mid new passed run.1)
run_before config [] (a ∷ answers) before old mid after new passed run = absurd run
run_before config (c ∷ calls) [] before old mid after new passed run = absurd run
run_before config (c ∷ calls) (a ∷ answers) before old mid after new passed run = (run.0, run.1, run.2, passed_twice old mid run.0 passed run.3, run.4, run.5)

-- ---- what is a repository's own

own_call : (name : List ℕ) (call : Call) (calls : List Call) → leads_to_repository name call.target ≡ true → own_calls name (call ∷ calls) ≡ call ∷ own_calls name calls
own_call name call calls own = cond-true (leads_to_repository name call.target) (call ∷ own_calls name calls) (own_calls name calls) own

other_call : (name : List ℕ) (call : Call) (calls : List Call) → leads_to_repository name call.target ≡ false → own_calls name (call ∷ calls) ≡ own_calls name calls
other_call name call calls other = cond-false (leads_to_repository name call.target) (call ∷ own_calls name calls) (own_calls name calls) other

own_answer : (name : List ℕ) (call : Call) (calls : List Call) (answer : Answer) (answers : List Answer) → leads_to_repository name call.target ≡ true
    → own_answers name (call ∷ calls) (answer ∷ answers) ≡ answer ∷ own_answers name calls answers
own_answer name call calls answer answers own =
    let others = filter (λ (p : Call × Answer). leads_to_repository name p.0.target) (zip calls answers) in
    ap (map (λ (p : Call × Answer). p.1)) (cond-true (leads_to_repository name call.target) ((call, answer) ∷ others) others own)

other_answer : (name : List ℕ) (call : Call) (calls : List Call) (answer : Answer) (answers : List Answer) → leads_to_repository name call.target ≡ false
    → own_answers name (call ∷ calls) (answer ∷ answers) ≡ own_answers name calls answers
other_answer name call calls answer answers other =
    let others = filter (λ (p : Call × Answer). leads_to_repository name p.0.target) (zip calls answers) in
    ap (map (λ (p : Call × Answer). p.1)) (cond-false (leads_to_repository name call.target) ((call, answer) ∷ others) others other)

-- ---- one exchange and others

-- a run, written otherwise
same_run : (config : RepositoryConfig) (calls more : List Call) (answers others : List Answer) (before : RepoState) (old : StoreState) (after : RepoState) (new : StoreState) → more ≡ calls → others ≡ answers
    → IsRun config calls answers before old after new → IsRun config more others before old after new
same_run config calls more answers others before old after new e f run =
    subst (λ (cs : List Call). IsRun config cs others before old after new) (sym e) (subst (λ (xs : List Answer). IsRun config calls xs before old after new) (sym f) run)

module _ (call : Call) (answer : Answer) (calls : List Call) (answers : List Answer) (old mid new : StoreState) (passed : IsLater old mid) where
  own_run : (before between after : Repository) → IsStep call answer old mid before between → IsOwnRun calls answers mid new between after → IsOwnRun (call ∷ calls) (answer ∷ answers) old new before after
  own_run before between after step others = record {
    name = others.name ∙ step.name;
    config = others.config ∙ step.config;
    run =
        let named = subst (λ (name : List ℕ). IsRun between.config (own_calls name calls) (own_answers name calls answers) between.state mid after.state new) step.name others.run in
        let rest = subst (λ (config : RepositoryConfig). IsRun config (own_calls before.name calls) (own_answers before.name calls answers) between.state mid after.state new) step.config named in
        elim (cases_Bool (leads_to_repository before.name call.target)) [
          | inl own ↦
              same_run before.config (call ∷ own_calls before.name calls) (own_calls before.name (call ∷ calls)) (answer ∷ own_answers before.name calls answers) (own_answers before.name (call ∷ calls) (answer ∷ answers))
              before.state old after.state new (own_call before.name call calls own) (own_answer before.name call calls answer answers own)
              (old, between.state, mid, passed_self old, step.own own, rest)
          | inr other ↦
              same_run before.config (own_calls before.name calls) (own_calls before.name (call ∷ calls)) (own_answers before.name calls answers) (own_answers before.name (call ∷ calls) (answer ∷ answers))
              before.state old after.state new (other_call before.name call calls other) (other_answer before.name call calls answer answers other)
              (run_before before.config (own_calls before.name calls) (own_answers before.name calls answers) before.state old mid after.state new passed
              (subst (λ (s : RepoState). IsRun before.config (own_calls before.name calls) (own_answers before.name calls answers) s mid after.state new) (step.other other) rest))
        ];
  }

  each_run : (before between after : List Repository) → AreSteps call answer old mid before between → AllZip (IsOwnRun calls answers mid new) between after
      → AllZip (IsOwnRun (call ∷ calls) (answer ∷ answers) old new) before after
  each_run [] [] [] steps runs = tt
  each_run [] [] (z ∷ after) steps runs = absurd runs
  each_run [] (y ∷ between) after steps runs = absurd steps
  each_run (x ∷ before) [] after steps runs = absurd steps
  each_run (x ∷ before) (y ∷ between) [] steps runs = absurd runs
  each_run (x ∷ before) (y ∷ between) (z ∷ after) steps runs = (own_run x y z steps.0 runs.0, each_run before between after steps.1 runs.1)

-- the names stay
none_same : (call : Call) (answer : Answer) (old mid : StoreState) (before between : List Repository) → AreSteps call answer old mid before between → (other : Call) → is_of_none between other ≡ is_of_none before other
none_same call answer old mid [] [] steps other = refl
none_same call answer old mid [] (y ∷ between) steps other = absurd steps
none_same call answer old mid (x ∷ before) [] steps other = absurd steps
none_same call answer old mid (x ∷ before) (y ∷ between) steps other =
    ap (λ (name : List ℕ). not (leads_to_repository name other.target) && is_of_none between other) steps.0.name
    ∙ ap (λ (b : Bool). not (leads_to_repository x.name other.target) && b) (none_same call answer old mid before between steps.1 other)

refused_same : (before between : List Repository) (calls : List Call) (answers : List Answer) → ((call : Call) → is_of_none between call ≡ is_of_none before call) → AreRefused between calls answers
    → AreRefused before calls answers
refused_same before between [] [] same all = tt
refused_same before between [] (a ∷ answers) same all = absurd all
refused_same before between (c ∷ calls) [] same all = absurd all
refused_same before between (c ∷ calls) (a ∷ answers) same all = ((λ none. all.0 (same c ∙ none)), refused_same before between calls answers same all.1)

none_yet : (store : StoreState) (repositories : List Repository) → AllZip (IsOwnRun [] [] store store) repositories repositories
none_yet store [] = tt
none_yet store (x ∷ repositories) = (record { name = refl; config = refl; run = (refl, passed_self store) }, none_yet store repositories)

-- what is exchanged with the host is a run at each repository
pub all_answered : (calls : List Call) (answers : List Answer) (before after : HostState) → AreExchanged calls answers before after → AreAnswered calls answers before after
all_answered [] [] before after run = subst (λ (h : HostState). AreAnswered [] [] before h) (sym run) (record { each = none_yet (store_of before) before.repositories; none = tt })
all_answered [] (a ∷ answers) before after run = absurd run
all_answered (c ∷ calls) [] before after run = absurd run
all_answered (c ∷ calls) (a ∷ answers) before after run =
    let others = all_answered calls answers run.0 after run.2 in
    let steps = run.1.each in record {
      each =
          each_run c a calls answers (store_of before) (store_of run.0) (store_of after) (passed_by c a before run.0 run.1) before.repositories run.0.repositories after.repositories steps others.each;
      none = (
        (λ none. (run.1.none none).0),
        refused_same before.repositories run.0.repositories calls answers (none_same c a (store_of before) (store_of run.0) before.repositories run.0.repositories steps) others.none,
      );
    }

pub exchanged_last : (calls : List Call) (answers : List Answer) (call : Call) (answer : Answer) (before between after : HostState) → AreExchanged calls answers before between
    → IsExchanged call answer between after → AreExchanged (calls ++ call ∷ []) (answers ++ answer ∷ []) before after
exchanged_last [] [] call answer before between after run last = (after, subst (λ (h : HostState). IsExchanged call answer h after) run last, refl)
exchanged_last [] (a ∷ answers) call answer before between after run last = absurd run
exchanged_last (c ∷ calls) [] call answer before between after run last = absurd run
exchanged_last (c ∷ calls) (a ∷ answers) call answer before between after run last =
    (run.0, run.1, exchanged_last calls answers call answer run.0 between after run.2 last)

-- ---- what a run leaves of the store

pub honesty_stays : (calls : List Call) (answers : List Answer) (old new : HostState) → AreExchanged calls answers old new → new.honest ≡ old.honest
honesty_stays [] [] old new run = ap (λ (h : HostState). h.honest) run
honesty_stays [] (a ∷ answers) old new run = absurd run
honesty_stays (c ∷ calls) [] old new run = absurd run
honesty_stays (c ∷ calls) (a ∷ answers) old new run = honesty_stays calls answers run.0 new run.2 ∙ run.1.honesty.same

pub count_rises : (calls : List Call) (answers : List Answer) (old new : HostState) → AreExchanged calls answers old new → old.failures ≤ new.failures
count_rises [] [] old new run = omega (arith, ap (λ (h : HostState). h.failures) run)
count_rises [] (a ∷ answers) old new run = absurd run
count_rises (c ∷ calls) [] old new run = absurd run
count_rises (c ∷ calls) (a ∷ answers) old new run = omega (arith, count_rises calls answers run.0 new run.2, run.1.device.count)

-- each fault has its cause
pub all_counted : (calls : List Call) (answers : List Answer) (old new : HostState) → AreExchanged calls answers old new → AreCounted answers old.failures new.failures
all_counted [] [] old new run = tt
all_counted [] (a ∷ answers) old new run = absurd run
all_counted (c ∷ calls) [] old new run = absurd run
all_counted (c ∷ calls) (a ∷ answers) old new run = (
  counted_on (failure_in a) old.failures run.0.failures new.failures run.1.device (count_rises calls answers run.0 new run.2),
  all_counted_since answers old.failures run.0.failures new.failures run.1.device.count (all_counted calls answers run.0 new run.2),
)

pub all_honest : (calls : List Call) (answers : List Answer) (old new : HostState) → AreExchanged calls answers old new → AreHonest answers old.honest new.honest
all_honest [] [] old new run = tt
all_honest [] (a ∷ answers) old new run = absurd run
all_honest (c ∷ calls) [] old new run = absurd run
all_honest (c ∷ calls) (a ∷ answers) old new run = (
  honest_on (failure_in a) old.honest run.0.honest new.honest run.1.honesty (honesty_stays calls answers run.0 new run.2),
  all_honest_since answers old.honest run.0.honest new.honest run.1.honesty.same (all_honest calls answers run.0 new run.2),
)

-- ---- without failures

failed_fault : (fault : Fault) (lines : Option ℕ) → is_none (failed fault lines).fault ≡ false
failed_fault NoMemory lines = refl
failed_fault TooManyPages lines = refl
failed_fault Device lines = refl
failed_fault Damaged lines = refl

stopped_told : (honest : Bool) (config : RepositoryConfig) (moment : ℤ) (task : Task) (fault : Fault) (before : RepoState) (answer : Answer) (after : RepoState) → HasStopped honest config moment task fault before answer after
    → is_none answer.fault ≡ false
stopped_told honest config moment (refusing status) fault before answer after stopped = absurd stopped
stopped_told honest config moment (asking arguments) fault before answer after stopped = ap (λ (a : Answer). is_none a.fault) stopped.0 ∙ failed_fault fault None
stopped_told honest config moment (depositing lines) fault before answer after stopped = ap (λ (a : Answer). is_none a.fault) stopped.2 ∙ failed_fault fault (Some stopped.0)

-- what was done over an honest store is what the machine does
pub done_exact : (honest : Bool) (config : RepositoryConfig) (moment : ℤ) (task : Task) (before : RepoState) (answer : Answer) (after : RepoState) → IsTrue honest → IsDone honest config moment task before answer after
    → done_alone config before moment task ≡ (answer, after)
done_exact honest config moment (refusing status) before answer after so done = ap (λ (a : Answer). (a, before)) (sym done.0) ∙ ap (λ (s : RepoState). (answer, s)) (sym done.1)
done_exact honest config moment (asking arguments) before answer after so done = done.exact so
done_exact honest config moment (depositing lines) before answer after so done =
    ap (λ (p : List ℕ × RepoState). (answered_with p.0, p.1)) (lines_exact honest config moment lines before answer.body after so done.1) ∙ ap (λ (a : Answer). (a, after)) (sym done.0)

-- a run without failures over an honest store is what the repository alone answers
pub alone_from : (config : RepositoryConfig) (calls : List Call) (answers : List Answer) (before : RepoState) (old : StoreState) (after : RepoState) (new : StoreState) → IsTrue old.honest
    → IsRun config calls answers before old after new → none_failed answers ≡ true → answers ≡ answers_alone config before calls
alone_from config [] [] before old after new honest run none = refl
alone_from config [] (answer ∷ answers) before old after new honest run none = absurd run
alone_from config (call ∷ calls) [] before old after new honest run none = absurd run
alone_from config (call ∷ calls) (answer ∷ answers) before old after new honest run none =
    let parts = and_parts (is_none answer.fault) (none_failed answers) none in
    let first = subst (λ (b : Bool). IsTrue b) (sym run.3.honesty) honest in
    let next = subst (λ (b : Bool). IsTrue b) (sym run.4.honesty.same) first in
    elim run.4.ended [
      | inl done ↦
          ap (λ (xs : List Answer). answer ∷ xs) (alone_from config calls answers run.1 run.2 after new next run.5 parts.1)
          ∙ ap (λ (p : Answer × RepoState). p.0 ∷ answers_alone config p.1 calls) (sym (done_exact run.0.honest config call.moment (task_of call) before answer run.1 first done))
      | inr stopped ↦ clash (is_none answer.fault) parts.0 (stopped_told run.0.honest config call.moment (task_of call) stopped.0 before answer run.1 stopped.1)
    ]

each_alone : (calls : List Call) (answers : List Answer) (old new : StoreState) (before after : List Repository) → IsTrue old.honest → AllZip (IsOwnRun calls answers old new) before after
    → AreAloneUnlessFailed calls answers before
each_alone calls answers old new [] after honest runs = tt
each_alone calls answers old new (x ∷ before) [] honest runs = absurd runs
each_alone calls answers old new (x ∷ before) (y ∷ after) honest runs = (
  alone_from x.config (own_calls x.name calls) (own_answers x.name calls answers) x.state old y.state new honest runs.0.run,
  each_alone calls answers old new before after honest runs.1,
)

pub all_alone : (calls : List Call) (answers : List Answer) (before after : HostState) → IsTrue before.honest → AreAnswered calls answers before after → AreAloneUnlessFailed calls answers before.repositories
all_alone calls answers before after honest answered = each_alone calls answers (store_of before) (store_of after) before.repositories after.repositories honest answered.each

-- ---- the calls so far

pub take_more : (calls : List Call) (i : ℕ) (d : Call) → i < length calls → take (suc i) calls ≡ take i calls ++ get_or calls i d ∷ []
take_more [] i d within = absurd (omega (arith, within))
take_more (c ∷ calls) zero d within = refl
take_more (c ∷ calls) (suc i) d within = ap (λ (cs : List Call). c ∷ cs) (take_more calls i d (omega (arith, within)))

pub one_longer : (answers : List Answer) (answer : Answer) (n : ℕ) → length answers ≡ n → length (answers ++ answer ∷ []) ≡ suc n
one_longer [] answer n h = ap suc h
one_longer (a ∷ answers) answer zero h = absurd (omega (arith, h))
one_longer (a ∷ answers) answer (suc n) h = ap suc (one_longer answers answer n (omega (arith, h)))

pub take_whole : (calls : List Call) (n : ℕ) → length calls ≤ n → take n calls ≡ calls
take_whole calls n h = take_all n calls h
