-- Exchanges that are performed as far as memory and devices allow: each is given what the machine gives, and leaves what was performed of it.
use Rattle.std.proofs.Common.{◌≡◌, ◌∙◌, inl, inr, ℕ, Bool, true, false, ◌&&◌, IsTrue, List, [], ◌∷◌, ◌++◌, take, Option, None, Some, is_none, unwrap_or, refl, sym, ap, subst}
use Rattle.std.specs.List.{AllByRecursion}
use Rattle.std.proofs.lemmas.Bool.{cond-true, cond-false}
use Rattle.oai_item.specs.declared.faults.Fault.{Fault}
use Rattle.oai_settings.specs.Config.{RepositoryConfig}
use Rattle.oai_repo.specs.State.{RepoState}
use Rattle.oai_laws.specs.Runs.{IsPart}
use Rattle.oai_http.specs.declared.exchanges.Answer.{Answer}
use Rattle.oai_http.specs.declared.exchanges.Call.{Call}
use Rattle.oai_host.specs.Alone.{done_alone, exchanged_alone}
use Rattle.oai_host.specs.Hosts.{IsRun}
use Rattle.oai_host.specs.Performed.{HasStopped, IsPerformed, StoreState}
use Rattle.oai_host.specs.Tasks.{Task, asking, depositing, refusing, task_of}
use Rattle.oai_host.proofs.DepositLemmas.{lines_exact}
use Rattle.oai_host.proofs.RedoLemmas.{alone_whole, failed_done, failed_fault}
use Rattle.oai_host.proofs.RunLemmas.{done_exact}
use Rattle.oai_headline.specs.Throughout.{IsFailure, IsTrueVisit, IsTrueBy, is_asked, is_done_whole, left_by, calls_done, calls_done_in, calls_done_by, visits_given, whole_visits, with_lines}
use Rattle.oai_headline.specs.Visits.{Visit, visit_in, visits}
use Rattle.oai_headline.proofs.CutLemmas.{cut_task}
use Rattle.oai_headline.proofs.TakenLemmas.{IsAsking}

-- ---- what calls leave

left_both : (config : RepositoryConfig) (state : RepoState) (calls others : List Call) → left_by config state (calls ++ others) ≡ left_by config (left_by config state calls) others
left_both config state [] others = refl
left_both config state (call ∷ calls) others = left_both config (exchanged_alone config state call).1 calls others

-- ---- one exchange

-- what is known of an exchange once it was made
pub record IsMet (config : RepositoryConfig) (call : Call) (before : RepoState) (answer : Answer) (after : RepoState) : Type 0 where
  pub given : IsTrueVisit config (record { call = call; before = before; answer = answer })
  pub left : after ≡ left_by config before (calls_done_by call answer)

module _ (config : RepositoryConfig) (call : Call) (before : RepoState) (answer : Answer) (after : RepoState) where
  -- it was done
  met_done : (task : Task) → task_of call ≡ task → done_alone config before call.moment task ≡ (answer, after) → IsMet config call before answer after
  met_done task is done =
      let exchanged : exchanged_alone config before call ≡ (answer, after) = ap (done_alone config before call.moment) is ∙ done in
      let same : answer ≡ (exchanged_alone config before call).0 = sym (ap (λ (p : Answer × RepoState). p.0) exchanged) in
      let fault : answer.fault ≡ None = ap (λ (a : Answer). a.fault) same ∙ alone_whole config before call.moment (task_of call) in
      record {
        given = subst (λ (f : Option Fault). IsTrueBy config (record { call = call; before = before; answer = answer }) f) (sym fault) same;
        left = ap (λ (p : Answer × RepoState). p.1) (sym exchanged) ∙ left_whole task is (ap is_none fault);
      }
    where
      left_whole : (task : Task) → task_of call ≡ task → is_none answer.fault ≡ true → (exchanged_alone config before call).1 ≡ left_by config before (calls_done_by call answer)
      left_whole (refusing status) is none =
          ap (λ (t : Task). (done_alone config before call.moment t).1) is ∙ sym (ap (λ (t : Task). left_by config before (calls_done_in call answer t)) is)
      left_whole (asking arguments) is none =
          sym (ap (λ (t : Task). left_by config before (calls_done_in call answer t)) is ∙ ap (left_by config before) (cond-true (is_none answer.fault) (call ∷ []) [] none))
      left_whole (depositing lines) is none =
          sym (ap (λ (t : Task). left_by config before (calls_done_in call answer t)) is
          ∙ ap (left_by config before) (cond-true (is_none answer.fault) (call ∷ []) (with_lines call (take (unwrap_or answer.done 0) lines) ∷ []) none))

  -- a fault ended it
  met_stopped : (honest : Bool) (fault : Fault) (task : Task) → IsTrue honest → task_of call ≡ task → HasStopped honest config call.moment task fault before answer after → IsMet config call before answer after
  met_stopped honest fault (refusing status) so is stopped = absurd stopped
  met_stopped honest fault (asking arguments) so is stopped =
      let told : answer.fault ≡ Some fault = ap (λ (a : Answer). a.fault) stopped.0 ∙ failed_fault fault None in
      record {
        given =
            subst (λ (f : Option Fault). IsTrueBy config (record { call = call; before = before; answer = answer }) f) (sym told)
            (subst (λ (t : Task). IsFailure fault t answer) (sym is) stopped.0);
        left = stopped.1 ∙ sym (ap (λ (t : Task). left_by config before (calls_done_in call answer t)) is ∙ ap (left_by config before) (cond-false (is_none answer.fault) (call ∷ []) [] (ap is_none told)));
      }
  met_stopped honest fault (depositing lines) so is stopped =
      let told : answer.fault ≡ Some fault = ap (λ (a : Answer). a.fault) stopped.2 ∙ failed_fault fault (Some stopped.0) in
      let done : answer.done ≡ Some stopped.0 = ap (λ (a : Answer). a.done) stopped.2 ∙ failed_done fault (Some stopped.0) in
      let front : List (List ℕ) = take stopped.0 lines in
      let cut : List (List ℕ) → List Call = λ ls. with_lines call ls ∷ [] in
      record {
        given =
            subst (λ (f : Option Fault). IsTrueBy config (record { call = call; before = before; answer = answer }) f) (sym told)
            (subst (λ (t : Task). IsFailure fault t answer) (sym is) (stopped.0, stopped.1, stopped.2));
        left =
            ap (λ (p : List ℕ × RepoState). p.1) (sym (lines_exact honest config call.moment front before stopped.3 after so stopped.4))
            ∙ sym (ap (λ (t : Task). left_by config before (calls_done_in call answer t)) is
            ∙ ap (left_by config before) (cond-false (is_none answer.fault) (call ∷ []) (cut (take (unwrap_or answer.done 0) lines)) (ap is_none told))
            ∙ ap (λ (n : Option ℕ). left_by config before (cut (take (unwrap_or n 0) lines))) done
            ∙ ap (λ (t : Task). (done_alone config before call.moment t).1) (cut_task call lines stopped.0 is));
      }

met : (config : RepositoryConfig) (call : Call) (answer : Answer) (before : RepoState) (old : StoreState) (after : RepoState) (new : StoreState) → IsTrue old.honest
    → IsPerformed config call.moment (task_of call) answer before old after new → IsMet config call before answer after
met config call answer before old after new honest performed = elim performed.ended [
  | inl done ↦ met_done config call before answer after (task_of call) refl (done_exact old.honest config call.moment (task_of call) before answer after honest done)
  | inr stopped ↦ met_stopped config call before answer after old.honest stopped.0 (task_of call) honest refl stopped.1
]

-- ---- one after the other

-- what is known of them
pub record AreMet (config : RepositoryConfig) (calls : List Call) (answers : List Answer) (before after : RepoState) : Type 0 where
  pub given : AllByRecursion (IsTrueVisit config) (visits_given config before calls answers)
  pub left : after ≡ left_by config before (calls_done calls answers)

pub all_met : (config : RepositoryConfig) (calls : List Call) (answers : List Answer) (before : RepoState) (old : StoreState) (after : RepoState) (new : StoreState) → IsTrue old.honest
    → IsRun config calls answers before old after new → AreMet config calls answers before after
all_met config [] [] before old after new honest run = record { given = tt; left = run.0 }
all_met config [] (answer ∷ answers) before old after new honest run = absurd run
all_met config (call ∷ calls) [] before old after new honest run = absurd run
all_met config (call ∷ calls) (answer ∷ answers) before old after new honest run =
    let first = subst (λ (b : Bool). IsTrue b) (sym run.3.honesty) honest in
    let next = subst (λ (b : Bool). IsTrue b) (sym run.4.honesty.same) first in
    let one = met config call answer before run.0 run.1 run.2 first run.4 in
    let others = all_met config calls answers run.1 run.2 after new next run.5 in
    record {
      given = (one.given, subst (λ (s : RepoState). AllByRecursion (IsTrueVisit config) (visits_given config s calls answers)) one.left others.given);
      left =
          others.left
          ∙ ap (λ (s : RepoState). left_by config s (calls_done calls answers)) one.left
          ∙ sym (left_both config before (calls_done_by call answer) (calls_done calls answers));
    }

-- ---- those that were done whole

-- a visit that was done whole is the machine's, in the state that it comes upon; any other is none of them
pub whole_among : (config : RepositoryConfig) (state : RepoState) (calls : List Call) (answers : List Answer) → AllByRecursion (IsTrueVisit config) (visits_given config state calls answers)
    → IsPart (whole_visits (visits_given config state calls answers)) (visits config state (calls_done calls answers))
whole_among config state [] answers given = refl
whole_among config state (call ∷ calls) [] given = refl
whole_among config state (call ∷ calls) (answer ∷ answers) given =
    one (task_of call) answer.fault refl refl (whole_among config (left_by config state (calls_done_by call answer)) calls answers given.1)
  where
    visit : Visit
    visit = record { call = call; before = state; answer = answer }

    others : List Visit
    others = whole_visits (visits_given config (left_by config state (calls_done_by call answer)) calls answers)

    -- what was performed of it comes first
    behind : List Call → List Visit
    behind first = visits config state (first ++ calls_done calls answers)

    skipped : is_done_whole visit ≡ false → IsPart others (behind (calls_done_by call answer)) → IsPart (whole_visits (visit ∷ visits_given config (left_by config state (calls_done_by call answer)) calls answers)) (behind (calls_done_by call answer))
    skipped not_so part = subst (λ (some : List Visit). IsPart some (behind (calls_done_by call answer))) (sym (cond-false (is_done_whole visit) (visit ∷ others) others not_so)) part

    kept : is_done_whole visit ≡ true → calls_done_by call answer ≡ call ∷ [] → visit ≡ visit_in config state call
        → IsPart others (visits config (left_by config state (calls_done_by call answer)) (calls_done calls answers))
        → IsPart (whole_visits (visit ∷ visits_given config (left_by config state (calls_done_by call answer)) calls answers)) (behind (calls_done_by call answer))
    kept so first same part =
        let with_one : List Visit = visit_in config state call ∷ visits config (exchanged_alone config state call).1 (calls_done calls answers) in
        let here : IsPart others (visits config (exchanged_alone config state call).1 (calls_done calls answers)) =
        subst (λ (cs : List Call). IsPart others (visits config (left_by config state cs) (calls_done calls answers))) first part
        in
        let both : IsPart (visit ∷ others) with_one = inr (others, ap (λ (v : Visit). v ∷ others) same, here) in
        subst (λ (some : List Visit). IsPart some (behind (calls_done_by call answer))) (sym (cond-true (is_done_whole visit) (visit ∷ others) others so))
        (subst (λ (cs : List Call). IsPart (visit ∷ others) (behind cs)) (sym first) both)

    -- nothing was performed of it
    passed : calls_done_by call answer ≡ [] → is_done_whole visit ≡ false → IsPart others (visits config (left_by config state (calls_done_by call answer)) (calls_done calls answers))
        → IsPart (whole_visits (visit ∷ visits_given config (left_by config state (calls_done_by call answer)) calls answers)) (behind (calls_done_by call answer))
    passed first not_so part =
        let here : IsPart others (visits config state (calls_done calls answers)) =
        subst (λ (cs : List Call). IsPart others (visits config (left_by config state cs) (calls_done calls answers))) first part
        in
        skipped not_so (subst (λ (cs : List Call). IsPart others (behind cs)) (sym first) here)

    -- another call was performed in its place
    cut : (other : Call) → calls_done_by call answer ≡ other ∷ [] → is_done_whole visit ≡ false → IsPart others (visits config (left_by config state (calls_done_by call answer)) (calls_done calls answers))
        → IsPart (whole_visits (visit ∷ visits_given config (left_by config state (calls_done_by call answer)) calls answers)) (behind (calls_done_by call answer))
    cut other first not_so part =
        let here : IsPart others (visits config (exchanged_alone config state other).1 (calls_done calls answers)) =
        subst (λ (cs : List Call). IsPart others (visits config (left_by config state cs) (calls_done calls answers))) first part
        in
        skipped not_so (subst (λ (cs : List Call). IsPart others (behind cs)) (sym first) (inl here))

    whole_is : (task : Task) (fault : Option Fault) → task_of call ≡ task → answer.fault ≡ fault → is_done_whole visit ≡ (is_none fault && is_asked task)
    whole_is task fault is told = ap (λ (f : Option Fault). is_none f && is_asked (task_of call)) told ∙ ap (λ (t : Task). is_none fault && is_asked t) is

    first_is : (task : Task) → task_of call ≡ task → calls_done_by call answer ≡ calls_done_in call answer task
    first_is task is = ap (calls_done_in call answer) is

    its : answer.fault ≡ None → visit ≡ visit_in config state call
    its told =
        ap (λ (a : Answer). record { call = call; before = state; answer = a })
        (subst (λ (f : Option Fault). IsTrueBy config visit f) told given.0)

    one : (task : Task) (fault : Option Fault) → task_of call ≡ task → answer.fault ≡ fault
        → IsPart others (visits config (left_by config state (calls_done_by call answer)) (calls_done calls answers))
        → IsPart (whole_visits (visit ∷ visits_given config (left_by config state (calls_done_by call answer)) calls answers)) (behind (calls_done_by call answer))
    one (refusing status) None is told part = passed (first_is (refusing status) is) (whole_is (refusing status) None is told) part
    one (refusing status) (Some fault) is told part = passed (first_is (refusing status) is) (whole_is (refusing status) (Some fault) is told) part
    one (asking arguments) None is told part =
        kept (whole_is (asking arguments) None is told) (first_is (asking arguments) is ∙ cond-true (is_none answer.fault) (call ∷ []) [] (ap is_none told)) (its told) part
    one (asking arguments) (Some fault) is told part =
        passed (first_is (asking arguments) is ∙ cond-false (is_none answer.fault) (call ∷ []) [] (ap is_none told)) (whole_is (asking arguments) (Some fault) is told) part
    one (depositing lines) None is told part =
        kept (whole_is (depositing lines) None is told)
        (first_is (depositing lines) is ∙ cond-true (is_none answer.fault) (call ∷ []) (with_lines call (take (unwrap_or answer.done 0) lines) ∷ []) (ap is_none told)) (its told) part
    one (depositing lines) (Some fault) is told part =
        let other : Call = with_lines call (take (unwrap_or answer.done 0) lines) in
        cut other (first_is (depositing lines) is ∙ cond-false (is_none answer.fault) (call ∷ []) (other ∷ []) (ap is_none told)) (whole_is (depositing lines) (Some fault) is told) part

-- a request among the visits of what was performed was done whole
pub asking_whole : (config : RepositoryConfig) (state : RepoState) (calls : List Call) (answers : List Answer) → AllByRecursion (IsTrueVisit config) (visits_given config state calls answers)
    → (some : List Visit) → AllByRecursion IsAsking some → IsPart some (visits config state (calls_done calls answers)) → IsPart some (whole_visits (visits_given config state calls answers))
asking_whole config state [] answers given some asks part = part
asking_whole config state (call ∷ calls) [] given some asks part = part
asking_whole config state (call ∷ calls) (answer ∷ answers) given some asks part =
    one (task_of call) answer.fault refl refl (asking_whole config (left_by config state (calls_done_by call answer)) calls answers given.1)
  where
    visit : Visit
    visit = record { call = call; before = state; answer = answer }

    rest : List Visit
    rest = whole_visits (visits_given config (left_by config state (calls_done_by call answer)) calls answers)

    all : List Visit
    all = whole_visits (visit ∷ visits_given config (left_by config state (calls_done_by call answer)) calls answers)

    Later : Type 0
    Later = (others : List Visit) → AllByRecursion IsAsking others → IsPart others (visits config (left_by config state (calls_done_by call answer)) (calls_done calls answers)) → IsPart others rest

    first_is : (task : Task) → task_of call ≡ task → calls_done_by call answer ≡ calls_done_in call answer task
    first_is task is = ap (calls_done_in call answer) is

    whole_is : (task : Task) (fault : Option Fault) → task_of call ≡ task → answer.fault ≡ fault → is_done_whole visit ≡ (is_none fault && is_asked task)
    whole_is task fault is told = ap (λ (f : Option Fault). is_none f && is_asked (task_of call)) told ∙ ap (λ (t : Task). is_none fault && is_asked t) is

    -- nothing was performed of it
    passed : calls_done_by call answer ≡ [] → is_done_whole visit ≡ false → Later → IsPart some all
    passed first not_so later =
        let here : IsPart some (visits config (left_by config state (calls_done_by call answer)) (calls_done calls answers)) =
        subst (λ (cs : List Call). IsPart some (visits config (left_by config state cs) (calls_done calls answers))) (sym first)
        (subst (λ (cs : List Call). IsPart some (visits config state (cs ++ calls_done calls answers))) first part)
        in
        subst (λ (xs : List Visit). IsPart some xs) (sym (cond-false (is_done_whole visit) (visit ∷ rest) rest not_so)) (later some asks here)

    -- it was performed
    kept : calls_done_by call answer ≡ call ∷ [] → is_done_whole visit ≡ true → visit ≡ visit_in config state call → Later → IsPart some all
    kept first so same later =
        let behind : (others : List Visit) → IsPart others (visits config (exchanged_alone config state call).1 (calls_done calls answers))
        → IsPart others (visits config (left_by config state (calls_done_by call answer)) (calls_done calls answers)) =
        λ others p. subst (λ (cs : List Call). IsPart others (visits config (left_by config state cs) (calls_done calls answers))) (sym first) p
        in
        let here : IsPart some (visit_in config state call ∷ visits config (exchanged_alone config state call).1 (calls_done calls answers)) =
        subst (λ (cs : List Call). IsPart some (visits config state (cs ++ calls_done calls answers))) first part
        in
        let both : IsPart some (visit ∷ rest) = elim here [
          | inl p ↦ inl (later some asks (behind some p))
          | inr p ↦ inr (
            p.0,
            p.1 ∙ ap (λ (v : Visit). v ∷ p.0) (sym same),
            later p.0 (subst (λ (xs : List Visit). AllByRecursion IsAsking xs) p.1 asks).1 (behind p.0 p.2),
          )
        ] in
        subst (λ (xs : List Visit). IsPart some xs) (sym (cond-true (is_done_whole visit) (visit ∷ rest) rest so)) both

    -- some of its lines were performed
    cut : (lines : List (List ℕ)) (n : ℕ) → task_of call ≡ depositing lines → calls_done_by call answer ≡ with_lines call (take n lines) ∷ [] → is_done_whole visit ≡ false → Later → IsPart some all
    cut lines n is first not_so later =
        let other : Call = with_lines call (take n lines) in
        let here : IsPart some (visit_in config state other ∷ visits config (exchanged_alone config state other).1 (calls_done calls answers)) =
        subst (λ (cs : List Call). IsPart some (visits config state (cs ++ calls_done calls answers))) first part
        in
        let both : IsPart some rest = elim here [
          | inl p ↦ later some asks (subst (λ (cs : List Call). IsPart some (visits config (left_by config state cs) (calls_done calls answers))) (sym first) p)
          | inr p ↦
              let asked = (subst (λ (xs : List Visit). AllByRecursion IsAsking xs) p.1 asks).0 in
              let clash : depositing (take n lines) ≡ asking asked.arguments = sym (cut_task call lines n is) ∙ asked.asked in
              cc
        ] in
        subst (λ (xs : List Visit). IsPart some xs) (sym (cond-false (is_done_whole visit) (visit ∷ rest) rest not_so)) both

    its : answer.fault ≡ None → visit ≡ visit_in config state call
    its told =
        ap (λ (a : Answer). record { call = call; before = state; answer = a })
        (subst (λ (f : Option Fault). IsTrueBy config visit f) told given.0)

    one : (task : Task) (fault : Option Fault) → task_of call ≡ task → answer.fault ≡ fault → Later → IsPart some all
    one (refusing status) None is told later = passed (first_is (refusing status) is) (whole_is (refusing status) None is told) later
    one (refusing status) (Some fault) is told later = passed (first_is (refusing status) is) (whole_is (refusing status) (Some fault) is told) later
    one (asking arguments) None is told later =
        kept (first_is (asking arguments) is ∙ cond-true (is_none answer.fault) (call ∷ []) [] (ap is_none told)) (whole_is (asking arguments) None is told) (its told) later
    one (asking arguments) (Some fault) is told later =
        passed (first_is (asking arguments) is ∙ cond-false (is_none answer.fault) (call ∷ []) [] (ap is_none told)) (whole_is (asking arguments) (Some fault) is told) later
    one (depositing lines) None is told later =
        kept (first_is (depositing lines) is ∙ cond-true (is_none answer.fault) (call ∷ []) (with_lines call (take (unwrap_or answer.done 0) lines) ∷ []) (ap is_none told))
        (whole_is (depositing lines) None is told) (its told) later
    one (depositing lines) (Some fault) is told later =
        cut lines (unwrap_or answer.done 0) is
        (first_is (depositing lines) is ∙ cond-false (is_none answer.fault) (call ∷ []) (with_lines call (take (unwrap_or answer.done 0) lines) ∷ []) (ap is_none told))
        (whole_is (depositing lines) (Some fault) is told) later
