-- Turns of a host, at each of its repositories: what is known of its own exchanges, one after the other.
use Rattle.std.proofs.Common.{◌≡◌, ◌∙◌, inl, inr, ℕ, true, false, IsTrue, List, [], ◌∷◌, ◌++◌, map, filter, take, Option, None, Some, is_none, unwrap_or, refl, sym, ap, subst, append-nil}
use Rattle.std.specs.List.{AllByRecursion, AllZip, zip}
use Rattle.std.proofs.lemmas.Bool.{and_parts, cases_Bool, cond-true, cond-false}
use Rattle.std.proofs.lemmas.List.{append_assoc}
use Rattle.oai_item.specs.declared.faults.Fault.{Fault}
use Rattle.oai_settings.specs.Config.{RepositoryConfig}
use Rattle.oai_repo.specs.State.{RepoState}
use Rattle.oai_http.specs.Exchanges.{call_at}
use Rattle.oai_http.specs.Targets.{leads_to_repository}
use Rattle.oai_http.specs.declared.exchanges.Answer.{Answer}
use Rattle.oai_http.specs.declared.exchanges.Call.{Call}
use Rattle.oai_host.specs.Alone.{answers_alone, done_alone, exchanged_alone, own_answers, own_calls}
use Rattle.oai_host.specs.Hosts.{AreSteps, IsStep, Repository, none_failed}
use Rattle.oai_host.specs.Performed.{IsPerformed, StoreState}
use Rattle.oai_host.specs.Tasks.{Task, asking, depositing, refusing, task_of}
use Rattle.oai_journal.specs.Records.{Entry}
use Rattle.oai_durable.specs.Records.{redone_all}
use Rattle.oai_durable.proofs.RecordLemmas.{redone_append}
use Rattle.oai_headline.specs.Throughout.{IsTrueVisit, IsTrueBy, left_by, calls_done, calls_done_by, calls_done_in, visits_given, with_lines}
use Rattle.oai_headline.proofs.GivenLemmas.{all_met}
use Rattle.oai_service.specs.Hosting.{leaving}
use Rattle.oai_service.specs.Keeping.{stays}
use Rattle.oai_durable.specs.Lives.{Exchanged}
use Rattle.oai_service.specs.Turns.{AreTurns, IsTurn, Turn, answers_in, calls_in, its, turn_records, was_performed, was_refused, was_status}
use Rattle.oai_service.proofs.TurnLemmas.{later_self}

-- ---- exchanges of one repository

left_both : (config : RepositoryConfig) (state : RepoState) (calls others : List Call) → left_by config state (calls ++ others) ≡ left_by config (left_by config state calls) others
left_both config state [] others = refl
left_both config state (call ∷ calls) others = left_both config (exchanged_alone config state call).1 calls others

-- what is known of an exchange
record IsMetOnce (config : RepositoryConfig) (call : Call) (answer : Answer) (before after : RepoState) : Type 0 where
  pub given : IsTrueVisit config (record { call = call; before = before; answer = answer })
  pub left : after ≡ left_by config before (calls_done_by call answer)

met_once : (config : RepositoryConfig) (call : Call) (answer : Answer) (before : RepoState) (old : StoreState) (after : RepoState) (new : StoreState) → IsTrue old.honest
    → IsPerformed config call.moment (task_of call) answer before old after new → IsMetOnce config call answer before after
met_once config call answer before old after new honest performed =
    let met = all_met config (call ∷ []) (answer ∷ []) before old after new honest (old, after, new, later_self old, performed, (refl, later_self new)) in
    record { given = met.given.0; left = met.left ∙ ap (left_by config before) (append-nil (calls_done_by call answer)) }

-- where it has no fault it leaves what it leaves alone
pub left_whole : (config : RepositoryConfig) (call : Call) (answer : Answer) (before : RepoState) → is_none answer.fault ≡ true → left_by config before (calls_done_by call answer) ≡ (exchanged_alone config before call).1
left_whole config call answer before none = by (task_of call) refl
  where
    by : (task : Task) → task_of call ≡ task → left_by config before (calls_done_by call answer) ≡ (exchanged_alone config before call).1
    by (refusing status) is =
        ap (λ (t : Task). left_by config before (calls_done_in call answer t)) is ∙ sym (ap (λ (t : Task). (done_alone config before call.moment t).1) is)
    by (asking arguments) is =
        ap (λ (t : Task). left_by config before (calls_done_in call answer t)) is ∙ ap (left_by config before) (cond-true (is_none answer.fault) (call ∷ []) [] none)
    by (depositing lines) is =
        ap (λ (t : Task). left_by config before (calls_done_in call answer t)) is
        ∙ ap (left_by config before) (cond-true (is_none answer.fault) (call ∷ []) (with_lines call (take (unwrap_or answer.done 0) lines) ∷ []) none)

no_fault : (fault : Option Fault) → is_none fault ≡ true → fault ≡ None
no_fault None none = refl
no_fault (Some fault) none = cc

-- what is known of exchanges of one repository, one after the other
pub record IsMetAt (config : RepositoryConfig) (name : List ℕ) (calls : List Call) (answers : List Answer) (before after : RepoState) : Type 0 where
  pub given : AllByRecursion (IsTrueVisit config) (visits_given config before (own_calls name calls) (own_answers name calls answers))
  pub left : after ≡ left_by config before (calls_done (own_calls name calls) (own_answers name calls answers))
  pub alone : none_failed (own_answers name calls answers) ≡ true → own_answers name calls answers ≡ answers_alone config before (own_calls name calls)

-- the same of lists of calls and answers
record AreMetBy (config : RepositoryConfig) (calls : List Call) (answers : List Answer) (before after : RepoState) : Type 0 where
  pub given : AllByRecursion (IsTrueVisit config) (visits_given config before calls answers)
  pub left : after ≡ left_by config before (calls_done calls answers)
  pub alone : none_failed answers ≡ true → answers ≡ answers_alone config before calls

met_then : (config : RepositoryConfig) (call : Call) (answer : Answer) (calls : List Call) (answers : List Answer) (before between after : RepoState) → IsMetOnce config call answer before between
    → AreMetBy config calls answers between after → AreMetBy config (call ∷ calls) (answer ∷ answers) before after
met_then config call answer calls answers before between after one others = record {
  given = (one.given, subst (λ (s : RepoState). AllByRecursion (IsTrueVisit config) (visits_given config s calls answers)) one.left others.given);
  left =
      others.left
      ∙ ap (λ (s : RepoState). left_by config s (calls_done calls answers)) one.left
      ∙ sym (left_both config before (calls_done_by call answer) (calls_done calls answers));
  alone = λ none.
      let parts = and_parts (is_none answer.fault) (none_failed answers) none in
      let first : answer ≡ (exchanged_alone config before call).0 =
      subst (λ (f : Option Fault). IsTrueBy config (record { call = call; before = before; answer = answer }) f) (no_fault answer.fault parts.0) one.given in
      let there : between ≡ (exchanged_alone config before call).1 = one.left ∙ left_whole config call answer before parts.0 in
      ap (λ (xs : List Answer). answer ∷ xs) (others.alone parts.1)
      ∙ ap (λ (s : RepoState). answer ∷ answers_alone config s calls) there
      ∙ ap (λ (a : Answer). a ∷ answers_alone config (exchanged_alone config before call).1 calls) first;
}

-- ---- what is a repository's own

pub own_call : (name : List ℕ) (call : Call) (calls : List Call) → leads_to_repository name call.target ≡ true → own_calls name (call ∷ calls) ≡ call ∷ own_calls name calls
own_call name call calls own = cond-true (leads_to_repository name call.target) (call ∷ own_calls name calls) (own_calls name calls) own

pub other_call : (name : List ℕ) (call : Call) (calls : List Call) → leads_to_repository name call.target ≡ false → own_calls name (call ∷ calls) ≡ own_calls name calls
other_call name call calls other = cond-false (leads_to_repository name call.target) (call ∷ own_calls name calls) (own_calls name calls) other

pub own_answer : (name : List ℕ) (call : Call) (calls : List Call) (answer : Answer) (answers : List Answer) → leads_to_repository name call.target ≡ true
    → own_answers name (call ∷ calls) (answer ∷ answers) ≡ answer ∷ own_answers name calls answers
own_answer name call calls answer answers own =
    let others = filter (λ (p : Call × Answer). leads_to_repository name p.0.target) (zip calls answers) in
    ap (map (λ (p : Call × Answer). p.1)) (cond-true (leads_to_repository name call.target) ((call, answer) ∷ others) others own)

pub other_answer : (name : List ℕ) (call : Call) (calls : List Call) (answer : Answer) (answers : List Answer) → leads_to_repository name call.target ≡ false
    → own_answers name (call ∷ calls) (answer ∷ answers) ≡ own_answers name calls answers
other_answer name call calls answer answers other =
    let others = filter (λ (p : Call × Answer). leads_to_repository name p.0.target) (zip calls answers) in
    ap (map (λ (p : Call × Answer). p.1)) (cond-false (leads_to_repository name call.target) ((call, answer) ∷ others) others other)

-- lists of calls and answers that are its own
as_own : (config : RepositoryConfig) (name : List ℕ) (calls cs : List Call) (answers xs : List Answer) (before after : RepoState) → own_calls name calls ≡ cs → own_answers name calls answers ≡ xs
    → AreMetBy config cs xs before after → IsMetAt config name calls answers before after
as_own config name calls cs answers xs before after e f met =
    let moved = subst (λ (ds : List Call). AreMetBy config ds xs before after) (sym e) met in
    let both = subst (λ (ys : List Answer). AreMetBy config (own_calls name calls) ys before after) (sym f) moved in
    record { given = both.given; left = both.left; alone = both.alone }

-- ---- a repository of a host

pub record IsOwnMet (calls : List Call) (answers : List Answer) (before after : Repository) : Type 0 where
  pub name : after.name ≡ before.name
  pub config : after.config ≡ before.config
  pub met : IsMetAt before.config before.name calls answers before.state after.state

module _ (call : Call) (answer : Answer) (calls : List Call) (answers : List Answer) (old new : StoreState) (honest : IsTrue old.honest) where
  own_met : (before between after : Repository) → IsStep call answer old new before between → IsOwnMet calls answers between after → IsOwnMet (call ∷ calls) (answer ∷ answers) before after
  own_met before between after step others = record {
    name = others.name ∙ step.name;
    config = others.config ∙ step.config;
    met =
        let named = subst (λ (name : List ℕ). IsMetAt between.config name calls answers between.state after.state) step.name others.met in
        let rest = subst (λ (config : RepositoryConfig). IsMetAt config before.name calls answers between.state after.state) step.config named in
        let by : AreMetBy before.config (own_calls before.name calls) (own_answers before.name calls answers) between.state after.state =
        record { given = rest.given; left = rest.left; alone = rest.alone } in
        elim (cases_Bool (leads_to_repository before.name call.target)) [
          | inl own ↦
              as_own before.config before.name (call ∷ calls) (call ∷ own_calls before.name calls) (answer ∷ answers) (answer ∷ own_answers before.name calls answers) before.state after.state
              (own_call before.name call calls own) (own_answer before.name call calls answer answers own)
              (met_then before.config call answer (own_calls before.name calls) (own_answers before.name calls answers) before.state between.state after.state
              (met_once before.config call answer before.state old between.state new honest (step.own own)) by)
          | inr other ↦
              as_own before.config before.name (call ∷ calls) (own_calls before.name calls) (answer ∷ answers) (own_answers before.name calls answers) before.state after.state
              (other_call before.name call calls other) (other_answer before.name call calls answer answers other)
              (subst (λ (s : RepoState). AreMetBy before.config (own_calls before.name calls) (own_answers before.name calls answers) s after.state) (step.other other) by)
        ];
  }

  each_met : (before between after : List Repository) → AreSteps call answer old new before between → AllZip (IsOwnMet calls answers) between after
      → AllZip (IsOwnMet (call ∷ calls) (answer ∷ answers)) before after
  each_met [] [] [] steps met = tt
  each_met [] [] (z ∷ after) steps met = absurd met
  each_met [] (y ∷ between) after steps met = absurd steps
  each_met (x ∷ before) [] after steps met = absurd steps
  each_met (x ∷ before) (y ∷ between) [] steps met = absurd met
  each_met (x ∷ before) (y ∷ between) (z ∷ after) steps met = (own_met x y z steps.0 met.0, each_met before between after steps.1 met.1)

none_met : (repositories : List Repository) → AllZip (IsOwnMet [] []) repositories repositories
none_met [] = tt
none_met (x ∷ repositories) = (record { name = refl; config = refl; met = record { given = tt; left = refl; alone = λ none. refl } }, none_met repositories)

-- ---- turns

-- turns, each over an honest store of its own
pub record IsHostTurn (before : List Repository) (e : Exchanged) (after : List Repository) : Type 0 where
  pub old : StoreState
  pub new : StoreState
  pub honest : IsTrue old.honest
  pub steps : AreSteps (call_at e.moment e.asked) e.answer old new before after

abbrev pub IsTurnOnce : List Repository → Turn → List Repository → Type 0
IsTurnOnce before (was_performed e) after = IsHostTurn before e after
IsTurnOnce before (was_refused e) after = after ≡ before
IsTurnOnce before (was_status e) after = after ≡ before

abbrev pub AreTurnsOnce : List Repository → List Entry → List Turn → Type 0
AreTurnsOnce begun before [] = Unit {0}
AreTurnsOnce begun before (turn ∷ turns) =
    IsTurnOnce (redone_all leaving begun before) turn (redone_all leaving begun (before ++ (its turn).own)) × AreTurnsOnce begun (before ++ (its turn).own) turns

turn_once : (before : List Repository) (old : StoreState) (turn : Turn) (after : List Repository) (new : StoreState) → IsTrue old.honest → IsTurn before old turn after new
    → IsTurnOnce before turn after × IsTrue new.honest
turn_once before old (was_performed e) after new honest is = (record { old = old; new = new; honest = honest; steps = is.each }, is.honesty.same ∙ honest)
turn_once before old (was_refused e) after new honest is = (is.0, ap (λ (s : StoreState). s.honest) is.1 ∙ honest)
turn_once before old (was_status e) after new honest is = (is.0, ap (λ (s : StoreState). s.honest) is.1 ∙ honest)

pub honest_still : (old new : StoreState) → stays old new → new.honest ≡ old.honest
honest_still old new is = ap (λ (s : StoreState). s.honest) is

pub turns_once : (changes : StoreState → StoreState → Type 0) → ((old new : StoreState) → changes old new → new.honest ≡ old.honest)
    → (begun : List Repository) (before : List Entry) (old : StoreState) (turns : List Turn) (new : StoreState) → IsTrue old.honest → AreTurns changes begun before old turns new
    → AreTurnsOnce begun before turns
turns_once changes same begun before old [] new honest are = tt
turns_once changes same begun before old (turn ∷ turns) new honest are =
    let first = turn_once (redone_all leaving begun before) are.0 turn (redone_all leaving begun (before ++ (its turn).own)) are.2 (same old are.0 are.1 ∙ honest) are.3 in
    (first.0, turns_once changes same begun (before ++ (its turn).own) are.2 turns new first.1 are.4)

-- the first of them
pub once_front : (begun : List Repository) (before : List Entry) (turns others : List Turn) → AreTurnsOnce begun before (turns ++ others) → AreTurnsOnce begun before turns
once_front begun before [] others all = tt
once_front begun before (turn ∷ turns) others all = (all.0, once_front begun (before ++ (its turn).own) turns others all.1)

-- they are turns behind any other records that leave the same
pub once_moved : (begun : List Repository) (file before : List Entry) (turns : List Turn) → redone_all leaving begun file ≡ redone_all leaving begun before → AreTurnsOnce begun file turns
    → AreTurnsOnce begun before turns
once_moved begun file before [] same all = tt
once_moved begun file before (turn ∷ turns) same all =
    let own : List Entry = (its turn).own in
    let then : redone_all leaving begun (file ++ own) ≡ redone_all leaving begun (before ++ own) =
    redone_append leaving begun file own ∙ ap (λ (rs : List Repository). redone_all leaving rs own) same ∙ sym (redone_append leaving begun before own) in (
      subst (λ (rs : List Repository). IsTurnOnce (redone_all leaving begun before) turn rs) then (subst (λ (rs : List Repository). IsTurnOnce rs turn (redone_all leaving begun (file ++ own))) same all.0),
      once_moved begun (file ++ own) (before ++ own) turns then all.1,
    )

pub once_append : (begun : List Repository) (before : List Entry) (turns others : List Turn) → AreTurnsOnce begun before turns → AreTurnsOnce begun (before ++ turn_records turns) others
    → AreTurnsOnce begun before (turns ++ others)
once_append begun before [] others first then = rw (append-nil before) at then
once_append begun before (turn ∷ turns) others first then =
    (first.0, once_append begun (before ++ (its turn).own) turns others first.1 (rw (append_assoc before (its turn).own (turn_records turns)) then))

-- a turn that leaves all as it was
met_behind : (begun : List Repository) (before own : List Entry) (turns : List Turn) → redone_all leaving begun (before ++ own) ≡ redone_all leaving begun before
    → AllZip (IsOwnMet (calls_in turns) (answers_in turns)) (redone_all leaving begun (before ++ own)) (redone_all leaving begun ((before ++ own) ++ turn_records turns))
    → AllZip (IsOwnMet (calls_in turns) (answers_in turns)) (redone_all leaving begun before) (redone_all leaving begun (before ++ (own ++ turn_records turns)))
met_behind begun before own turns same more =
    let others = subst (λ (es : List Entry). AllZip (IsOwnMet (calls_in turns) (answers_in turns)) (redone_all leaving begun (before ++ own)) (redone_all leaving begun es)) (append_assoc before own (turn_records turns)) more in
    subst (λ (rs : List Repository). AllZip (IsOwnMet (calls_in turns) (answers_in turns)) rs (redone_all leaving begun (before ++ (own ++ turn_records turns)))) same others

pub turns_met : (begun : List Repository) (before : List Entry) (turns : List Turn) → AreTurnsOnce begun before turns
    → AllZip (IsOwnMet (calls_in turns) (answers_in turns)) (redone_all leaving begun before) (redone_all leaving begun (before ++ turn_records turns))
turns_met begun before [] all =
    subst (λ (es : List Entry). AllZip (IsOwnMet [] []) (redone_all leaving begun before) (redone_all leaving begun es)) (sym (append-nil before)) (none_met (redone_all leaving begun before))
turns_met begun before (was_performed e ∷ turns) all =
    let first = all.0 in
    let there : List Repository = redone_all leaving begun (before ++ e.own) in
    let last : List Repository = redone_all leaving begun (before ++ (e.own ++ turn_records turns)) in
    let more = turns_met begun (before ++ e.own) turns all.1 in
    let others = subst (λ (es : List Entry). AllZip (IsOwnMet (calls_in turns) (answers_in turns)) there (redone_all leaving begun es)) (append_assoc before e.own (turn_records turns)) more in
    each_met (call_at e.moment e.asked) e.answer (calls_in turns) (answers_in turns) first.old first.new first.honest (redone_all leaving begun before) there last first.steps others
turns_met begun before (was_refused e ∷ turns) all = met_behind begun before e.own turns all.0 (turns_met begun (before ++ e.own) turns all.1)
turns_met begun before (was_status e ∷ turns) all = met_behind begun before e.own turns all.0 (turns_met begun (before ++ e.own) turns all.1)
