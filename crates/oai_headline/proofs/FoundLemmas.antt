-- Requests that are found among the steps of exchanges are found among the exchanges.
use Rattle.std.proofs.Common.{◌≡◌, ◌≢◌, inl, inr, ℕ, ℤ, List, [], ◌∷◌, ◌++◌, Result, Ok, Err, refl, sym, ap, subst}
use Rattle.std.specs.List.{AllByRecursion, AllZip, flat_map}
use Rattle.oai_time.specs.declared.granularity.Granularity.{Granularity}
use Rattle.oai_deposit.specs.declared.changes.Change.{Change}
use Rattle.oai_item.specs.declared.refusals.LineRefusal.{LineRefusal}
use Rattle.oai_deposit.specs.Lines.{line_of}
use Rattle.oai_args.specs.Asks.{AskOrError}
use Rattle.oai_settings.specs.Config.{RepositoryConfig}
use Rattle.oai_repo.specs.Machine.{command_of, line, requesting}
use Rattle.oai_repo.specs.State.{RepoState}
use Rattle.oai_laws.specs.Runs.{IsPart, Transition, performed, run}
use Rattle.oai_http.specs.declared.exchanges.Call.{Call}
use Rattle.oai_host.specs.Alone.{done_alone, exchanged_alone}
use Rattle.oai_host.specs.Tasks.{Task, asking, depositing, refusing, task_of}
use Rattle.oai_headline.specs.Visits.{Visit, commands_of, steps_of, timed_input, visit_in, visits}
use Rattle.oai_headline.specs.Chains.{IsStepOf}
use Rattle.oai_headline.proofs.TakenLemmas.{only_step, step_with}

-- the step is a request
abbrev pub IsAsked : Transition → Type 0
IsAsked step = (request : AskOrError) × (step.command ≡ requesting request)

-- the steps are those of visits that are among all
pub record AreFound (config : RepositoryConfig) (steps : List Transition) (all : List Visit) : Type 0 where
  pub some : List Visit
  pub each : AllZip (IsStepOf config) some steps
  pub among : IsPart some all

-- no line of a deposit is a request
never_line : (g : Granularity) (read : Result Change LineRefusal) (request : AskOrError) → command_of g (line read) ≢ requesting request
never_line g (Ok change) request is = cc
never_line g (Err cause) request is = cc

-- so what is found in a deposit, and behind it, is found behind it
behind_lines : (config : RepositoryConfig) (moment : ℤ) (state : RepoState) (lines : List (List ℕ)) (steps rest : List Transition) → AllByRecursion IsAsked steps
    → IsPart steps (run config state (commands_of config moment (depositing lines)) ++ rest) → IsPart steps rest
behind_lines config moment state [] steps rest asks part = part
behind_lines config moment state (text ∷ lines) steps rest asks (inl part) =
    behind_lines config moment (performed config state (timed_input config.granularity moment (line (line_of config.forms text)))).left lines steps rest asks part
behind_lines config moment state (text ∷ lines) steps rest asks (inr here) =
    let own : AllByRecursion IsAsked (performed config state (timed_input config.granularity moment (line (line_of config.forms text))) ∷ here.0) =
    subst (AllByRecursion IsAsked) here.1 asks in
    absurd (never_line config.granularity (line_of config.forms text) own.0.0 own.0.1)

passed : (config : RepositoryConfig) (visit : Visit) (steps : List Transition) (all : List Visit) → AreFound config steps all → AreFound config steps (visit ∷ all)
passed config visit steps all h = record { some = h.some; each = h.each; among = inl h.among }

its_step : (config : RepositoryConfig) (state : RepoState) (call : Call) (arguments : List ℕ) → task_of call ≡ asking arguments
    → IsStepOf config (visit_in config state call) (step_with config (visit_in config state call) arguments)
its_step config state call arguments asked = record {
  arguments = arguments;
  asked = asked;
  only = only_step config (visit_in config state call) arguments asked;
  found = refl;
  written = ap (λ (task : Task). (done_alone config state call.moment task).0) asked;
}

at_call : (config : RepositoryConfig) (state : RepoState) (call : Call) (task : Task) (steps rest : List Transition) (all : List Visit) → task_of call ≡ task → AllByRecursion IsAsked steps
    → IsPart steps (run config state (commands_of config call.moment task) ++ rest)
    → ((others : List Transition) → AllByRecursion IsAsked others → IsPart others rest → AreFound config others all)
    → AreFound config steps (visit_in config state call ∷ all)
at_call config state call (refusing status) steps rest all is asks part later = passed config (visit_in config state call) steps all (later steps asks part)
at_call config state call (depositing lines) steps rest all is asks part later =
    passed config (visit_in config state call) steps all (later steps asks (behind_lines config call.moment state lines steps rest asks part))
at_call config state call (asking arguments) steps rest all is asks (inl part) later = passed config (visit_in config state call) steps all (later steps asks part)
at_call config state call (asking arguments) steps rest all is asks (inr here) later =
    let visit : Visit = visit_in config state call in
    let own : AllByRecursion IsAsked (step_with config visit arguments ∷ here.0) = subst (AllByRecursion IsAsked) here.1 asks in
    let behind : AreFound config here.0 all = later here.0 own.1 here.2 in
    subst (λ (some : List Transition). AreFound config some (visit ∷ all)) (sym here.1)
    (record { some = visit ∷ behind.some; each = (its_step config state call arguments is, behind.each); among = inr (behind.some, refl, behind.among) })

pub found : (config : RepositoryConfig) (state : RepoState) (calls : List Call) (steps : List Transition) → AllByRecursion IsAsked steps
    → IsPart steps (flat_map (steps_of config) (visits config state calls)) → AreFound config steps (visits config state calls)
found config state [] steps asks none =
    subst (λ (some : List Transition). AreFound config some []) (sym none) (record { some = []; each = tt; among = refl })
found config state (call ∷ calls) steps asks part =
    let left : RepoState = (exchanged_alone config state call).1 in
    at_call config state call (task_of call) steps (flat_map (steps_of config) (visits config left calls)) (visits config left calls) refl asks part
    (λ others own among. found config left calls others own among)

-- ---- without some of them

pub without_first : {A : Type 0} (x : A) (some whole : List A) → IsPart (x ∷ some) whole → IsPart some whole
without_first x some [] none = cc
without_first x some (y ∷ whole) (inl part) = inl (without_first x some whole part)
without_first {A} x some (y ∷ whole) (inr here) =
    let same : some ≡ here.0 = cc in inl (subst (λ (xs : List A). IsPart xs whole) (sym same) here.2)

pub without_second : {A : Type 0} (x y : A) (some whole : List A) → IsPart (x ∷ y ∷ some) whole → IsPart (x ∷ some) whole
without_second x y some [] none = cc
without_second x y some (z ∷ whole) (inl part) = inl (without_second x y some whole part)
without_second {A} x y some (z ∷ whole) (inr here) =
    let same : y ∷ some ≡ here.0 = cc in
    let head : x ≡ z = cc in
    inr (some, ap (λ (a : A). a ∷ some) head, without_first y some whole (subst (λ (xs : List A). IsPart xs whole) (sym same) here.2))
