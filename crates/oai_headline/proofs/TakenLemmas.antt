-- Visits that are requests are steps of the machine, one each, in their order.
use Rattle.std.proofs.Common.{◌≡◌, ◌∙◌, inl, inr, ℕ, ℤ, true, List, [], ◌∷◌, ◌++◌, Option, None, Some, refl, sym, ap, subst}
use Rattle.std.specs.List.{AllByRecursion, AllZip, flat_map}
use Rattle.oai_args.specs.Pairs.{decoded_pairs}
use Rattle.oai_args.specs.Requests.{request_of}
use Rattle.oai_item.specs.Formats.{AreRepositoryFormats}
use Rattle.oai_deposit.specs.declared.changes.Change.{Change}
use Rattle.oai_item.specs.declared.refusals.ChangeRefusal.{ChangeRefusal}
use Rattle.oai_settings.specs.Config.{IsConfig, RepositoryConfig, is_in_years}
use Rattle.oai_repo.specs.Answers.{arguments_of_request}
use Rattle.oai_holdings.specs.Changes.{refusal_of, stamp_at}
use Rattle.oai_repo.specs.Listing.{Response, request_response, retry_after, with_answer}
use Rattle.oai_repo.specs.Machine.{Command, act, act_on_change, changing, outcome_of, outcome_output, query, rejecting, requesting}
use Rattle.oai_answers.specs.Answers.{Attributes}
use Rattle.oai_repo.specs.State.{RepoState, empty_state, moved}
use Rattle.oai_repo.proofs.ClockLemmas.{in_years-config, in_years-tick}
use Rattle.oai_laws.specs.Effects.{IsSound}
use Rattle.oai_laws.specs.Eras.{left_behind}
use Rattle.oai_laws.specs.Runs.{IsPart, Timed, Transition, performed, run}
use Rattle.oai_laws.proofs.EffectLemmas.{sound_act, sound_empty, sound_moved}
use Rattle.oai_laws.proofs.ShownLemmas.{regular_act}
use Rattle.oai_http.specs.declared.exchanges.Call.{Call}
use Rattle.oai_host.specs.Alone.{done_alone, exchanged_alone}
use Rattle.oai_host.specs.Answers.{answer_of}
use Rattle.oai_host.specs.Tasks.{Task, asking, task_of}
use Rattle.oai_headline.specs.Visits.{Visit, commands_by, commands_of, found_by, steps_of, timed_input, visit_in, visits}
use Rattle.oai_headline.specs.Chains.{IsPrinted, IsStepOf}
use Rattle.oai_headline.proofs.CarriedLemmas.{call_behind}
use Rattle.oai_headline.proofs.EndLemmas.{SaidEnds, end_writable, request_ends}
use Rattle.oai_headline.proofs.PrintedLemmas.{HasOffer, IsReplied, printed_offer}
use Rattle.oai_laws.specs.Following.{TokenOffer, page_shown}
use Rattle.std.specs.Prelude.{pos, ◌+ℤ◌}

-- ---- a state that commands lead to

pub record IsReachable (config : RepositoryConfig) (state : RepoState) : Type 0 where
  pub sound : IsSound config state
  pub years : is_in_years state.clock ≡ true

pub reachable_empty : (config : RepositoryConfig) → IsConfig config → IsReachable config (empty_state config)
reachable_empty config rules = record { sound = sound_empty config; years = in_years-config config rules }

pub reachable_moved : (config : RepositoryConfig) (moment : ℤ) (state : RepoState) → IsReachable config state → IsReachable config (moved moment state)
reachable_moved config moment state h = record { sound = sound_moved config moment state h.sound; years = in_years-tick state.clock moment h.years }

-- no command moves the clock
change_clock : (config : RepositoryConfig) (state : RepoState) (stamp : ℤ) (change : Change) (refusal : Option ChangeRefusal) → (act_on_change config state stamp change refusal).1.clock ≡ state.clock
change_clock config state stamp change (Some cause) = refl
change_clock config state stamp change None = refl

same_clock : (config : RepositoryConfig) (state : RepoState) (command : Command) → (act config state command).1.clock ≡ state.clock
unfolding act
same_clock config state (requesting request) = refl
same_clock config state (changing change) = change_clock config state (stamp_at config state.clock) change (refusal_of config (stamp_at config state.clock) state.holdings change)
same_clock config state (rejecting cause) = refl

reachable_act : (config : RepositoryConfig) (state : RepoState) (command : Command) → IsReachable config state → IsReachable config (act config state command).1
reachable_act config state command h = record {
  sound = sound_act config state command h.sound;
  years = ap is_in_years (same_clock config state command) ∙ h.years;
}

reachable_behind : (config : RepositoryConfig) (state : RepoState) (commands : List Timed) → IsReachable config state → IsReachable config (left_behind config state commands)
reachable_behind config state [] h = h
reachable_behind config state (timed ∷ commands) h =
    reachable_behind config (performed config state timed).left commands
    (reachable_act config (moved timed.moment state) timed.command (reachable_moved config timed.moment state h))

pub reachable_after : (config : RepositoryConfig) (state : RepoState) (call : Call) → IsReachable config state → IsReachable config (exchanged_alone config state call).1
reachable_after config state call h =
    subst (IsReachable config) (call_behind config state call) (reachable_behind config state (commands_by config call) h)

-- ---- a visit that is a request

pub record IsAsking (visit : Visit) : Type 0 where
  pub arguments : List ℕ
  pub asked : task_of visit.call ≡ asking arguments

abbrev pub step_with : RepositoryConfig → Visit → List ℕ → Transition
step_with config visit arguments = performed config visit.before (timed_input config.granularity visit.call.moment (query arguments))

-- it is that step
pub record IsTaken (config : RepositoryConfig) (visit : Visit) (step : Transition) : Type 0 where
  pub arguments : List ℕ
  pub asked : task_of visit.call ≡ asking arguments
  pub is : step ≡ step_with config visit arguments
  pub reachable : IsReachable config visit.before
  pub answer : visit.answer ≡ (exchanged_alone config visit.before visit.call).0

pub record AreTaken (config : RepositoryConfig) (some : List Visit) (whole : List Transition) : Type 0 where
  pub steps : List Transition
  pub each : AllZip (IsTaken config) some steps
  pub among : IsPart steps whole

part_behind : (front some whole : List Transition) → IsPart some whole → IsPart some (front ++ whole)
part_behind [] some whole h = h
part_behind (x ∷ front) some whole h = inl (part_behind front some whole h)

pub only_step : (config : RepositoryConfig) (visit : Visit) (arguments : List ℕ) → task_of visit.call ≡ asking arguments → steps_of config visit ≡ step_with config visit arguments ∷ []
only_step config visit arguments asked = ap (λ (task : Task). run config visit.before (commands_of config visit.call.moment task)) asked

taken_here : (config : RepositoryConfig) (state : RepoState) (call : Call) (others : List Visit) (rest : List Transition) → IsReachable config state → IsAsking (visit_in config state call)
    → AreTaken config others rest → AreTaken config (visit_in config state call ∷ others) (steps_of config (visit_in config state call) ++ rest)
taken_here config state call others rest reachable asks later =
    let visit : Visit = visit_in config state call in
    let step : Transition = step_with config visit asks.arguments in
    let only : steps_of config visit ≡ step ∷ [] = only_step config visit asks.arguments asks.asked in
    record {
      steps = step ∷ later.steps;
      each = (record { arguments = asks.arguments; asked = asks.asked; is = refl; reachable = reachable; answer = refl }, later.each);
      among = subst (λ (own : List Transition). IsPart (step ∷ later.steps) (own ++ rest)) (sym only) (inr (later.steps, refl, later.among));
    }

pub taken : (config : RepositoryConfig) (state : RepoState) (calls : List Call) (some : List Visit) → IsReachable config state → AllByRecursion IsAsking some → IsPart some (visits config state calls)
    → AreTaken config some (flat_map (steps_of config) (visits config state calls))
taken config state [] some reachable asks none =
    subst (λ (vs : List Visit). AreTaken config vs []) (sym none) (record { steps = []; each = tt; among = refl })
taken config state (call ∷ calls) some reachable asks (inl part) =
    let left : RepoState = (exchanged_alone config state call).1 in
    let later = taken config left calls some (reachable_after config state call reachable) asks part in
    record {
      steps = later.steps;
      each = later.each;
      among = part_behind (steps_of config (visit_in config state call)) later.steps (flat_map (steps_of config) (visits config left calls)) later.among;
    }
taken config state (call ∷ calls) some reachable asks (inr here) =
    let left : RepoState = (exchanged_alone config state call).1 in
    let rest : List Transition = flat_map (steps_of config) (visits config left calls) in
    let own : AllByRecursion IsAsking (visit_in config state call ∷ here.0) = subst (AllByRecursion IsAsking) here.1 asks in
    subst (λ (vs : List Visit). AreTaken config vs (steps_of config (visit_in config state call) ++ rest)) (sym here.1)
    (taken_here config state call here.0 rest reachable own.0 (taken config left calls here.0 (reachable_after config state call reachable) own.1 here.2))

-- ---- what is known of it

-- its request, as it was read
abbrev pub request_in : RepositoryConfig → List ℕ → Command
request_in config arguments = requesting (request_of config.granularity (decoded_pairs arguments))

pub taken_command : (config : RepositoryConfig) (visit : Visit) (step : Transition) (h : IsTaken config visit step) → step.command ≡ request_in config h.arguments
taken_command config visit step h = ap (λ (e : Transition). e.command) h.is

pub taken_found : (config : RepositoryConfig) (visit : Visit) (step : Transition) → IsTaken config visit step → step.found ≡ found_by visit
taken_found config visit step h = ap (λ (e : Transition). e.found) h.is

pub taken_written : (config : RepositoryConfig) (visit : Visit) (step : Transition) → IsTaken config visit step → visit.answer ≡ answer_of (outcome_output config.granularity step.outcome)
taken_written config visit step h =
    h.answer
    ∙ ap (λ (task : Task). (done_alone config visit.before visit.call.moment task).0) h.asked
    ∙ ap (λ (e : Transition). answer_of (outcome_output config.granularity e.outcome)) (sym h.is)

pub taken_step : (config : RepositoryConfig) (visit : Visit) (step : Transition) → IsTaken config visit step → IsStepOf config visit step
taken_step config visit step h = record {
  arguments = h.arguments;
  asked = h.asked;
  only = only_step config visit h.arguments h.asked ∙ ap (λ (e : Transition). e ∷ []) (sym h.is);
  found = taken_found config visit step h;
  written = taken_written config visit step h;
}

replied : (config : RepositoryConfig) (clock end : ℤ) (asked : Attributes) (said : Response) → SaidEnds end said → IsReplied end (outcome_of config clock asked said)
replied config clock end asked (with_answer answer) h = h
replied config clock end asked (retry_after seconds) h = tt

pub replied_act : (config : RepositoryConfig) (state : RepoState) (arguments : List ℕ) → IsReplied (state.clock +ℤ pos config.lifetime) (act config state (request_in config arguments)).0
unfolding act
replied_act config state arguments =
    let request = request_of config.granularity (decoded_pairs arguments) in
    replied config state.clock (state.clock +ℤ pos config.lifetime) (arguments_of_request request) (request_response config state request).0 (request_ends config state request)

-- the token that its answer prints is that of the page that it was answered
pub taken_offer : (config : RepositoryConfig) (visit : Visit) (step : Transition) (offer : TokenOffer) → IsConfig config → AreRepositoryFormats config.formats → IsTaken config visit step
    → IsPrinted visit.answer offer → HasOffer (page_shown step.outcome) offer
taken_offer config visit step offer rules formats h printed =
    let found : RepoState = found_by visit in
    let reachable = reachable_moved config visit.call.moment visit.before h.reachable in
    let its : Transition = step_with config visit h.arguments in
    subst (λ (e : Transition). HasOffer (page_shown e.outcome) offer) (sym h.is)
    (printed_offer config.granularity (found.clock +ℤ pos config.lifetime) its.outcome visit.answer offer
    (taken_written config visit step h ∙ ap (λ (e : Transition). answer_of (outcome_output config.granularity e.outcome)) h.is)
    (replied_act config found h.arguments) (regular_act config found (request_in config h.arguments) formats reachable.sound)
    (end_writable config found.clock rules reachable.years) printed)
