-- Visits whose steps are a chain of the machine follow a list: the machine's tokens are printed as a chain of visits asks for.
use Rattle.std.proofs.Common.{◌≡◌, ◌∙◌, ◌<◌, inl, inr, ℤ, pos, ◌+ℤ◌, false, List, [], ◌∷◌, length, None, Some, refl, sym, ap, subst}
use Rattle.std.specs.Prelude.{int_lt}
use Rattle.std.specs.List.{AllByRecursion, AllZip}
use Rattle.oai_names.specs.declared.list_verbs.ListVerb.{ListVerb}
use Rattle.oai_time.specs.Stamp.{IsWritable}
use Rattle.oai_time.specs.declared.granularity.Granularity.{Granularity}
use Rattle.oai_item.specs.Formats.{AreRepositoryFormats}
use Rattle.oai_args.specs.Asks.{AskOrError}
use Rattle.oai_args.specs.Pairs.{decoded_pairs}
use Rattle.oai_args.specs.Requests.{request_of}
use Rattle.oai_answers.specs.Answers.{Continuation, Page, completes, remains, whole}
use Rattle.oai_settings.specs.Config.{IsConfig, RepositoryConfig}
use Rattle.oai_repo.specs.Machine.{Outcome, accepted, documented, later, outcome_output, refused_with, requesting}
use Rattle.oai_repo.specs.State.{RepoState, empty_state}
use Rattle.oai_laws.specs.Following.{AreNext, IsChain, IsNextRequest, ListQuery, TokenOffer, is_later, offer_in, page_shown, selection_in}
use Rattle.oai_laws.specs.Runs.{IsPart, Transition, run}
use Rattle.oai_laws.specs.Shown.{IsRegularOutcome}
use Rattle.oai_laws.proofs.ShownLemmas.{regular_act}
use Rattle.oai_http.specs.declared.exchanges.Answer.{Answer}
use Rattle.oai_http.specs.declared.exchanges.Call.{Call}
use Rattle.oai_host.specs.Alone.{exchanged_alone}
use Rattle.oai_host.specs.Answers.{answer_of}
use Rattle.oai_headline.specs.Visits.{Visit, commands_in, found_by, visits}
use Rattle.oai_headline.specs.Chains.{AreNextVisits, IsFollowing, IsNextVisit, IsPrinted, IsRequest, IsStepOf}
use Rattle.oai_headline.proofs.EndLemmas.{EndsAt, end_writable}
use Rattle.oai_headline.proofs.PrintedLemmas.{IsReplied, page_ends}
use Rattle.oai_headline.proofs.TakenLemmas.{IsReachable, only_step, reachable_after, reachable_empty, reachable_moved, replied_act, request_in, step_with}

-- ---- each visit comes upon a state that commands lead to

abbrev pub IsReached : RepositoryConfig → Visit → Type 0
IsReached config visit = IsReachable config visit.before

pub all_reached : (config : RepositoryConfig) (state : RepoState) (calls : List Call) → IsReachable config state → AllByRecursion (IsReached config) (visits config state calls)
all_reached config state [] h = tt
all_reached config state (call ∷ calls) h = (h, all_reached config (exchanged_alone config state call).1 calls (reachable_after config state call h))

pub part_reached : (config : RepositoryConfig) (some all : List Visit) → IsPart some all → AllByRecursion (IsReached config) all → AllByRecursion (IsReached config) some
part_reached config some [] none h = subst (AllByRecursion (IsReached config)) (sym none) tt
part_reached config some (visit ∷ all) (inl part) h = part_reached config some all part h.1
part_reached config some (visit ∷ all) (inr here) h =
    subst (AllByRecursion (IsReached config)) (sym here.1) (h.0, part_reached config here.0 all here.2 h.1)

-- ---- the token that is printed

pub offer_end : (end : ℤ) (continuation : Continuation) (offer : TokenOffer) → offer_in continuation ≡ Some offer → EndsAt end continuation → offer.expires ≡ end
offer_end end whole offer offered ends = cc
offer_end end (completes extent) offer offered ends = cc
offer_end end (remains expires extent token) offer offered ends =
    let is : record { token = token; expires = expires } ≡ offer = cc in
    ap (λ (o : TokenOffer). o.expires) (sym is) ∙ ends

printed_by : (g : Granularity) (end : ℤ) (outcome : Outcome) (answer : Answer) (page : Page) (offer : TokenOffer) → answer ≡ answer_of (outcome_output g outcome) → IsReplied end outcome
    → IsRegularOutcome outcome → IsWritable end → page_shown outcome ≡ Some page → offer_in page.continuation ≡ Some offer → IsPrinted answer offer
unfolding outcome_output
printed_by g end (documented its) answer page offer is replied regular lasts told offered = record {
  its = its;
  page = page;
  written = is;
  told = told;
  offered = offered;
  regular = regular;
  dated = subst IsWritable (sym (offer_end end page.continuation offer offered (page_ends end its.answer page told replied))) lasts;
}
printed_by g end (later seconds) answer page offer is replied regular lasts told offered = cc
printed_by g end (accepted stamp) answer page offer is replied regular lasts told offered = absurd replied
printed_by g end (refused_with cause) answer page offer is replied regular lasts told offered = absurd replied

step_is : (config : RepositoryConfig) (visit : Visit) (step : Transition) (h : IsStepOf config visit step) → step ≡ step_with config visit h.arguments
step_is config visit step h =
    let both : step ∷ [] ≡ step_with config visit h.arguments ∷ [] = sym h.only ∙ only_step config visit h.arguments h.asked in
    let it : step ≡ step_with config visit h.arguments = cc in it

pub printed_at : (config : RepositoryConfig) (visit : Visit) (step : Transition) (page : Page) (offer : TokenOffer) → IsConfig config → AreRepositoryFormats config.formats → IsReached config visit
    → IsStepOf config visit step → page_shown step.outcome ≡ Some page → offer_in page.continuation ≡ Some offer → IsPrinted visit.answer offer
printed_at config visit step page offer rules formats before h told offered =
    let found : RepoState = found_by visit in
    let reachable = reachable_moved config visit.call.moment visit.before before in
    let is : step ≡ step_with config visit h.arguments = step_is config visit step h in
    printed_by config.granularity (found.clock +ℤ pos config.lifetime) step.outcome visit.answer page offer h.written
    (subst (λ (e : Transition). IsReplied (found.clock +ℤ pos config.lifetime) e.outcome) (sym is) (replied_act config found h.arguments))
    (subst (λ (e : Transition). IsRegularOutcome e.outcome) (sym is) (regular_act config found (request_in config h.arguments) formats reachable.sound))
    (end_writable config found.clock rules reachable.years) told offered

-- ---- the links

pub its_request : (config : RepositoryConfig) (visit : Visit) (step : Transition) (request : AskOrError) → IsStepOf config visit step → step.command ≡ requesting request → IsRequest config.granularity visit.call request
its_request config visit step request h is =
    let both : requesting (request_of config.granularity (decoded_pairs h.arguments)) ≡ requesting request = ap (λ (e : Transition). e.command) (sym (step_is config visit step h)) ∙ is in
    let read : request_of config.granularity (decoded_pairs h.arguments) ≡ request = cc in
    record { arguments = h.arguments; asked = h.asked; read = read }

met : (config : RepositoryConfig) (verb : ListVerb) (before after : Visit) (b a : Transition) → IsConfig config → AreRepositoryFormats config.formats → IsReached config before → IsStepOf config before b
    → IsStepOf config after a → IsNextRequest verb b a → IsNextVisit config verb before after
met config verb before after b a rules formats reached is its next = record {
  offer = next.offer;
  printed = printed_at config before b next.page next.offer rules formats reached is next.told next.offered;
  asked = its_request config after a _ its next.asked;
  unexpired = ap (λ (state : RepoState). int_lt state.clock next.offer.expires) (sym its.found) ∙ next.unexpired;
}

all_met : (config : RepositoryConfig) (verb : ListVerb) (before : Visit) (others : List Visit) (b : Transition) (steps : List Transition) → IsConfig config → AreRepositoryFormats config.formats
    → IsReached config before → AllByRecursion (IsReached config) others → IsStepOf config before b → AllZip (IsStepOf config) others steps → AreNext verb b steps
    → AreNextVisits config verb before others
all_met config verb before [] b steps rules formats here reached is each next = tt
all_met config verb before (visit ∷ others) b [] rules formats here reached is each next = absurd each
all_met config verb before (visit ∷ others) b (a ∷ steps) rules formats here reached is each next =
    (met config verb before visit b a rules formats here is each.0 next.0, all_met config verb visit others a steps rules formats reached.0 reached.1 each.0 each.1 next.1)

not_told_to_wait : (g : Granularity) (outcome : Outcome) → is_later outcome ≡ false → (answer_of (outcome_output g outcome)).seconds ≡ None
unfolding outcome_output
not_told_to_wait g (documented its) h = refl
not_told_to_wait g (later seconds) h = cc
not_told_to_wait g (accepted stamp) h = refl
not_told_to_wait g (refused_with cause) h = refl

pub visits_met : (config : RepositoryConfig) (calls : List Call) (list_request : ListQuery) (first : Visit) (others : List Visit) (step : Transition) (steps : List Transition) → IsConfig config
    → AreRepositoryFormats config.formats → IsPart (first ∷ others) (visits config (empty_state config) calls) → AllZip (IsStepOf config) (first ∷ others) (step ∷ steps)
    → IsChain config (run config (empty_state config) (commands_in config calls)) list_request step steps
    → IsFollowing config (visits config (empty_state config) calls) list_request first others
visits_met config calls list_request first others step steps rules formats among each chain =
    let reached = part_reached config (first ∷ others) (visits config (empty_state config) calls) among (all_reached config (empty_state config) calls (reachable_empty config rules)) in
    record {
      among = among;
      verb = chain.verb;
      asked = its_request config first step _ each.0 chain.asked;
      long = subst (λ (state : RepoState). config.chunk < length (selection_in state list_request)) each.0.found chain.long;
      answered = ap (λ (answer : Answer). answer.seconds) each.0.written ∙ not_told_to_wait config.granularity step.outcome chain.answered;
      next = all_met config list_request.verb first others step steps rules formats reached.0 reached.1 each.0 each.1 chain.next;
    }
