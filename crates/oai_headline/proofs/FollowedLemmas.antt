-- A chain of visits is a chain of the machine's steps; so its pages are what was selected.
use Rattle.std.proofs.Common.{◌≡◌, ◌∙◌, ◌<◌, ℕ, List, [], ◌∷◌, length, map, Some, sym, ap, subst}
use Rattle.std.specs.Prelude.{int_lt}
use Rattle.std.specs.List.{AllByRecursion, AllZip, flat_map}
use Rattle.oai_names.specs.declared.list_verbs.ListVerb.{ListVerb}
use Rattle.oai_item.specs.Formats.{AreRepositoryFormats}
use Rattle.oai_args.specs.Asks.{AskOrError}
use Rattle.oai_args.specs.Pairs.{decoded_pairs}
use Rattle.oai_args.specs.Requests.{request_of}
use Rattle.oai_settings.specs.Config.{IsConfig, RepositoryConfig}
use Rattle.oai_item.specs.declared.formats.Format.{Format}
use Rattle.oai_repo.specs.Listing.{answer_by_verb}
use Rattle.oai_repo.specs.Machine.{Outcome, accepted, documented, later, outcome_output, refused_with, requesting}
use Rattle.oai_repo.specs.State.{RepoState, empty_state}
use Rattle.oai_laws.specs.Following.{AreNext, IsChain, IsFollowedThrough, IsNextRequest, ListQuery, answer_in, selection_in}
use Rattle.oai_laws.specs.Runs.{IsPart, Transition, run}
use Rattle.oai_laws.proofs.ChainLemmas.{chain_followed}
use Rattle.oai_http.specs.declared.exchanges.Answer.{Answer}
use Rattle.oai_http.specs.declared.exchanges.Call.{Call}
use Rattle.oai_host.specs.Answers.{answer_of}
use Rattle.oai_host.specs.Tasks.{asking}
use Rattle.oai_answers.specs.Answers.{Page}
use Rattle.oai_headline.specs.Visits.{Visit, commands_in, found_by, steps_of, visits}
use Rattle.oai_headline.specs.Chains.{AreNextVisits, AreReached, IsFollowing, IsNextVisit, IsPageOf, IsRequest, IsStepOf}
use Rattle.oai_headline.proofs.CarriedLemmas.{steps_run}
use Rattle.oai_headline.proofs.PrintedLemmas.{not_later}
use Rattle.oai_headline.proofs.TakenLemmas.{AreTaken, IsAsking, IsReachable, IsTaken, reachable_empty, taken, taken_command, taken_found, taken_offer, taken_step, taken_written}

-- ---- each visit of a chain is a request

pub next_asking : (config : RepositoryConfig) (verb : ListVerb) (before : Visit) (others : List Visit) → AreNextVisits config verb before others → AllByRecursion IsAsking others
next_asking config verb before [] next = tt
next_asking config verb before (visit ∷ others) next =
    (record { arguments = next.0.asked.arguments; asked = next.0.asked.asked }, next_asking config verb visit others next.1)

-- and the command of its step is that request
pub its_command : (config : RepositoryConfig) (visit : Visit) (step : Transition) (request : AskOrError) → IsTaken config visit step → IsRequest config.granularity visit.call request
    → step.command ≡ requesting request
its_command config visit step request is asked =
    let asks : asking is.arguments ≡ asking asked.arguments = sym is.asked ∙ asked.asked in
    let same : is.arguments ≡ asked.arguments = cc in
    taken_command config visit step is
    ∙ ap (λ (arguments : List ℕ). requesting (request_of config.granularity (decoded_pairs arguments))) same
    ∙ ap requesting asked.read

-- ---- the links

link : (config : RepositoryConfig) (verb : ListVerb) (before after : Visit) (b a : Transition) → IsConfig config → AreRepositoryFormats config.formats → IsTaken config before b → IsTaken config after a
    → IsNextVisit config verb before after → IsNextRequest verb b a
link config verb before after b a rules formats is its next =
    let told = taken_offer config before b next.offer rules formats is next.printed in
    record {
      page = told.0;
      offer = next.offer;
      told = told.1;
      offered = told.2;
      asked = its_command config after a _ its next.asked;
      unexpired = ap (λ (state : RepoState). int_lt state.clock next.offer.expires) (taken_found config after a its) ∙ next.unexpired;
    }

links : (config : RepositoryConfig) (verb : ListVerb) (before : Visit) (others : List Visit) (b : Transition) (steps : List Transition) → IsConfig config → AreRepositoryFormats config.formats
    → IsTaken config before b → AllZip (IsTaken config) others steps → AreNextVisits config verb before others → AreNext verb b steps
links config verb before [] b [] rules formats is each next = tt
links config verb before [] b (a ∷ steps) rules formats is each next = absurd each
links config verb before (visit ∷ others) b [] rules formats is each next = absurd each
links config verb before (visit ∷ others) b (a ∷ steps) rules formats is each next =
    (link config verb before visit b a rules formats is each.0 next.0, links config verb visit others a steps rules formats each.0 each.1 next.1)

-- ---- the whole

steps_of_each : (config : RepositoryConfig) (some : List Visit) (steps : List Transition) → AllZip (IsTaken config) some steps → AllZip (IsStepOf config) some steps
steps_of_each config [] [] each = tt
steps_of_each config [] (step ∷ steps) each = absurd each
steps_of_each config (visit ∷ some) [] each = absurd each
steps_of_each config (visit ∷ some) (step ∷ steps) each = (taken_step config visit step each.0, steps_of_each config some steps each.1)

-- what is answered tells the page
page_of : (config : RepositoryConfig) (verb : ListVerb) (format : Format) (visit : Visit) (page : Page) (outcome : Outcome) → visit.answer ≡ answer_of (outcome_output config.granularity outcome)
    → answer_in outcome ≡ Some (answer_by_verb verb format page) → IsPageOf verb format visit page
unfolding outcome_output
page_of config verb format visit page (documented its) written told = record { its = its; written = written; told = let e : its.answer ≡ answer_by_verb verb format page = cc in e }
page_of config verb format visit page (later seconds) written told = cc
page_of config verb format visit page (accepted stamp) written told = cc
page_of config verb format visit page (refused_with cause) written told = cc

pages_of : (config : RepositoryConfig) (verb : ListVerb) (format : Format) (some : List Visit) (steps : List Transition) (pages : List Page) → AllZip (IsTaken config) some steps
    → map (λ (exchange : Transition). answer_in exchange.outcome) steps ≡ map (λ (page : Page). Some (answer_by_verb verb format page)) pages
    → AllZip (IsPageOf verb format) some pages
pages_of config verb format [] [] [] each told = tt
pages_of config verb format [] [] (page ∷ pages) each told = cc
pages_of config verb format [] (step ∷ steps) pages each told = absurd each
pages_of config verb format (visit ∷ some) [] pages each told = absurd each
pages_of config verb format (visit ∷ some) (step ∷ steps) [] each told = cc
pages_of config verb format (visit ∷ some) (step ∷ steps) (page ∷ pages) each told =
    let here : answer_in step.outcome ≡ Some (answer_by_verb verb format page) = cc in
    let rest : map (λ (exchange : Transition). answer_in exchange.outcome) steps ≡ map (λ (page : Page). Some (answer_by_verb verb format page)) pages = cc in (
      page_of config verb format visit page step.outcome (taken_written config visit step each.0) here,
      pages_of config verb format some steps pages each.1 rest,
    )

reached : (config : RepositoryConfig) (state : RepoState) (calls : List Call) (all : List Visit) (list_request : ListQuery) (first : Visit) (others : List Visit) (steps : List Transition)
    → IsConfig config → AreRepositoryFormats config.formats → IsReachable config state → IsFollowing config all list_request first others → AllZip (IsTaken config) (first ∷ others) steps
    → IsPart steps (run config state (commands_in config calls)) → AreReached config list_request first others
reached config state calls all list_request first others [] rules formats reachable chain each among = absurd each
reached config state calls all list_request first others (step ∷ steps) rules formats reachable chain each among =
    let found : step.found ≡ found_by first = taken_found config first step each.0 in
    let its : IsChain config (run config state (commands_in config calls)) list_request step steps =
    record {
      among = among;
      verb = chain.verb;
      asked = its_command config first step _ each.0 chain.asked;
      long = subst (λ (state : RepoState). config.chunk < length (selection_in state list_request)) (sym found) chain.long;
      answered = not_later config.granularity step.outcome (ap (λ (answer : Answer). answer.seconds) (sym (taken_written config first step each.0)) ∙ chain.answered);
      next = links config list_request.verb first others step steps rules formats each.0 each.1 chain.next;
    }
    in
    let told = chain_followed config (commands_in config calls) state list_request step steps rules reachable.sound its in
    let followed : IsFollowedThrough config list_request (selection_in (found_by first) list_request) (step ∷ steps) told.0 =
    subst (λ (state : RepoState). IsFollowedThrough config list_request (selection_in state list_request) (step ∷ steps) told.0) found told.1
    in
    record {
      steps = step ∷ steps;
      each = steps_of_each config (first ∷ others) (step ∷ steps) each;
      pages = told.0;
      followed = followed;
      printed = pages_of config list_request.verb followed.format (first ∷ others) (step ∷ steps) told.0 each followed.told;
    }

pub visits_followed_from : (config : RepositoryConfig) (state : RepoState) (calls : List Call) (list_request : ListQuery) (first : Visit) (others : List Visit) → IsConfig config → AreRepositoryFormats config.formats
    → IsReachable config state → IsFollowing config (visits config state calls) list_request first others → AreReached config list_request first others
visits_followed_from config state calls list_request first others rules formats reachable chain =
    let all : List Visit = visits config state calls in
    let asks : AllByRecursion IsAsking (first ∷ others) =
    (record { arguments = chain.asked.arguments; asked = chain.asked.asked }, next_asking config list_request.verb first others chain.next)
    in
    let steps : AreTaken config (first ∷ others) (flat_map (steps_of config) all) = taken config state calls (first ∷ others) reachable asks chain.among in
    reached config state calls all list_request first others steps.steps rules formats reachable chain steps.each
    (subst (IsPart steps.steps) (steps_run config state calls) steps.among)

pub visits_followed : (config : RepositoryConfig) (calls : List Call) (list_request : ListQuery) (first : Visit) (others : List Visit) → IsConfig config → AreRepositoryFormats config.formats
    → IsFollowing config (visits config (empty_state config) calls) list_request first others → AreReached config list_request first others
visits_followed config calls list_request first others rules formats chain =
    visits_followed_from config (empty_state config) calls list_request first others rules formats (reachable_empty config rules) chain
