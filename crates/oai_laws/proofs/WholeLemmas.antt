-- A list request that selects no more than a page has is answered with all of it, and one that selects nothing with an error.
use Rattle.std.proofs.Common.{◌≡◌, ◌≢◌, ◌∙◌, ℕ, ℤ, ◌≤◌, true, ◌&&◌, List, [], ◌∷◌, length, Option, None, Some, is_some, refl, ap, arith}
use Rattle.std.specs.Prelude.{nat_le}
use Rattle.std.proofs.lemmas.Bool.{cond-true, cond-false, cond_both}
use Rattle.std.proofs.lemmas.Bool.Decides.{nat_tests}
use Rattle.oai_names.specs.declared.list_verbs.ListVerb.{ListVerb}
use Rattle.oai_item.specs.Formats.{format_named}
use Rattle.oai_item.specs.Item.{ItemState}
use Rattle.oai_item.specs.declared.formats.Format.{Format}
use Rattle.oai_args.specs.Asks.{asks}
use Rattle.oai_args.specs.declared.requests.Ask.TheVariants as ask
use Rattle.oai_answers.specs.Answers.{fails}
use Rattle.oai_answers.specs.declared.errors.ErrorCode.{ErrorCode}
use Rattle.oai_answers.specs.declared.errors.ErrorCode.TheVariants.{CannotDisseminateFormat, NoRecordsMatch, NoSetHierarchy}
use Rattle.oai_settings.specs.Config.{RepositoryConfig}
use Rattle.oai_repo.specs.Listing.{Response, request_response, opens_list, has_no_sets, list_response, new_list, with_answer, answer_by_verb, format_response, selection_response, complete_answer, wait_at, complete_page}
use Rattle.oai_repo.specs.State.{OpenLists, RepoState}
use Rattle.oai_laws.specs.Effects.{IsSound}
use Rattle.oai_args.specs.Verbs.{is_of_records}
use Rattle.oai_laws.specs.Following.{IsAnsweredNone, IsAnsweredWhole, ListQuery, first_request, selection_in}
use Rattle.oai_laws.proofs.ChainLemmas.{format_there, sets_there}
use Rattle.oai_laws.proofs.FollowLemmas.{asked_page}

le_test : (a b : ℕ) → a ≤ b → nat_le a b ≡ true
le_test a b h = grind (arith, nat_tests)

-- ---- what is said

-- items that are no more than a page has
told_short : (config : RepositoryConfig) (clock : ℤ) (open_lists : OpenLists) (verb : ListVerb) (format : Format) (items : List ItemState) → length items ≤ config.chunk
    → selection_response config clock open_lists verb format items ≡ (with_answer (complete_answer config verb format items), open_lists)
unfolding selection_response
told_short config clock open_lists verb format items few =
    cond-true (nat_le (length items) config.chunk) (with_answer (complete_answer config verb format items), open_lists) (opens_list config open_lists format (new_list config clock open_lists verb format.prefix items) (wait_at config clock open_lists))
    (le_test (length items) config.chunk few)

told_some : (config : RepositoryConfig) (verb : ListVerb) (format : Format) (items : List ItemState) → items ≢ [] → complete_answer config verb format items ≡ answer_by_verb verb format (complete_page config items)
told_some config verb format [] some = absurd (some refl)
told_some config verb format (item ∷ items) some = refl

-- an error was said, and the same lists are open
abbrev IsError : OpenLists → Response × OpenLists → Type 0
IsError open_lists done = (code : ErrorCode) × (done ≡ (with_answer (fails code), open_lists))

none_in : (config : RepositoryConfig) (clock : ℤ) (open_lists : OpenLists) (verb : ListVerb) (format : Option Format) → IsError open_lists (format_response config clock open_lists verb format [])
none_in config clock open_lists verb None = (CannotDisseminateFormat, refl)
none_in config clock open_lists verb (Some format) = (NoRecordsMatch, told_short config clock open_lists verb format [] (omega arith))

none_said : (config : RepositoryConfig) (state : RepoState) (list_request : ListQuery) → IsError state.open_lists (list_response config state.clock state.open_lists state.holdings.sets list_request.verb list_request.prefix list_request.set [])
none_said config state list_request =
    cond_both (is_some list_request.set && has_no_sets state.holdings.sets) _ _ (IsError state.open_lists)
    (λ _. (NoSetHierarchy, refl))
    (λ _. none_in config state.clock state.open_lists list_request.verb (format_named list_request.prefix config.formats))

-- ---- what is answered

pub whole_told : (config : RepositoryConfig) (state : RepoState) (list_request : ListQuery) → IsSound config state → is_of_records list_request.verb ≡ true → selection_in state list_request ≢ [] → length (selection_in state list_request) ≤ config.chunk → IsAnsweredWhole config state list_request
whole_told config state list_request sound verb some few =
    let items : List ItemState = selection_in state list_request in
    let format = format_there config state.holdings list_request.prefix list_request.from list_request.until list_request.set (format_named list_request.prefix config.formats) refl sound.kept some in
    let said : request_response config state (asks (ask.List list_request.verb list_request.prefix list_request.from list_request.until list_request.set)) ≡ (with_answer (answer_by_verb list_request.verb format.0 (complete_page config items)), state.open_lists) =
    cond-false (is_some list_request.set && has_no_sets state.holdings.sets) (with_answer (fails NoSetHierarchy), state.open_lists)
    (format_response config state.clock state.open_lists list_request.verb (format_named list_request.prefix config.formats) items)
    (sets_there config state.holdings list_request.prefix list_request.from list_request.until list_request.set state.holdings.sets refl sound.kept some)
    ∙ ap (λ (f : Option Format). format_response config state.clock state.open_lists list_request.verb f items) format.1
    ∙ told_short config state.clock state.open_lists list_request.verb format.0 items few
    ∙ ap (λ answer. (with_answer answer, state.open_lists)) (told_some config list_request.verb format.0 items some)
    in
    let done = asked_page config state (first_request list_request) _ _ _ refl said in
    record {
      format = format.0;
      known = format.1;
      page = complete_page config items;
      items = refl;
      dated = refl;
      tokenless = refl;
      told = done.0;
      left = done.1;
    }

pub none_told : (config : RepositoryConfig) (state : RepoState) (list_request : ListQuery) → selection_in state list_request ≡ [] → IsAnsweredNone config state list_request
none_told config state list_request none =
    let said = none_said config state list_request in
    let done = asked_page config state (first_request list_request) _ _ _ refl
    (ap (list_response config state.clock state.open_lists state.holdings.sets list_request.verb list_request.prefix list_request.set) none ∙ said.1)
    in
    record { code = said.0; told = done.0; left = done.1 }
