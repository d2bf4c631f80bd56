-- A request that is told to wait leaves the state, and is told to wait for the seconds for which no further list begins.
use Rattle.std.proofs.Common.{◌≡◌, ℕ, ℤ, List, ◌&&◌, Option, None, Some, length, refl}
use Rattle.std.specs.Prelude.{is_some, nat_le}
use Rattle.std.proofs.lemmas.Bool.{cond_both}
use Rattle.oai_names.specs.declared.list_verbs.ListVerb.{ListVerb}
use Rattle.oai_item.specs.Formats.{format_named}
use Rattle.oai_item.specs.Item.{ItemState}
use Rattle.oai_item.specs.Selection.{selected}
use Rattle.oai_deposit.specs.declared.changes.Change.{Change}
use Rattle.oai_item.specs.declared.formats.Format.{Format}
use Rattle.oai_item.specs.declared.refusals.ChangeRefusal.{ChangeRefusal}
use Rattle.oai_lists.specs.Tokens.{token_of}
use Rattle.oai_lists.specs.declared.tokens.Token.{Token}
use Rattle.oai_args.specs.Asks.{AskOrError, asks, bad_verb, bad_argument}
use Rattle.oai_args.specs.declared.requests.Ask.TheVariants as ask
use Rattle.oai_answers.specs.Answers.{Attributes}
use Rattle.oai_settings.specs.Config.{RepositoryConfig}
use Rattle.oai_repo.specs.Answers.{arguments_of_request, filter_of}
use Rattle.oai_holdings.specs.Changes.{refusal_of, stamp_at}
use Rattle.oai_repo.specs.Listing.{Response, request_response, opens_list, continued_response, has_no_sets, list_response, new_list, list_continued, format_response, selection_response, token_response, wait_at}
use Rattle.oai_repo.specs.Machine.{Command, act, act_on_change, requesting, changing, later, outcome_of, rejecting}
use Rattle.oai_repo.specs.State.{FrozenList, OpenLists, RepoState}
use Rattle.oai_laws.specs.Waiting.{IsRetriedLater}
use Rattle.oai_laws.proofs.EffectLemmas.{asked_to}

-- so it is of what was said, with the lists that are open then
abbrev WaitsIf : RepositoryConfig → RepoState → Attributes → ℤ → Response × OpenLists → Type 0
WaitsIf config state asked seconds done = outcome_of config state.clock asked done.0 ≡ later seconds → IsRetriedLater config state seconds (asked_to state done.1)

begun_waits : (config : RepositoryConfig) (state : RepoState) (asked : Attributes) (seconds : ℤ) (format : Format) (list : FrozenList) (wait : Option ℤ) → wait_at config state.clock state.open_lists ≡ wait
    → WaitsIf config state asked seconds (opens_list config state.open_lists format list wait)
begun_waits config state asked seconds format list (Some its) is = λ told. record { why = cc; same = refl }
begun_waits config state asked seconds format list None is = λ told. cc

items_wait : (config : RepositoryConfig) (state : RepoState) (asked : Attributes) (seconds : ℤ) (verb : ListVerb) (format : Format) (items : List ItemState)
    → WaitsIf config state asked seconds (selection_response config state.clock state.open_lists verb format items)
unfolding selection_response
items_wait config state asked seconds verb format items =
    cond_both (nat_le (length items) config.chunk) _ _ (λ (done : Response × OpenLists). WaitsIf config state asked seconds done)
    (λ _. λ told. cc)
    (λ _. begun_waits config state asked seconds format (new_list config state.clock state.open_lists verb format.prefix items) (wait_at config state.clock state.open_lists) refl)

format_waits : (config : RepositoryConfig) (state : RepoState) (asked : Attributes) (seconds : ℤ) (verb : ListVerb) (format : Option Format) (items : List ItemState)
    → WaitsIf config state asked seconds (format_response config state.clock state.open_lists verb format items)
format_waits config state asked seconds verb None items = λ told. cc
format_waits config state asked seconds verb (Some format) items = items_wait config state asked seconds verb format items

list_waits : (config : RepositoryConfig) (state : RepoState) (asked : Attributes) (seconds : ℤ) (verb : ListVerb) (prefix : List ℕ) (set : Option (List ℕ)) (items : List ItemState)
    → WaitsIf config state asked seconds (list_response config state.clock state.open_lists state.holdings.sets verb prefix set items)
list_waits config state asked seconds verb prefix set items =
    cond_both (is_some set && has_no_sets state.holdings.sets) _ _ (λ (done : Response × OpenLists). WaitsIf config state asked seconds done)
    (λ _. λ told. cc)
    (λ _. format_waits config state asked seconds verb (format_named prefix config.formats) items)

continued_waits : (config : RepositoryConfig) (state : RepoState) (asked : Attributes) (seconds : ℤ) (verb : ListVerb) (cursor : ℕ) (found : Option FrozenList)
    → WaitsIf config state asked seconds (continued_response config state.clock state.open_lists verb cursor found)
continued_waits config state asked seconds verb cursor None = λ told. cc
continued_waits config state asked seconds verb cursor (Some list) = λ told. cc

token_waits : (config : RepositoryConfig) (state : RepoState) (asked : Attributes) (seconds : ℤ) (verb : ListVerb) (token : Option Token)
    → WaitsIf config state asked seconds (token_response config state.clock state.open_lists verb token)
token_waits config state asked seconds verb None = λ told. cc
token_waits config state asked seconds verb (Some token) = continued_waits config state asked seconds verb token.cursor (list_continued config state.open_lists verb token)

request_waits : (config : RepositoryConfig) (state : RepoState) (asked : Attributes) (seconds : ℤ) (request : AskOrError) → WaitsIf config state asked seconds (request_response config state request)
request_waits config state asked seconds bad_verb = λ told. cc
request_waits config state asked seconds bad_argument = λ told. cc
request_waits config state asked seconds (asks ask.Identify) = λ told. cc
request_waits config state asked seconds (asks (ask.Formats identifier)) = λ told. cc
request_waits config state asked seconds (asks ask.Sets) = λ told. cc
request_waits config state asked seconds (asks (ask.Get identifier prefix)) = λ told. cc
request_waits config state asked seconds (asks (ask.List verb prefix from until set)) =
    list_waits config state asked seconds verb prefix set (selected (filter_of prefix from until set) state.holdings.items)
request_waits config state asked seconds (asks (ask.Resume verb token)) = token_waits config state asked seconds verb (token_of token)

change_waits : (config : RepositoryConfig) (state : RepoState) (stamp seconds : ℤ) (change : Change) (refusal : Option ChangeRefusal)
    → (let done = act_on_change config state stamp change refusal in done.0 ≡ later seconds → IsRetriedLater config state seconds done.1)
change_waits config state stamp seconds change (Some cause) = λ told. cc
change_waits config state stamp seconds change None = λ told. cc

pub told_to_wait : (config : RepositoryConfig) (state : RepoState) (command : Command) (seconds : ℤ)
    → (let done = act config state command in done.0 ≡ later seconds → IsRetriedLater config state seconds done.1)
unfolding act
told_to_wait config state (requesting request) seconds = request_waits config state (arguments_of_request request) seconds request
told_to_wait config state (changing change) seconds =
    change_waits config state (stamp_at config state.clock) seconds change (refusal_of config (stamp_at config state.clock) state.holdings change)
told_to_wait config state (rejecting cause) seconds = λ told. cc
