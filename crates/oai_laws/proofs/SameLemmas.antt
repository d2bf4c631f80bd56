-- What commands leave as it was.
use Rattle.std.proofs.Common.{◌≡◌, ℕ, true, List, Option, None, Some, refl}
use Rattle.oai_names.specs.declared.list_verbs.ListVerb.{ListVerb}
use Rattle.oai_names.specs.declared.list_verbs.ListVerb.TheVariants as list
use Rattle.oai_item.specs.Formats.{format_named}
use Rattle.oai_deposit.specs.declared.changes.Change.{Change}
use Rattle.oai_item.specs.declared.formats.Format.{Format}
use Rattle.oai_item.specs.declared.refusals.ChangeRefusal.{ChangeRefusal}
use Rattle.oai_lists.specs.Tokens.{token_of}
use Rattle.oai_lists.specs.declared.tokens.Token.{Token}
use Rattle.oai_args.specs.Asks.{AskOrError, asks, bad_verb, bad_argument}
use Rattle.oai_args.specs.declared.requests.Ask.TheVariants as ask
use Rattle.oai_answers.specs.Answers.{Attributes, Page, fails}
use Rattle.oai_answers.specs.declared.errors.ErrorCode.TheVariants.{BadResumptionToken}
use Rattle.oai_settings.specs.Config.{RepositoryConfig}
use Rattle.oai_repo.specs.Answers.{arguments_of_request}
use Rattle.oai_holdings.specs.Changes.{refusal_of, stamp_at}
use Rattle.oai_repo.specs.Listing.{Response, continued_response, list_continued, part_from, part_answer, prolonged, token_response}
use Rattle.oai_repo.specs.Machine.{act, act_on_change, requesting, changing, outcome_of}
use Rattle.oai_repo.specs.State.{FrozenList, OpenLists, RepoState}
use Rattle.oai_laws.specs.Effects.{is_of_no_list}
use Rattle.oai_laws.specs.Following.{answer_in}
use Rattle.oai_laws.proofs.EffectLemmas.{asked_to}

-- a request
pub requests_keep : (config : RepositoryConfig) (state : RepoState) (request : AskOrError) → (act config state (requesting request)).1.holdings ≡ state.holdings
unfolding act
requests_keep config state request = refl

-- a change
made_keeps : (config : RepositoryConfig) (state : RepoState) (change : Change) (refusal : Option ChangeRefusal) → (act_on_change config state (stamp_at config state.clock) change refusal).1.open_lists ≡ state.open_lists
made_keeps config state change (Some cause) = refl
made_keeps config state change None = refl

pub changes_keep : (config : RepositoryConfig) (state : RepoState) (change : Change) → (act config state (changing change)).1.open_lists ≡ state.open_lists
unfolding act
changes_keep config state change = made_keeps config state change (refusal_of config (stamp_at config state.clock) state.holdings change)

-- a request that is of no list
pub others_keep : (config : RepositoryConfig) (state : RepoState) (request : AskOrError) → is_of_no_list request ≡ true → (act config state (requesting request)).1 ≡ state
unfolding act
others_keep config state bad_verb h = refl
others_keep config state bad_argument h = refl
others_keep config state (asks ask.Identify) h = refl
others_keep config state (asks (ask.Formats identifier)) h = refl
others_keep config state (asks ask.Sets) h = refl
others_keep config state (asks (ask.Get identifier prefix)) h = refl
others_keep config state (asks (ask.List verb prefix from until set)) h = cc
others_keep config state (asks (ask.Resume verb token)) h = cc

-- a token that is refused: what is told of a list that is continued is no badResumptionToken
never_refused : (verb : ListVerb) (format : Option Format) (page : Page) → Some (part_answer verb format page) ≡ Some (fails BadResumptionToken) → ⊥
never_refused verb None page h = cc
never_refused list.Identifiers (Some format) page h = cc
never_refused list.Records (Some format) page h = cc
never_refused list.Sets (Some format) page h = cc

-- the state is as it was where that was said
abbrev pub IsSame : RepositoryConfig → RepoState → Attributes → Response × OpenLists → Type 0
IsSame config state asked done = answer_in (outcome_of config state.clock asked done.0) ≡ Some (fails BadResumptionToken) → asked_to state done.1 ≡ state

continued_same : (config : RepositoryConfig) (state : RepoState) (asked : Attributes) (verb : ListVerb) (cursor : ℕ) (found : Option FrozenList)
    → IsSame config state asked (continued_response config state.clock state.open_lists verb cursor found)
continued_same config state asked verb cursor None = λ told. refl
continued_same config state asked verb cursor (Some list) = λ told.
    absurd (never_refused verb (format_named list.prefix config.formats) (part_from config (prolonged config state.clock list) cursor) told)

token_same : (config : RepositoryConfig) (state : RepoState) (asked : Attributes) (verb : ListVerb) (token : Option Token) → IsSame config state asked (token_response config state.clock state.open_lists verb token)
token_same config state asked verb None = λ told. refl
token_same config state asked verb (Some token) = continued_same config state asked verb token.cursor (list_continued config state.open_lists verb token)

pub tokens_keep : (config : RepositoryConfig) (state : RepoState) (verb : ListVerb) (token : List ℕ)
    → (let done = act config state (requesting (asks (ask.Resume verb token))) in answer_in done.0 ≡ Some (fails BadResumptionToken) → done.1 ≡ state)
unfolding act
tokens_keep config state verb token = token_same config state (arguments_of_request (asks (ask.Resume verb token))) verb (token_of token)
