-- A request with a token is answered with a page, or is told that no list is open which the token continues.
use Rattle.std.proofs.Common.{◌≡◌, inl, inr, ℕ, ℤ, true, List, length, Option, None, Some, is_some, refl}
use Rattle.std.specs.Prelude.{find}
use Rattle.std.proofs.lemmas.Bool.{and_parts, cond_both}
use Rattle.oai_names.specs.declared.list_verbs.ListVerb.{ListVerb}
use Rattle.oai_names.specs.declared.list_verbs.ListVerb.TheVariants as list
use Rattle.oai_item.specs.Formats.{format_named}
use Rattle.oai_item.specs.declared.formats.Format.{Format}
use Rattle.oai_lists.specs.Tokens.{token_of}
use Rattle.oai_lists.specs.declared.tokens.Token.{Token}
use Rattle.oai_args.specs.Asks.{asks}
use Rattle.oai_args.specs.declared.requests.Ask.TheVariants as ask
use Rattle.oai_answers.specs.Answers.{Attributes, Page}
use Rattle.oai_settings.specs.Config.{RepositoryConfig}
use Rattle.oai_repo.specs.Answers.{arguments_of_request}
use Rattle.oai_repo.specs.Listing.{Response, continued_response, is_of_number, is_continued, is_same_verb, is_valid_cursor, part_from, part_answer, prolonged, with_answer, answer_by_verb, token_response, where_continued}
use Rattle.oai_repo.specs.Machine.{act, requesting, outcome_of}
use Rattle.oai_repo.specs.State.{FrozenList, OpenLists, RepoState}
use Rattle.oai_laws.specs.Effects.{IsSound, is_frozen_of_format}
use Rattle.oai_laws.specs.Following.{IsContinued, page_in, page_shown}
use Rattle.oai_laws.proofs.StandLemmas.{of_found}

-- a page by the verb of an open list
shown_by : (its verb : ListVerb) (format : Format) (page : Page) → is_same_verb its verb ≡ true → page_in (answer_by_verb verb format page) ≡ Some page
shown_by its list.Identifiers format page same = refl
shown_by its list.Records format page same = refl
shown_by list.Identifiers list.Sets format page same = cc
shown_by list.Records list.Sets format page same = cc
shown_by list.Sets list.Sets format page same = cc

-- a part of it in its format, which the repository has
pub part_shown : (config : RepositoryConfig) (clock : ℤ) (asked : Attributes) (its verb : ListVerb) (format : Option Format) (page : Page) → is_some format ≡ true → is_same_verb its verb ≡ true
    → page_shown (outcome_of config clock asked (with_answer (part_answer verb format page))) ≡ Some page
part_shown config clock asked its verb None page known same = cc
part_shown config clock asked its verb (Some format) page known same = shown_by its verb format page same

-- what is answered after that was said
abbrev IsContinuedBy : RepositoryConfig → ℤ → Attributes → Response × OpenLists → Type 0
IsContinuedBy config clock asked done = IsContinued (outcome_of config clock asked done.0)

found_shown : (config : RepositoryConfig) (clock : ℤ) (open_lists : OpenLists) (asked : Attributes) (verb : ListVerb) (token : Token) (found : Option FrozenList)
    → ((list : FrozenList) → found ≡ Some list → is_frozen_of_format config list ≡ true)
    → IsContinuedBy config clock asked (continued_response config clock open_lists verb token.cursor (where_continued config verb token found))
found_shown config clock open_lists asked verb token None known = inl refl
found_shown config clock open_lists asked verb token (Some list) known =
    cond_both (is_continued config.chunk verb token list.verb (length list.items) list.given) (Some list) None (λ (o : Option FrozenList). IsContinuedBy config clock asked (continued_response config clock open_lists verb token.cursor o))
    (λ fits. inr (
      part_from config (prolonged config clock list) token.cursor,
      part_shown config clock asked list.verb verb (format_named list.prefix config.formats) (part_from config (prolonged config clock list) token.cursor) (known list refl)
          (and_parts (is_same_verb list.verb verb) (is_valid_cursor config.chunk (length list.items) list.given token.cursor) fits).0,
    ))
    (λ _. inl refl)

token_shown : (config : RepositoryConfig) (state : RepoState) (asked : Attributes) (verb : ListVerb) (token : Option Token) → IsSound config state
    → IsContinuedBy config state.clock asked (token_response config state.clock state.open_lists verb token)
token_shown config state asked verb None sound = inl refl
token_shown config state asked verb (Some token) sound =
    found_shown config state.clock state.open_lists asked verb token (find (is_of_number token.list) state.open_lists.lists)
    (λ list found. of_found (is_of_number token.list) (is_frozen_of_format config) state.open_lists.lists list found sound.known)

pub tokens_shown : (config : RepositoryConfig) (state : RepoState) (verb : ListVerb) (token : List ℕ) → IsSound config state → IsContinued (act config state (requesting (asks (ask.Resume verb token)))).0
unfolding act
tokens_shown config state verb token sound = token_shown config state (arguments_of_request (asks (ask.Resume verb token))) verb (token_of token) sound
