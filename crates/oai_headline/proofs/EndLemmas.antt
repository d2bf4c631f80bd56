-- A token expires when the list that it continues ends: its lifetime after the clock at which it is answered.
use Rattle.std.proofs.Common.{◌≡◌, ℕ, ℤ, pos, ◌+◌, ◌+ℤ◌, ◌&&◌, true, List, [], ◌∷◌, length, Option, None, Some, is_some, refl, arith}
use Rattle.std.specs.Prelude.{nat_le, nat_lt}
use Rattle.std.proofs.lemmas.Bool.{and_parts, cond_both}
use Rattle.std.proofs.lemmas.Bool.Decides.{nat_tests}
use Rattle.std.proofs.lemmas.Int.{ints}
use Rattle.oai_names.specs.declared.list_verbs.ListVerb.{ListVerb}
use Rattle.oai_names.specs.declared.list_verbs.ListVerb.TheVariants as list
use Rattle.oai_time.specs.Stamp.{IsWritable}
use Rattle.oai_item.specs.Formats.{format_named}
use Rattle.oai_item.specs.Item.{ItemState, has_record}
use Rattle.oai_item.specs.Items.{item_named}
use Rattle.oai_item.specs.Selection.{selected}
use Rattle.oai_item.specs.declared.formats.Format.{Format}
use Rattle.oai_lists.specs.Tokens.{token_of}
use Rattle.oai_lists.specs.declared.tokens.Token.{Token}
use Rattle.oai_args.specs.Asks.{AskOrError, asks, bad_verb, bad_argument}
use Rattle.oai_args.specs.declared.requests.Ask.TheVariants as ask
use Rattle.oai_answers.specs.Answers.{Continuation, Page, VerbAnswer, completes, fails, gives_record, identifies, lists_formats, lists_headers, lists_records, lists_sets, remains, whole}
use Rattle.oai_settings.specs.Config.{IsConfig, RepositoryConfig, are_limits, is_chunk, is_in_years, is_items, is_lifetime, is_lists}
use Rattle.oai_repo.specs.Answers.{disseminated, filter_of, formats_answer, item_formats_answer, record_answer, sets_answer}
use Rattle.oai_repo.specs.Listing.{Response, answer_by_verb, complete_answer, complete_page, continued_response, format_response, has_no_sets, items_from, list_continued, list_response, new_list, opens_list, part_answer, part_from, prolonged, request_response, retry_after, selection_response, token_response, wait_at, with_answer}
use Rattle.oai_holdings.specs.Holdings.{NamedSet}
use Rattle.oai_repo.specs.State.{FrozenList, OpenLists, RepoState}

-- a lifetime after a clock is a second that can be written
pub end_writable : (config : RepositoryConfig) (clock : ℤ) → IsConfig config → is_in_years clock ≡ true → IsWritable (clock +ℤ pos config.lifetime)
unfolding are_limits
end_writable config clock good years =
    let limits = and_parts (is_chunk config.chunk && is_lifetime config.lifetime && is_lists config.lists) (is_items config.items) good.limited in
    let fewer = and_parts (is_chunk config.chunk && is_lifetime config.lifetime) (is_lists config.lists) limits.0 in
    within config.lifetime clock (and_parts (is_chunk config.chunk) (is_lifetime config.lifetime) fewer.0).1 years
  where
    within : (n : ℕ) (clock : ℤ) → is_lifetime n ≡ true → is_in_years clock ≡ true → IsWritable (clock +ℤ pos n)
    within n clock h years = grind (arith, ints, nat_tests)

-- ---- what is answered offers no token that expires at another time

abbrev pub EndsAt : ℤ → Continuation → Type 0
EndsAt end whole = Unit {0}
EndsAt end (remains expires extent token) = expires ≡ end
EndsAt end (completes extent) = Unit {0}

abbrev pub AnswerEnds : ℤ → VerbAnswer → Type 0
AnswerEnds end (fails code) = Unit {0}
AnswerEnds end (identifies description) = Unit {0}
AnswerEnds end (lists_formats formats) = Unit {0}
AnswerEnds end (lists_sets sets) = Unit {0}
AnswerEnds end (gives_record dissemination) = Unit {0}
AnswerEnds end (lists_headers page) = EndsAt end page.continuation
AnswerEnds end (lists_records format page) = EndsAt end page.continuation

abbrev pub SaidEnds : ℤ → Response → Type 0
SaidEnds end (with_answer answer) = AnswerEnds end answer
SaidEnds end (retry_after seconds) = Unit {0}

abbrev DoneEnds : ℤ → Response × OpenLists → Type 0
DoneEnds end done = SaidEnds end done.0

by_verb : (end : ℤ) (verb : ListVerb) (format : Format) (page : Page) → EndsAt end page.continuation → AnswerEnds end (answer_by_verb verb format page)
by_verb end list.Identifiers format page h = h
by_verb end list.Records format page h = h
by_verb end list.Sets format page h = tt

part_ends : (config : RepositoryConfig) (list : FrozenList) (cursor : ℕ) → EndsAt list.end (part_from config list cursor).continuation
unfolding part_from
part_ends config list cursor =
    cond_both (nat_lt (cursor + length (items_from config list cursor)) (length list.items)) _ _ (EndsAt list.end) (λ _. refl) (λ _. tt)

whole_ends : (end : ℤ) (config : RepositoryConfig) (verb : ListVerb) (format : Format) (items : List ItemState) → AnswerEnds end (complete_answer config verb format items)
whole_ends end config verb format [] = tt
whole_ends end config verb format (item ∷ items) = by_verb end verb format (complete_page config (item ∷ items)) tt

begun_ends : (config : RepositoryConfig) (open_lists : OpenLists) (format : Format) (list : FrozenList) (wait : Option ℤ) → DoneEnds list.end (opens_list config open_lists format list wait)
begun_ends config open_lists format list (Some seconds) = tt
begun_ends config open_lists format list None = by_verb list.end list.verb format (part_from config list 0) (part_ends config list 0)

items_end : (config : RepositoryConfig) (clock : ℤ) (open_lists : OpenLists) (verb : ListVerb) (format : Format) (items : List ItemState)
    → DoneEnds (clock +ℤ pos config.lifetime) (selection_response config clock open_lists verb format items)
unfolding selection_response
items_end config clock open_lists verb format items =
    cond_both (nat_le (length items) config.chunk) _ _ (DoneEnds (clock +ℤ pos config.lifetime))
    (λ _. whole_ends (clock +ℤ pos config.lifetime) config verb format items)
    (λ _. begun_ends config open_lists format (new_list config clock open_lists verb format.prefix items) (wait_at config clock open_lists))

format_ends : (config : RepositoryConfig) (clock : ℤ) (open_lists : OpenLists) (verb : ListVerb) (format : Option Format) (items : List ItemState)
    → DoneEnds (clock +ℤ pos config.lifetime) (format_response config clock open_lists verb format items)
format_ends config clock open_lists verb None items = tt
format_ends config clock open_lists verb (Some format) items = items_end config clock open_lists verb format items

list_ends : (config : RepositoryConfig) (clock : ℤ) (open_lists : OpenLists) (sets : List NamedSet) (verb : ListVerb) (prefix : List ℕ) (set : Option (List ℕ)) (items : List ItemState)
    → DoneEnds (clock +ℤ pos config.lifetime) (list_response config clock open_lists sets verb prefix set items)
list_ends config clock open_lists sets verb prefix set items =
    cond_both (is_some set && has_no_sets sets) _ _ (DoneEnds (clock +ℤ pos config.lifetime))
    (λ _. tt)
    (λ _. format_ends config clock open_lists verb (format_named prefix config.formats) items)

-- a list that is continued

part_answer_ends : (end : ℤ) (verb : ListVerb) (format : Option Format) (page : Page) → EndsAt end page.continuation → AnswerEnds end (part_answer verb format page)
part_answer_ends end verb None page h = tt
part_answer_ends end verb (Some format) page h = by_verb end verb format page h

continued_ends : (config : RepositoryConfig) (clock : ℤ) (open_lists : OpenLists) (verb : ListVerb) (cursor : ℕ) (found : Option FrozenList)
    → DoneEnds (clock +ℤ pos config.lifetime) (continued_response config clock open_lists verb cursor found)
continued_ends config clock open_lists verb cursor None = tt
continued_ends config clock open_lists verb cursor (Some list) =
    part_answer_ends (clock +ℤ pos config.lifetime) verb (format_named list.prefix config.formats) (part_from config (prolonged config clock list) cursor)
    (part_ends config (prolonged config clock list) cursor)

token_ends : (config : RepositoryConfig) (clock : ℤ) (open_lists : OpenLists) (verb : ListVerb) (token : Option Token)
    → DoneEnds (clock +ℤ pos config.lifetime) (token_response config clock open_lists verb token)
token_ends config clock open_lists verb None = tt
token_ends config clock open_lists verb (Some token) = continued_ends config clock open_lists verb token.cursor (list_continued config open_lists verb token)

-- the other verbs offer none

item_formats_end : (end : ℤ) (config : RepositoryConfig) (found : Option ItemState) → AnswerEnds end (item_formats_answer config found)
item_formats_end end config None = tt
item_formats_end end config (Some item) = cond_both item.live _ _ (AnswerEnds end) (λ _. tt) (λ _. tt)

formats_end : (end : ℤ) (config : RepositoryConfig) (items : List ItemState) (identifier : Option (List ℕ)) → AnswerEnds end (formats_answer config items identifier)
formats_end end config items None = tt
formats_end end config items (Some identifier) = item_formats_end end config (item_named identifier items)

sets_end : (end : ℤ) (config : RepositoryConfig) (sets : List NamedSet) → AnswerEnds end (sets_answer config sets)
sets_end end config [] = tt
sets_end end config (set ∷ sets) = tt

disseminated_ends : (end : ℤ) (config : RepositoryConfig) (item : ItemState) (format : Option Format) → AnswerEnds end (disseminated config item format)
disseminated_ends end config item None = tt
disseminated_ends end config item (Some format) = cond_both (has_record format.prefix item.formats) _ _ (AnswerEnds end) (λ _. tt) (λ _. tt)

record_ends : (end : ℤ) (config : RepositoryConfig) (found : Option ItemState) (prefix : List ℕ) → AnswerEnds end (record_answer config found prefix)
record_ends end config None prefix = tt
record_ends end config (Some item) prefix = disseminated_ends end config item (format_named prefix config.formats)

pub request_ends : (config : RepositoryConfig) (state : RepoState) (request : AskOrError) → SaidEnds (state.clock +ℤ pos config.lifetime) (request_response config state request).0
request_ends config state bad_verb = tt
request_ends config state bad_argument = tt
request_ends config state (asks ask.Identify) = tt
request_ends config state (asks (ask.Formats identifier)) = formats_end (state.clock +ℤ pos config.lifetime) config state.holdings.items identifier
request_ends config state (asks ask.Sets) = sets_end (state.clock +ℤ pos config.lifetime) config state.holdings.sets
request_ends config state (asks (ask.Get identifier prefix)) =
    record_ends (state.clock +ℤ pos config.lifetime) config (item_named identifier state.holdings.items) prefix
request_ends config state (asks (ask.List verb prefix from until set)) =
    list_ends config state.clock state.open_lists state.holdings.sets verb prefix set (selected (filter_of prefix from until set) state.holdings.items)
request_ends config state (asks (ask.Resume verb token)) = token_ends config state.clock state.open_lists verb (token_of token)
