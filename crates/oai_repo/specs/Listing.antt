-- Lists that are answered in parts, and the tokens that request the next one. OAI-PMH 2.0, sections 3.5, 4.3 and 4.5.
use Rattle.std.specs.Prelude.{ℕ, ℤ, pos, ◌+◌, ◌%◌, ◌+ℤ◌, ◌-ℤ◌, Bool, true, false, ◌&&◌, ◌==◌, nat_le, nat_lt, List, [], ◌∷◌, ◌++◌, length, map, take, drop, Option, Some, None, is_some, if◌then◌else◌, find}
use Rattle.std.specs.Int.{int_min}
use Rattle.oai_names.specs.declared.list_verbs.ListVerb.{ListVerb}
use Rattle.oai_names.specs.declared.list_verbs.ListVerb.TheVariants as list
use Rattle.oai_item.specs.Formats.{format_named}
use Rattle.oai_item.specs.Item.{ItemState}
use Rattle.oai_item.specs.Items.{item_named}
use Rattle.oai_item.specs.Selection.{selected}
use Rattle.oai_item.specs.declared.formats.Format.{Format}
use Rattle.oai_lists.specs.OpenLists.{highest_given}
use Rattle.oai_lists.specs.Tokens.{token_of, token_text}
use Rattle.oai_lists.specs.declared.lists.TheConstants.{LAST_NUMBER}
use Rattle.oai_lists.specs.declared.tokens.Token.{Token}
use Rattle.oai_args.specs.declared.requests.Ask.{Ask}
use Rattle.oai_args.specs.declared.requests.Ask.TheVariants as ask
use Rattle.oai_args.specs.Asks.{AskOrError, asks, bad_verb, bad_argument}
use Rattle.oai_answers.specs.Answers.{Continuation, Page, VerbAnswer, completes, fails, identifies, lists_headers, lists_records, remains, whole}
use Rattle.oai_answers.specs.declared.tokens.Extent.{Extent}
use Rattle.oai_answers.specs.declared.errors.ErrorCode.TheVariants.{BadVerb, BadArgument, BadResumptionToken, CannotDisseminateFormat, NoRecordsMatch, NoSetHierarchy}
use Rattle.oai_repo.specs.Answers.{description, filter_of, formats_answer, record_answer, sets_answer}
use Rattle.oai_settings.specs.Config.{RepositoryConfig}
use Rattle.oai_holdings.specs.Holdings.{Holdings, NamedSet}
use Rattle.oai_repo.specs.State.{FrozenList, OpenLists, RepoState}

-- the response to a request: an answer, for a document; or how many seconds the client has to wait
pub data Response : Type 0 where
  with_answer : VerbAnswer → Response
  retry_after : ℤ → Response

-- ---- a part of a list

-- the position of a part in its list: how many records the list has, and how many of them precede the part
abbrev pub extent_at : FrozenList → ℕ → Extent
extent_at list cursor = record { size = length list.items; cursor = cursor }

-- the records of the part that begins after that many of them: at most `chunk`
abbrev pub items_from : RepositoryConfig → FrozenList → ℕ → List ItemState
items_from config list cursor = take config.chunk (drop cursor list.items)

-- after a part of a list with that number and end, before the record `next`, records remain, and the token requests the
-- part that begins with them; or the part completes the list
abbrev pub continued_at : ℕ → ℤ → Extent → ℕ → Continuation
continued_at number end extent next =
    if nat_lt next extent.size then remains end extent (token_text (record { list = number; cursor = next }))
    else completes extent

-- the part of a list that begins after that many of its records
unfoldable pub part_from : RepositoryConfig → FrozenList → ℕ → Page
part_from config list cursor = record {
  items = items_from config list cursor;
  granularity = config.granularity;
  continuation = continued_at list.number list.end (extent_at list cursor) (cursor + length (items_from config list cursor));
}

-- items as the verb returns them (sections 4.3 and 4.5). Lists of sets have a verb of their own
abbrev pub answer_by_verb : ListVerb → Format → Page → VerbAnswer
answer_by_verb list.Identifiers format page = lists_headers page
answer_by_verb list.Records format page = lists_records format page
answer_by_verb list.Sets format page = fails BadVerb

-- ---- a new list

-- the earliest of the ends of these lists
abbrev pub earliest_end : FrozenList → List FrozenList → ℤ
earliest_end list [] = list.end
earliest_end list (next ∷ lists) = int_min list.end (earliest_end next lists)

-- the seconds until the first of the lists ends
abbrev pub seconds_to_end : ℤ → List FrozenList → ℤ
seconds_to_end clock [] = pos 0
seconds_to_end clock (list ∷ lists) = earliest_end list lists -ℤ clock

-- why no further list begins, as the seconds to wait: as many are open as may be; or no number is left
unfoldable pub wait_at : RepositoryConfig → ℤ → OpenLists → Option ℤ
wait_at config clock open_lists =
    if nat_le config.lists (length open_lists.lists) then Some (seconds_to_end clock open_lists.lists)
    else (if open_lists.next == LAST_NUMBER then Some (pos config.lifetime)
    else None)

-- a list of these items that begins now: it is open for its lifetime, and the token of its first part is handed out
abbrev pub new_list : RepositoryConfig → ℤ → OpenLists → ListVerb → List ℕ → List ItemState → FrozenList
new_list config clock open_lists verb prefix items = record {
  number = open_lists.next;
  verb = verb;
  prefix = prefix;
  items = items;
  end = clock +ℤ pos config.lifetime;
  given = config.chunk;
}

-- the open lists, and that one
abbrev pub with_new_list : FrozenList → OpenLists → OpenLists
with_new_list list open_lists = record { lists = open_lists.lists ++ list ∷ []; next = open_lists.next + 1 }

-- a list that is too long for one answer: it is opened, and its first part returned; or the client has to wait
abbrev pub opens_list : RepositoryConfig → OpenLists → Format → FrozenList → Option ℤ → Response × OpenLists
opens_list config open_lists format list (Some seconds) = (retry_after seconds, open_lists)
opens_list config open_lists format list None = (with_answer (answer_by_verb list.verb format (part_from config list 0)), with_new_list list open_lists)

-- items that are returned in one answer, with nothing after them
abbrev pub complete_page : RepositoryConfig → List ItemState → Page
complete_page config items = record { items = items; granularity = config.granularity; continuation = whole }

-- the answer with the items in one page, or noRecordsMatch if there are none
abbrev pub complete_answer : RepositoryConfig → ListVerb → Format → List ItemState → VerbAnswer
complete_answer config verb format [] = fails NoRecordsMatch
complete_answer config verb format (item ∷ items) = answer_by_verb verb format (complete_page config (item ∷ items))

-- the selected items: they are returned in one answer if they are at most `chunk`, and otherwise a list is opened
unfoldable pub selection_response : RepositoryConfig → ℤ → OpenLists → ListVerb → Format → List ItemState → Response × OpenLists
selection_response config clock open_lists verb format items =
    if nat_le (length items) config.chunk then (with_answer (complete_answer config verb format items), open_lists)
    else opens_list config open_lists format (new_list config clock open_lists verb format.prefix items) (wait_at config clock open_lists)

-- ---- a list that is continued

-- the verb of a list that tokens continue
abbrev pub is_same_verb : ListVerb → ListVerb → Bool
is_same_verb list.Identifiers list.Identifiers = true
is_same_verb list.Records list.Records = true
is_same_verb _ _ = false

-- a token with that cursor was handed out, if `given` is the highest that was: each part but the first begins after a
-- multiple of `chunk` records, and no token requests the first
abbrev pub is_handed_out : ℕ → ℕ → ℕ → Bool
is_handed_out chunk given cursor = nat_lt 0 cursor && cursor % chunk == 0 && nat_le cursor given

-- the cursor is one of a list of that many records: it is below the size, and was handed out
abbrev pub is_valid_cursor : ℕ → ℕ → ℕ → ℕ → Bool
is_valid_cursor chunk size given cursor = nat_lt cursor size && is_handed_out chunk given cursor

-- by the verb `verb` the token continues a list of the verb `list_verb`, with `size` records and the highest cursor
-- `given`: the two verbs are the same, and the token's cursor is one of the list
abbrev pub is_continued : ℕ → ListVerb → Token → ListVerb → ℕ → ℕ → Bool
is_continued chunk verb token list_verb size given = is_same_verb list_verb verb && is_valid_cursor chunk size given token.cursor

-- the list, if the token continues it by the verb
abbrev pub where_continued : RepositoryConfig → ListVerb → Token → Option FrozenList → Option FrozenList
where_continued config verb token None = None
where_continued config verb token (Some list) = if is_continued config.chunk verb token list.verb (length list.items) list.given then Some list else None

-- the list has that number
abbrev pub is_of_number : ℕ → FrozenList → Bool
is_of_number number list = list.number == number

-- the list that a token continues: of the open lists the one with its number, if the verb and the cursor are right
abbrev pub list_continued : RepositoryConfig → OpenLists → ListVerb → Token → Option FrozenList
list_continued config open_lists verb token = where_continued config verb token (find (is_of_number token.list) open_lists.lists)

-- the list is open for its lifetime from now on
abbrev pub prolonged : RepositoryConfig → ℤ → FrozenList → FrozenList
prolonged config clock list = record list { end = clock +ℤ pos config.lifetime }

-- the cursor of the token of a part, if `next` of the list's `size` records come up to its end; None if no more records
-- remain
abbrev pub cursor_behind : ℕ → ℕ → Option ℕ
cursor_behind size next = if nat_lt next size then Some next else None

-- the cursor of the token of the part that begins after the first `cursor` records of the list
abbrev pub next_cursor : RepositoryConfig → FrozenList → ℕ → Option ℕ
next_cursor config list cursor = cursor_behind (length list.items) (cursor + length (items_from config list cursor))

-- the list after a part of it was answered, with a token of that cursor or none: it is open for its lifetime from now
-- on
abbrev pub carried_on : RepositoryConfig → ℤ → Option ℕ → FrozenList → FrozenList
carried_on config clock next list = record list { end = clock +ℤ pos config.lifetime; given = highest_given next list.given }

-- the list after a part of it was answered, if it has the number; any other list is unchanged
abbrev pub carried_on_at : RepositoryConfig → ℤ → ℕ → Option ℕ → FrozenList → FrozenList
carried_on_at config clock number next list = if is_of_number number list then carried_on config clock next list else list

-- of the open lists that of the number
abbrev pub with_carried_on : RepositoryConfig → ℤ → ℕ → Option ℕ → OpenLists → OpenLists
with_carried_on config clock number next open_lists = record open_lists { lists = map (carried_on_at config clock number next) open_lists.lists }

-- a part of a list in the format of its prefix, which the repository has
abbrev pub part_answer : ListVerb → Option Format → Page → VerbAnswer
part_answer verb None page = fails CannotDisseminateFormat
part_answer verb (Some format) page = answer_by_verb verb format page

-- a list that is continued at that cursor: the part is returned, its token is handed out, and the list stays open from
-- now on
abbrev pub continued_response : RepositoryConfig → ℤ → OpenLists → ListVerb → ℕ → Option FrozenList → Response × OpenLists
continued_response config clock open_lists verb cursor None = (with_answer (fails BadResumptionToken), open_lists)
continued_response config clock open_lists verb cursor (Some list) =
    (with_answer (part_answer verb (format_named list.prefix config.formats) (part_from config (prolonged config clock list) cursor)), with_carried_on config clock list.number (next_cursor config list cursor) open_lists)

-- the response to a token, if the text is one
abbrev pub token_response : RepositoryConfig → ℤ → OpenLists → ListVerb → Option Token → Response × OpenLists
token_response config clock open_lists verb None = (with_answer (fails BadResumptionToken), open_lists)
token_response config clock open_lists verb (Some token) = continued_response config clock open_lists verb token.cursor (list_continued config open_lists verb token)

-- ---- a request

-- there are no sets
abbrev pub has_no_sets : List NamedSet → Bool
has_no_sets [] = true
has_no_sets (set ∷ sets) = false

-- the selected items, in the format, if the repository has it
abbrev pub format_response : RepositoryConfig → ℤ → OpenLists → ListVerb → Option Format → List ItemState → Response × OpenLists
format_response config clock open_lists verb None items = (with_answer (fails CannotDisseminateFormat), open_lists)
format_response config clock open_lists verb (Some format) items = selection_response config clock open_lists verb format items

-- ListIdentifiers and ListRecords of these items, which were selected; noSetHierarchy if a set is requested and there
-- are no sets
abbrev pub list_response : RepositoryConfig → ℤ → OpenLists → List NamedSet → ListVerb → List ℕ → Option (List ℕ) → List ItemState → Response × OpenLists
list_response config clock open_lists sets verb prefix set items =
    if is_some set && has_no_sets sets then (with_answer (fails NoSetHierarchy), open_lists)
    else format_response config clock open_lists verb (format_named prefix config.formats) items

-- the response to a well-formed request at the clock, and the lists that are open then
abbrev pub ask_response : RepositoryConfig → ℤ → Holdings → OpenLists → Ask → Response × OpenLists
ask_response config clock holdings open_lists ask.Identify = (with_answer (identifies (description config)), open_lists)
ask_response config clock holdings open_lists (ask.Formats identifier) = (with_answer (formats_answer config holdings.items identifier), open_lists)
ask_response config clock holdings open_lists ask.Sets = (with_answer (sets_answer config holdings.sets), open_lists)
ask_response config clock holdings open_lists (ask.Get identifier prefix) = (with_answer (record_answer config (item_named identifier holdings.items) prefix), open_lists)
ask_response config clock holdings open_lists (ask.List verb prefix from until set) =
    list_response config clock open_lists holdings.sets verb prefix set (selected (filter_of prefix from until set) holdings.items)
ask_response config clock holdings open_lists (ask.Resume verb token) = token_response config clock open_lists verb (token_of token)

-- the response to a request
abbrev pub request_response : RepositoryConfig → RepoState → AskOrError → Response × OpenLists
request_response config state bad_verb = (with_answer (fails BadVerb), state.open_lists)
request_response config state bad_argument = (with_answer (fails BadArgument), state.open_lists)
request_response config state (asks ask) = ask_response config state.clock state.holdings state.open_lists ask
