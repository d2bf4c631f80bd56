-- What a request sees of a repository, its precondition and its effect, and the reply: this repository's own.
use Rattle.std.specs.Prelude.{◌≡◌, ◌+◌, ◌+ℤ◌, ◌<◌, ℕ, ℤ, pos, true, false, List, ◌∷◌, length, take, Option, None, Some, Result, Ok, Err, IsSome, IsTrue, OnErr}
use Rattle.oai_names.specs.declared.list_verbs.ListVerb.{ListVerb}
use Rattle.oai_names.specs.Sets.{HasSetsAbove, has_set}
use Rattle.oai_item.specs.Formats.{format_named}
use Rattle.oai_item.specs.Item.{ItemState}
use Rattle.oai_item.specs.Items.{item_named}
use Rattle.oai_item.specs.Selection.{Filter, selected}
use Rattle.oai_answers.specs.Answers.{Attributes, VerbAnswer, fails}
use Rattle.oai_answers.specs.declared.errors.ErrorCode.{ErrorCode}
use Rattle.oai_answers.specs.Borrowed.{attributes_of}
use Rattle.oai_answers.specs.Documents.{document}
use Rattle.oai_catalogue.specs.Store.{VersionLists, list_at, with_list}
use Rattle.oai_catalogue.specs.declared.versions.Versions.{Ghosts}
use Rattle.oai_item.specs.declared.faults.Fault.{Fault}
use Rattle.oai_lists.specs.OpenLists.{IsListTable, Table, open_fault, opened_list, with_opened}
use Rattle.oai_lists.specs.declared.open_lists.Mark.{Mark}
use Rattle.oai_lists.specs.declared.open_lists.OpenList.{OpenList}
use Rattle.oai_lists.specs.Tokens.{token_of}
use Rattle.oai_args.specs.Asks.{AskOrError}
use Rattle.oai_args.specs.Verbs.{is_of_records}
use Rattle.oai_args.specs.declared.requests.Ask.{Ask}
use Rattle.oai_repo.specs.Answers.{document_at, filter_of, item_formats_answer, record_answer}
use Rattle.oai_settings.specs.Config.{RepositoryConfig, is_in_years}
use Rattle.oai_holdings.specs.Index.{IsIndexed, holdings_of, stored_items}
use Rattle.oai_repo.specs.Fields.{AreInUse, TableAgrees, is_counted, is_marked, open_lists_of, versions_in}
use Rattle.oai_repo.specs.Listing.{Response, ask_response, list_response, new_list, opens_list, request_response, retry_after, selection_response, token_response, wait_at, with_answer}
use Rattle.oai_holdings.specs.Holdings.{Holdings, NamedSet}
use Rattle.oai_repo.specs.State.{OpenLists, RepoState}
use Rattle.oai_repo.specs.Tables.{IsKeptTable, IsLeftOpen}
use Rattle.oai_repo.specs.Replays.{is_part, is_request}
use Rattle.oai_repo.specs.declared.responses.Replied.{Replied}
use Rattle.oai_repo.specs.declared.responses.Reply.{Reply}
use Rattle.oai_repo.specs.declared.responses.Reply.TheVariants.{Page, Later}
use Rattle.oai_repo.specs.declared.lists.ListRequest.{ListRequest}
use Rattle.oai_repo.specs.declared.lists.Selection.{Selection}
use Rattle.oai_repo.specs.declared.view.RepoView.{RepoView}

-- ---- what it sees

-- what the repository holds
abbrev pub view_holdings : RepoView → VersionLists → Holdings
view_holdings repo lists = holdings_of repo.index.now repo.sets.now lists

-- its open lists
abbrev pub view_open_lists : RepoView → Table → VersionLists → OpenLists
view_open_lists repo table lists = open_lists_of repo.clock table lists

-- its state
abbrev pub view_state : RepoView → Table → VersionLists → RepoState
view_state repo table lists = record { clock = repo.clock; holdings = view_holdings repo lists; open_lists = view_open_lists repo table lists }

-- what an honest store holds of it
abbrev pub IsViewIndexed : RepoView → VersionLists → Type 0
IsViewIndexed repo lists = IsIndexed repo.config.now repo.index.now repo.sets.now lists

-- the item with that identifier, if there is one
abbrev pub view_item : RepoView → VersionLists → List ℕ → Option ItemState
view_item repo lists identifier = item_named identifier (stored_items repo.index.now lists)

-- the items that a filter selects
abbrev pub view_selected : RepoView → VersionLists → Filter → List ItemState
view_selected repo lists filter = selected filter (stored_items repo.index.now lists)

-- its numbers
abbrev pub view_numbers : RepoView → Table → List ℕ
view_numbers repo table = repo.index.now.version ∷ versions_in table

-- ---- the reply

-- the document of the answer to the arguments of the request
abbrev pub document_reply : RepoView → VerbAnswer → Reply
document_reply repo answer = Page (document (document_at repo.config.now repo.clock (attributes_of repo.asked) answer))

-- the reply of a response to these arguments: a document, or the seconds to wait
abbrev pub reply_of : RepositoryConfig → ℤ → Attributes → Response → Reply
reply_of config clock asked (with_answer answer) = Page (document (document_at config clock asked answer))
reply_of config clock asked (retry_after seconds) = Later seconds

-- the reply is that of the response to these arguments, the request has to be replayed if it is a part of a list, and the open lists are those
-- that it leaves
pub record IsViewReplyTo (repo : RepoView) (asked : Attributes) (response : Response × OpenLists) (replied : Replied) (new : Table) (after : VersionLists) : Type 0 where
  pub written : replied.reply ≡ reply_of repo.config.now repo.clock asked response.0
  pub part : is_request replied.replay ≡ is_part response.0
  pub open_lists : view_open_lists repo new after ≡ response.1

-- and to those of the request
abbrev pub IsViewReply : RepoView → Response × OpenLists → Replied → Table → VersionLists → Type 0
IsViewReply repo response replied new after = IsViewReplyTo repo (attributes_of repo.asked) response replied new after

-- ---- the precondition and the effect of a request

-- a request may read: the clock is in its years, the version of the items is in use, and an honest store holds them
-- there
pub record IsReadable {V : Type 0} (g : Ghosts V) (repo : RepoView) (store : V) : Type 0 where
  pub dated : is_in_years repo.clock ≡ true
  pub stands : IsSome (g.lists store repo.index.now.version)
  pub indexed : IsTrue (g.honest store) → IsViewIndexed repo (g.lists store)

-- a request may be performed: besides, the table satisfies its invariant, all numbers are in use, and the table agrees
-- with what an honest store holds
pub record IsReady {V : Type 0} (g : Ghosts V) (repo : RepoView) (table : Table) (store : V) : Type 0 where
  pub dated : is_in_years repo.clock ≡ true
  pub kept : IsKeptTable repo.config.now table
  pub stands : AreInUse (view_numbers repo table) (g.lists store)
  pub agrees : IsTrue (g.honest store) → TableAgrees table (g.lists store)
  pub indexed : IsTrue (g.honest store) → IsViewIndexed repo (g.lists store)

-- what a request leaves of the table and of the lists; one that failed has left both unchanged
pub record LeavesTableAndLists {V A : Type 0} (g : Ghosts V) (result : Result A Fault) (repo : RepoView) (old : Table) (before : V) (new : Table) (after : V) : Type 0 where
  pub left : IsLeftOpen repo.config.now repo.clock repo.index.now.version old (g.lists before) new (g.lists after)
  pub agrees : IsTrue (g.honest before) → TableAgrees new (g.lists after)
  pub err : OnErr result (new ≡ old)
  pub err_lists : OnErr result (g.lists after ≡ g.lists before)

-- a list of the selection may be answered: the filter asks for records in the format, which is one of the repository,
-- and the verb is one of lists of records
pub record IsOfFormat (config : RepositoryConfig) (selection : Selection) : Type 0 where
  pub prefix : selection.filter.prefix ≡ selection.format.now.prefix
  pub known : IsSome (format_named selection.filter.prefix config.formats)
  pub lists : is_of_records selection.verb ≡ true

-- the list of that many records of that selection, under that number, in that version and with that mark: it ends its
-- lifetime from now on, and the cursor behind its first part was given
abbrev pub view_begun_list : RepoView → Selection → ℕ → ℕ → ℕ → Option Mark → OpenList
view_begun_list repo selection number version size mark = opened_list number (record {
  verb = selection.verb;
  filter = selection.filter;
  version = version;
  size = size;
  end = repo.clock +ℤ pos repo.config.now.lifetime;
  given = repo.config.now.chunk;
  mark = mark;
})

-- a list of that many records of that selection has begun, after the others and with that mark: its version, which was
-- not in use, is a snapshot of the items
pub record HasListBegun {V : Type 0} (g : Ghosts V) (repo : RepoView) (selection : Selection) (size : ℕ) (mark : Option Mark) (old : Table) (before : V) (new : Table) (after : V) : Type 0 where
  pub version : ℕ
  pub unused : g.lists before version ≡ None
  pub frozen : g.lists after ≡ with_list version (list_at (g.lists before) repo.index.now.version) (g.lists before)
  pub room : open_fault old repo.clock ≡ None
  pub opened : new ≡ with_opened old (view_begun_list repo selection old.next version size mark)
  pub valid : IsListTable old

-- a part of an open list may be answered, after that many of its records: there are more than that, the list is of a
-- format of the repository, the verb is one of lists of records, its version is in use, and an honest store holds the
-- records that it was opened for, and its mark
pub record IsContinuing {V : Type 0} (g : Ghosts V) (config : RepositoryConfig) (verb : ListVerb) (list : OpenList) (cursor : ℕ) (store : V) : Type 0 where
  pub within : cursor < list.size
  pub known : IsSome (format_named list.filter.prefix config.formats)
  pub lists : is_of_records verb ≡ true
  pub stands : IsSome (g.lists store list.version)
  pub counted : IsTrue (g.honest store) → is_counted (g.lists store) list ≡ true
  pub marked : IsTrue (g.honest store) → is_marked (g.lists store) list ≡ true

-- ---- the filter of a list request

abbrev pub filter_asked : ListRequest → Filter
filter_asked request = filter_of request.prefix.now request.from.now request.until.now request.set.now

-- the filter of the items; or a set is requested that the repository lacks, and all its descendants with it
abbrev pub IsFilter : List NamedSet → List ℕ → Option (List ℕ) → Option (List ℕ) → Option (List ℕ) → Option Filter → Type 0
IsFilter sets prefix from until set (Some filter) = filter ≡ filter_of prefix from until set
IsFilter sets prefix from until set None = (name : List ℕ) × (set ≡ Some name) × (has_set sets name ≡ false) × HasSetsAbove sets

-- the first of the selected items, one more than a part of a list may have
abbrev pub first_items : RepoView → VersionLists → Filter → List ItemState
first_items repo lists filter = take (repo.config.now.chunk + 1) (view_selected repo lists filter)

-- the first items that the filter selects are known, over an honest store, and are more than a part of a list may have
pub record IsBeyondPart {V : Type 0} (g : Ghosts V) (repo : RepoView) (filter : Filter) (first : List ItemState) (store : V) : Type 0 where
  pub items : IsTrue (g.honest store) → first ≡ first_items repo (g.lists store) filter
  pub more : repo.config.now.chunk < length first

-- ---- the responses

-- about an item, if there is one: to GetRecord with that prefix, or to ListMetadataFormats if no prefix is given
abbrev pub answer_about_item : RepositoryConfig → Option ItemState → Option (List ℕ) → VerbAnswer
answer_about_item config item (Some prefix) = record_answer config item prefix
answer_about_item config item None = item_formats_answer config item

-- to a list request
abbrev pub view_list_response : RepoView → Table → VersionLists → ListRequest → Response × OpenLists
view_list_response repo table lists request =
    list_response repo.config.now repo.clock (view_open_lists repo table lists) repo.sets.now request.verb request.prefix.now request.set.now (view_selected repo lists (filter_asked request))

-- to one whose items were selected
abbrev pub view_selection_response : RepoView → Table → VersionLists → Selection → Response × OpenLists
view_selection_response repo table lists selection =
    selection_response repo.config.now repo.clock (view_open_lists repo table lists) selection.verb selection.format.now (view_selected repo lists selection.filter)

-- the result of a list request: the selection, whatever the lists are, or an error, over the lists of an honest store
abbrev pub IsSelectionOrError : RepoView → ListRequest → Result Selection ErrorCode → Type 0
IsSelectionOrError repo request (Ok selection) =
    IsOfFormat repo.config.now selection × ((table : Table) (lists : VersionLists) → view_list_response repo table lists request ≡ view_selection_response repo table lists selection)
IsSelectionOrError repo request (Err code) =
    (table : Table) (lists : VersionLists) → IsViewIndexed repo lists → view_list_response repo table lists request ≡ (with_answer (fails code), view_open_lists repo table lists)

-- a list begins, or the request has to wait
abbrev pub view_new_list : RepoView → Table → VersionLists → Selection → Option ℤ → Response × OpenLists
view_new_list repo table lists selection wait =
    let open_lists = view_open_lists repo table lists in
    opens_list repo.config.now open_lists selection.format.now (new_list repo.config.now repo.clock open_lists selection.verb selection.format.now.prefix (view_selected repo lists selection.filter)) wait

-- why it has to wait
abbrev pub view_wait : RepoView → Table → VersionLists → Option ℤ
view_wait repo table lists = wait_at repo.config.now repo.clock (view_open_lists repo table lists)

-- the seconds to wait, in place of a number
abbrev pub wait_in : Result ℕ ℤ → Option ℤ
wait_in (Ok number) = None
wait_in (Err seconds) = Some seconds

-- to a token
abbrev pub view_token_response : RepoView → Table → VersionLists → ListVerb → List ℕ → Response × OpenLists
view_token_response repo table lists verb text = token_response repo.config.now repo.clock (view_open_lists repo table lists) verb (token_of text)

-- to a well-formed request
abbrev pub view_ask_response : RepoView → Table → VersionLists → Ask → Response × OpenLists
view_ask_response repo table lists ask = ask_response repo.config.now repo.clock (view_holdings repo lists) (view_open_lists repo table lists) ask

-- to a request
abbrev pub view_response : RepoView → Table → VersionLists → AskOrError → Response × OpenLists
view_response repo table lists request = request_response repo.config.now (view_state repo table lists) request
