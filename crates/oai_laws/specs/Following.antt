-- A list that is followed from part to part by its resumption tokens. OAI-PMH 2.0, section 3.5.
use Rattle.std.specs.Prelude.{◌≡◌, ◌≢◌, ◌⊎◌, ◌<◌, ◌+◌, ◌+ℤ◌, ℕ, ℤ, pos, int_lt, Bool, true, false, List, [], ◌∷◌, ◌++◌, length, map, Option, Some, None, is_none, option_and_then}
use Rattle.std.specs.List.{flat_map, list_any}
use Rattle.oai_names.specs.declared.list_verbs.ListVerb.{ListVerb}
use Rattle.oai_item.specs.Formats.{format_named}
use Rattle.oai_item.specs.Item.{ItemState}
use Rattle.oai_item.specs.Items.{are_apart}
use Rattle.oai_item.specs.Order.{are_in_order}
use Rattle.oai_item.specs.Selection.{selected}
use Rattle.oai_item.specs.declared.formats.Format.{Format}
use Rattle.oai_args.specs.Asks.{asks}
use Rattle.oai_args.specs.Verbs.{is_of_records}
use Rattle.oai_args.specs.declared.requests.Ask.TheVariants as ask
use Rattle.oai_answers.specs.Answers.{Continuation, Page, VerbAnswer, completes, fails, gives_record, identifies, lists_formats, lists_headers, lists_records, lists_sets, remains, whole}
use Rattle.oai_answers.specs.declared.errors.ErrorCode.{ErrorCode}
use Rattle.oai_answers.specs.declared.errors.ErrorCode.TheVariants.{BadResumptionToken}
use Rattle.oai_answers.specs.declared.tokens.Extent.{Extent}
use Rattle.oai_repo.specs.Answers.{filter_of}
use Rattle.oai_settings.specs.Config.{RepositoryConfig}
use Rattle.oai_repo.specs.Listing.{answer_by_verb}
use Rattle.oai_repo.specs.Machine.{Command, Outcome, accepted, act, requesting, documented, later, refused_with}
use Rattle.oai_laws.specs.Runs.{IsPart, Transition}
use Rattle.oai_repo.specs.State.{RepoState}

-- ---- what is read off an answer

-- the answer, if the outcome is one
abbrev pub answer_in : Outcome → Option VerbAnswer
answer_in (documented document) = Some document.answer
answer_in (later seconds) = None
answer_in (accepted stamp) = None
answer_in (refused_with cause) = None

-- the part of a list, or the whole list, that an answer has, if it has one
abbrev pub page_in : VerbAnswer → Option Page
page_in (lists_headers page) = Some page
page_in (lists_records format page) = Some page
page_in (fails code) = None
page_in (identifies description) = None
page_in (lists_formats formats) = None
page_in (lists_sets sets) = None
page_in (gives_record dissemination) = None

abbrev pub page_shown : Outcome → Option Page
page_shown outcome = option_and_then page_in (answer_in outcome)

-- the request is to wait
abbrev pub is_later : Outcome → Bool
is_later (later seconds) = true
is_later (documented document) = false
is_later (accepted stamp) = false
is_later (refused_with cause) = false

-- a token that asks for what remains, and when it expires, in seconds from 1970 on
pub record TokenOffer : Type 0 where
  pub token : List ℕ
  pub expires : ℤ

-- what the part offers: nothing where nothing remains, and its token is empty
abbrev pub offer_in : Continuation → Option TokenOffer
offer_in (remains expires extent token) = Some (record { token = token; expires = expires })
offer_in (completes extent) = None
offer_in whole = None

-- how many records the list has (completeListSize), and how many of them precede the part (cursor), if the part says so
abbrev pub extent_in : Continuation → Option Extent
extent_in (remains expires extent token) = Some extent
extent_in (completes extent) = Some extent
extent_in whole = None

-- ---- a chain of requests

-- what a list request asks for: the verb and its arguments
pub record ListQuery : Type 0 where
  pub verb : ListVerb
  pub prefix : List ℕ
  pub from : Option (List ℕ)
  pub until : Option (List ℕ)
  pub set : Option (List ℕ)

-- the list request
abbrev pub first_request : ListQuery → Command
first_request list_request = requesting (asks (ask.List list_request.verb list_request.prefix list_request.from list_request.until list_request.set))

-- the request of that verb with a token
abbrev pub next_request : ListVerb → List ℕ → Command
next_request verb token = requesting (asks (ask.Resume verb token))

-- the records that the list request selects in a state (section 2.7)
abbrev pub selection_in : RepoState → ListQuery → List ItemState
selection_in state list_request = selected (filter_of list_request.prefix list_request.from list_request.until list_request.set) state.holdings.items

-- the second exchange asks, by that verb, with the token that the page of the first offers, and before this expires
pub record IsNextRequest (verb : ListVerb) (before after : Transition) : Type 0 where
  pub page : Page
  pub offer : TokenOffer
  pub told : page_shown before.outcome ≡ Some page
  pub offered : offer_in page.continuation ≡ Some offer
  pub asked : after.command ≡ next_request verb offer.token
  pub unexpired : int_lt after.found.clock offer.expires ≡ true

-- each exchange asks with the token of the one before it
abbrev pub AreNext : ListVerb → Transition → List Transition → Type 0
AreNext verb before [] = Unit {0}
AreNext verb before (next ∷ exchanges) = IsNextRequest verb before next × AreNext verb next exchanges

-- a chain among the exchanges of a repository: a request for a list that is too long for one page, and that need not
-- wait; and then, whatever else is asked and deposited between, those that follow it by its tokens
pub record IsChain (config : RepositoryConfig) (exchanges : List Transition) (list_request : ListQuery) (first : Transition) (others : List Transition) : Type 0 where
  pub among : IsPart (first ∷ others) exchanges
  pub verb : is_of_records list_request.verb ≡ true
  pub asked : first.command ≡ first_request list_request
  pub long : config.chunk < length (selection_in first.found list_request)
  pub answered : is_later first.outcome ≡ false
  pub next : AreNext list_request.verb first others

-- ---- what a chain is answered

-- the records of the pages, one page after the other
abbrev pub joined : List Page → List ItemState
joined pages = flat_map (λ (page : Page). page.items) pages

-- a page of a list with that many records, and that many before it: it says so; it has at least one record, and `chunk`
-- of them if it offers a token; and its datestamps have the repository's granularity
pub record IsPageAt (config : RepositoryConfig) (size before : ℕ) (page : Page) : Type 0 where
  pub extent : extent_in page.continuation ≡ Some (record { size = size; cursor = before })
  pub some : page.items ≢ []
  pub full : is_none (offer_in page.continuation) ≡ false → length page.items ≡ config.chunk
  pub dated : page.granularity ≡ config.granularity

-- each page follows those before it
abbrev pub ArePagesAt : RepositoryConfig → ℕ → ℕ → List Page → Type 0
ArePagesAt config size before [] = Unit {0}
ArePagesAt config size before (page ∷ pages) = IsPageAt config size before page × ArePagesAt config size (before + length page.items) pages

-- a token expires when the list that it continues ends: its lifetime after the clock at which the page was requested
abbrev pub IsLasting : RepositoryConfig → Transition → Page → Type 0
IsLasting config exchange page =
    (offer : TokenOffer) → offer_in page.continuation ≡ Some offer → offer.expires ≡ exchange.found.clock +ℤ pos config.lifetime

-- each page is lasting, as the answer to the exchange at its position
abbrev pub AreLasting : RepositoryConfig → List Transition → List Page → Type 0
AreLasting config [] [] = Unit {0}
AreLasting config (exchange ∷ exchanges) (page ∷ pages) = IsLasting config exchange page × AreLasting config exchanges pages
AreLasting config exchanges pages = ⊥

-- one of the pages has the empty token: no record remains
abbrev pub are_complete : List Page → Bool
are_complete pages = list_any (λ (page : Page). is_none (offer_in page.continuation)) pages

-- the first list is a prefix of the second
abbrev pub BeginsList : List ItemState → List ItemState → Type 0
BeginsList front all = (others : List ItemState) × (front ++ others ≡ all)

-- the exchanges are answered with these pages of the selection: each by the verb, and in the format, of the request;
-- each page says its position, and its token lasts for the lifetime of a list; their records, joined, are a prefix of
-- the selection, and all of it once a page has the empty token; each record once, in order
pub record IsFollowedThrough (config : RepositoryConfig) (list_request : ListQuery) (selection : List ItemState) (exchanges : List Transition) (pages : List Page) : Type 0 where
  pub format : Format
  pub known : format_named list_request.prefix config.formats ≡ Some format
  pub told : map (λ (exchange : Transition). answer_in exchange.outcome) exchanges ≡ map (λ (page : Page). Some (answer_by_verb list_request.verb format page)) pages
  pub placed : ArePagesAt config (length selection) 0 pages
  pub lasting : AreLasting config exchanges pages
  pub begun : BeginsList (joined pages) selection
  pub complete : are_complete pages ≡ true → joined pages ≡ selection
  pub ordered : are_in_order (joined pages) ≡ true
  pub apart : are_apart (joined pages) ≡ true

-- the answer to a request with a token: a page; or that no list is open which the token continues by the verb
abbrev pub IsContinued : Outcome → Type 0
IsContinued outcome = (answer_in outcome ≡ Some (fails BadResumptionToken)) ⊎ ((page : Page) × (page_shown outcome ≡ Some page))

-- ---- which tokens were handed out

-- the answer is a page that offers the token
pub record IsOffered (token : List ℕ) (outcome : Outcome) : Type 0 where
  pub page : Page
  pub offer : TokenOffer
  pub told : page_shown outcome ≡ Some page
  pub offered : offer_in page.continuation ≡ Some offer
  pub same : offer.token ≡ token

-- one of these exchanges was answered so
abbrev pub WasOffered : List ℕ → List Transition → Type 0
WasOffered token [] = ⊥
WasOffered token (exchange ∷ exchanges) = IsOffered token exchange.outcome ⊎ WasOffered token exchanges

-- ---- a list that is no longer than a page

-- a list request is answered with its whole selection: by its verb and in its format, in one page without a token, and
-- the state is unchanged
pub record IsAnsweredWhole (config : RepositoryConfig) (state : RepoState) (list_request : ListQuery) : Type 0 where
  pub format : Format
  pub known : format_named list_request.prefix config.formats ≡ Some format
  pub page : Page
  pub items : page.items ≡ selection_in state list_request
  pub dated : page.granularity ≡ config.granularity
  pub tokenless : page.continuation ≡ whole
  pub told : answer_in (act config state (first_request list_request)).0 ≡ Some (answer_by_verb list_request.verb format page)
  pub left : (act config state (first_request list_request)).1 ≡ state

-- it is answered with an error, and the state is unchanged
pub record IsAnsweredNone (config : RepositoryConfig) (state : RepoState) (list_request : ListQuery) : Type 0 where
  pub code : ErrorCode
  pub told : answer_in (act config state (first_request list_request)).0 ≡ Some (fails code)
  pub left : (act config state (first_request list_request)).1 ≡ state
