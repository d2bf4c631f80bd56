-- A list that is followed by exchanges, from answer to answer, by the tokens that these print. OAI-PMH 2.0, sections
-- 3.1.2.2 and 3.5.
use Rattle.std.specs.Prelude.{◌≡◌, ◌<◌, ℕ, int_lt, true, List, [], ◌∷◌, length, None, Some}
use Rattle.std.specs.List.{AllZip}
use Rattle.oai_names.specs.declared.list_verbs.ListVerb.{ListVerb}
use Rattle.oai_item.specs.declared.formats.Format.{Format}
use Rattle.oai_time.specs.Stamp.{IsWritable}
use Rattle.oai_time.specs.declared.granularity.Granularity.{Granularity}
use Rattle.oai_args.specs.Asks.{AskOrError, asks}
use Rattle.oai_args.specs.Pairs.{decoded_pairs}
use Rattle.oai_args.specs.Requests.{request_of}
use Rattle.oai_args.specs.declared.requests.Ask.TheVariants as ask
use Rattle.oai_answers.specs.Answers.{Document, Page}
use Rattle.oai_answers.specs.Documents.{document}
use Rattle.oai_answers.specs.Seen.{IsRegular}
use Rattle.oai_settings.specs.Config.{RepositoryConfig}
use Rattle.oai_repo.specs.Listing.{answer_by_verb}
use Rattle.oai_repo.specs.Machine.{outcome_output}
use Rattle.oai_args.specs.Verbs.{is_of_records}
use Rattle.oai_laws.specs.Following.{IsFollowedThrough, ListQuery, TokenOffer, offer_in, page_in, selection_in}
use Rattle.oai_laws.specs.Runs.{IsPart, Transition}
use Rattle.oai_http.specs.Answers.{answered_with}
use Rattle.oai_http.specs.declared.exchanges.Answer.{Answer}
use Rattle.oai_http.specs.declared.exchanges.Call.{Call}
use Rattle.oai_host.specs.Answers.{answer_of}
use Rattle.oai_host.specs.Tasks.{asking, task_of}
use Rattle.oai_headline.specs.Visits.{Visit, found_by, steps_of}

-- ---- what a client asks and reads

-- the exchange is that request of OAI-PMH, by GET or by POST (section 3.1.1)
pub record IsRequest (granularity : Granularity) (call : Call) (request : AskOrError) : Type 0 where
  pub arguments : List ℕ
  pub asked : task_of call ≡ asking arguments
  pub read : request_of granularity (decoded_pairs arguments) ≡ request

-- the answer prints the token: its body is the bytes of a document in which a part of a list offers it, with its
-- expirationDate (section 3.5). Whatever the document is, the bytes show no other token; so the document need only be
-- one whose bytes show what it answers, and the date one of the years 0000 to 9999
pub record IsPrinted (answer : Answer) (offer : TokenOffer) : Type 0 where
  pub its : Document
  pub page : Page
  pub written : answer ≡ answered_with (document its)
  pub told : page_in its.answer ≡ Some page
  pub offered : offer_in page.continuation ≡ Some offer
  pub regular : IsRegular its.answer
  pub dated : IsWritable offer.expires

-- ---- a chain

-- the second visit comes, by the verb, with the token that the answer to the first prints, before its expirationDate
pub record IsNextVisit (config : RepositoryConfig) (verb : ListVerb) (before after : Visit) : Type 0 where
  pub offer : TokenOffer
  pub printed : IsPrinted before.answer offer
  pub asked : IsRequest config.granularity after.call (asks (ask.Resume verb offer.token))
  pub unexpired : int_lt (found_by after).clock offer.expires ≡ true

-- each comes with the token of the one before it
abbrev pub AreNextVisits : RepositoryConfig → ListVerb → Visit → List Visit → Type 0
AreNextVisits config verb before [] = Unit {0}
AreNextVisits config verb before (next ∷ others) = IsNextVisit config verb before next × AreNextVisits config verb next others

-- a chain among visits: the first requests a list that is too long for one answer, and is not answered with a time to
-- wait (section 3.1.2.2); and the others follow it by the tokens, whatever else comes between
pub record IsFollowing (config : RepositoryConfig) (all : List Visit) (list_request : ListQuery) (first : Visit) (others : List Visit) : Type 0 where
  pub among : IsPart (first ∷ others) all
  pub verb : is_of_records list_request.verb ≡ true
  pub asked : IsRequest config.granularity first.call
      (asks (ask.List list_request.verb list_request.prefix list_request.from list_request.until list_request.set))
  pub long : config.chunk < length (selection_in (found_by first) list_request)
  pub answered : first.answer.seconds ≡ None
  pub next : AreNextVisits config list_request.verb first others

-- ---- what follows

-- the visit is a request, is one step of the machine, and is answered with its outcome, written
pub record IsStepOf (config : RepositoryConfig) (visit : Visit) (step : Transition) : Type 0 where
  pub arguments : List ℕ
  pub asked : task_of visit.call ≡ asking arguments
  pub only : steps_of config visit ≡ step ∷ []
  pub found : step.found ≡ found_by visit
  pub written : visit.answer ≡ answer_of (outcome_output config.granularity step.outcome)

-- the answer is a document of the page, by the verb and in the format
pub record IsPageOf (verb : ListVerb) (format : Format) (visit : Visit) (page : Page) : Type 0 where
  pub its : Document
  pub written : visit.answer ≡ answered_with (document its)
  pub told : its.answer ≡ answer_by_verb verb format page

-- each visit is a step of the machine; each is answered with a page; and the pages, joined, are a prefix of the
-- selection at the first of them, and all of it once a page has the empty token, each record once, in order
pub record AreReached (config : RepositoryConfig) (list_request : ListQuery) (first : Visit) (others : List Visit) : Type 0 where
  pub steps : List Transition
  pub each : AllZip (IsStepOf config) (first ∷ others) steps
  pub pages : List Page
  pub followed : IsFollowedThrough config list_request (selection_in (found_by first) list_request) steps pages
  pub printed : AllZip (IsPageOf list_request.verb followed.format) (first ∷ others) pages
