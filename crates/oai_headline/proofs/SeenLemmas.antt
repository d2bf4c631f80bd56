-- What a client sees in the answer to a request is what the machine answered.
use Rattle.std.proofs.Common.{◌≡◌, ◌∙◌, ℕ, ℤ, pos, ◌+ℤ◌, List, Some, is_none, refl, sym, ap, subst}
use Rattle.std.specs.Prelude.{option_and_then}
use Rattle.oai_args.specs.Pairs.{decoded_pairs}
use Rattle.oai_args.specs.Requests.{request_of}
use Rattle.oai_time.specs.Stamp.{IsWritable}
use Rattle.oai_time.specs.TimeTexts.{second_text}
use Rattle.oai_time.specs.declared.granularity.Granularity.{Granularity}
use Rattle.oai_item.specs.Formats.{AreRepositoryFormats}
use Rattle.oai_item.specs.declared.formats.Format.{Format}
use Rattle.oai_answers.specs.Answers.{Attributes, Continuation, Document, Page, VerbAnswer, completes, fails, gives_record, identifies, lists_formats, lists_headers, lists_records, lists_sets, remains, whole}
use Rattle.oai_answers.specs.Documents.{document}
use Rattle.oai_answers.specs.Seen.{SeenDocument, SeenRecord, SeenToken, answer_seen, document_seen, seen_error, seen_records, seen_token, token_seen}
use Rattle.oai_answers.specs.declared.errors.ErrorCode.{ErrorCode}
use Rattle.oai_answers.proofs.RegularLemmas.{same_seen}
use Rattle.oai_settings.specs.Config.{RepositoryConfig}
use Rattle.oai_repo.specs.Answers.{arguments_of_request}
use Rattle.oai_repo.specs.Listing.{Response, request_response, retry_after, with_answer}
use Rattle.oai_repo.specs.Machine.{Outcome, accepted, act, documented, later, outcome_of, outcome_output, refused_with}
use Rattle.oai_repo.specs.State.{RepoState}
use Rattle.oai_laws.specs.Following.{answer_in, offer_in, page_in, page_shown}
use Rattle.oai_laws.specs.Runs.{Transition}
use Rattle.oai_laws.specs.Shown.{IsRegularOutcome}
use Rattle.oai_laws.proofs.ShownLemmas.{regular_act}
use Rattle.oai_http.specs.Answers.{answered_with}
use Rattle.oai_http.specs.declared.exchanges.Answer.{Answer}
use Rattle.oai_host.specs.Answers.{answer_of}
use Rattle.oai_headline.specs.ClientHarvests.{IsSeen, is_list_end}
use Rattle.oai_headline.specs.Visits.{Visit, found_by}
use Rattle.oai_headline.proofs.EndLemmas.{AnswerEnds, EndsAt}
use Rattle.oai_headline.proofs.PrintedLemmas.{IsReplied, never_printed, one_second, page_ends, same_body}
use Rattle.oai_headline.proofs.TakenLemmas.{IsTaken, reachable_moved, replied_act, request_in, step_with, taken_written}

-- ---- what is seen is determined by the answer

body_is : (a b : List ℕ) (answer : Answer) → answer ≡ answered_with a → answer ≡ answered_with b → a ≡ b
body_is a b answer is its = ap (λ (h : Answer). h.body) (sym is ∙ its)

pub seen_once : (answer : Answer) (a b : SeenDocument) → IsSeen answer a → IsSeen answer b → a ≡ b
seen_once answer a b this that =
    sym this.shown
    ∙ same_seen this.its that.its this.regular that.regular (body_is (document this.its) (document that.its) answer this.written that.written)
    ∙ that.shown

-- ---- an answer is dated the clock of the machine

abbrev IsDatedAt : ℤ → Outcome → Type 0
IsDatedAt clock (documented d) = d.date ≡ clock
IsDatedAt clock (later seconds) = Unit {0}
IsDatedAt clock (accepted stamp) = Unit {0}
IsDatedAt clock (refused_with cause) = Unit {0}

dated_outcome : (config : RepositoryConfig) (clock : ℤ) (asked : Attributes) (said : Response) → IsDatedAt clock (outcome_of config clock asked said)
dated_outcome config clock asked (with_answer answer) = refl
dated_outcome config clock asked (retry_after seconds) = tt

dated_act : (config : RepositoryConfig) (state : RepoState) (arguments : List ℕ) → IsDatedAt state.clock (act config state (request_in config arguments)).0
unfolding act
dated_act config state arguments =
    let request = request_of config.granularity (decoded_pairs arguments) in
    dated_outcome config state.clock (arguments_of_request request) (request_response config state request).0

-- ---- the document that was answered

-- the outcome is a document of that clock, which shows that, and in which no token expires at another time
pub record IsDocumented (clock end : ℤ) (outcome : Outcome) (seen : SeenDocument) : Type 0 where
  pub its : Document
  pub told : outcome ≡ documented its
  pub shown : document_seen its ≡ seen
  pub dated : its.date ≡ clock
  pub ends : AnswerEnds end its.answer

documented_by : (g : Granularity) (clock end : ℤ) (outcome : Outcome) (answer : Answer) (seen : SeenDocument) → answer ≡ answer_of (outcome_output g outcome) → IsReplied end outcome
    → IsDatedAt clock outcome → IsRegularOutcome outcome → IsSeen answer seen → IsDocumented clock end outcome seen
documented_by g clock end (documented d) answer seen is replied dated regular sees = record {
  its = d;
  told = refl;
  shown = same_seen d sees.its regular sees.regular (same_body g d sees.its (sym is ∙ sees.written)) ∙ sees.shown;
  dated = dated;
  ends = replied;
}
documented_by g clock end (later seconds) answer seen is replied dated regular sees = absurd (never_printed g seconds (document sees.its) (sym is ∙ sees.written))
documented_by g clock end (accepted stamp) answer seen is replied dated regular sees = absurd replied
documented_by g clock end (refused_with cause) answer seen is replied dated regular sees = absurd replied

-- when a token ends that the step hands out
abbrev pub end_of : RepositoryConfig → Transition → ℤ
end_of config step = step.found.clock +ℤ pos config.lifetime

abbrev pub IsSeenOf : RepositoryConfig → Transition → SeenDocument → Type 0
IsSeenOf config step seen = IsDocumented step.found.clock (end_of config step) step.outcome seen

pub taken_seen : (config : RepositoryConfig) (visit : Visit) (step : Transition) (seen : SeenDocument) → AreRepositoryFormats config.formats → IsTaken config visit step → IsSeen visit.answer seen
    → IsSeenOf config step seen
taken_seen config visit step seen formats h sees =
    let found : RepoState = found_by visit in
    let reachable = reachable_moved config visit.call.moment visit.before h.reachable in
    let its : Transition = step_with config visit h.arguments in
    subst (λ (e : Transition). IsSeenOf config e seen) (sym h.is)
    (documented_by config.granularity found.clock (found.clock +ℤ pos config.lifetime) its.outcome visit.answer seen
    (taken_written config visit step h ∙ ap (λ (e : Transition). answer_of (outcome_output config.granularity e.outcome)) h.is)
    (replied_act config found h.arguments) (dated_act config found h.arguments) (regular_act config found (request_in config h.arguments) formats reachable.sound) sees)

pub seen_date : (config : RepositoryConfig) (step : Transition) (seen : SeenDocument) → IsSeenOf config step seen → second_text step.found.clock ≡ seen.date
seen_date config step seen h = ap second_text (sym h.dated) ∙ ap (λ (s : SeenDocument). s.date) h.shown

-- ---- an error is that error

code_seen : (base : List ℕ) (answer : VerbAnswer) (code : ErrorCode) → answer_seen base answer ≡ seen_error code → answer ≡ fails code
code_seen base (fails its) code h = let same : its ≡ code = cc in ap fails same
code_seen base (identifies description) code h = cc
code_seen base (lists_formats formats) code h = cc
code_seen base (lists_sets sets) code h = cc
code_seen base (gives_record dissemination) code h = cc
code_seen base (lists_headers page) code h = cc
code_seen base (lists_records format page) code h = cc

pub error_seen : (config : RepositoryConfig) (step : Transition) (seen : SeenDocument) (code : ErrorCode) → IsSeenOf config step seen → seen.answer ≡ seen_error code
    → answer_in step.outcome ≡ Some (fails code)
error_seen config step seen code h is =
    ap answer_in h.told ∙ ap Some (code_seen h.its.base h.its.answer code (ap (λ (s : SeenDocument). s.answer) h.shown ∙ is))

-- ---- a list is that list

record IsPageSeen (answer : VerbAnswer) (records : List SeenRecord) (token : SeenToken) : Type 0 where
  pub format : Format
  pub page : Page
  pub told : answer ≡ lists_records format page
  pub goes_on : token_seen page.continuation ≡ token

page_seen : (base : List ℕ) (answer : VerbAnswer) (records : List SeenRecord) (token : SeenToken) → answer_seen base answer ≡ seen_records records token → IsPageSeen answer records token
page_seen base (fails code) records token h = cc
page_seen base (identifies description) records token h = cc
page_seen base (lists_formats formats) records token h = cc
page_seen base (lists_sets sets) records token h = cc
page_seen base (gives_record dissemination) records token h = cc
page_seen base (lists_headers page) records token h = cc
page_seen base (lists_records format page) records token h = record { format = format; page = page; told = refl; goes_on = cc }

-- the step answered a page of records, that is how it goes on, and its token expires then
pub record IsListSeen (end : ℤ) (step : Transition) (token : SeenToken) : Type 0 where
  pub format : Format
  pub page : Page
  pub told : answer_in step.outcome ≡ Some (lists_records format page)
  pub shown : page_shown step.outcome ≡ Some page
  pub goes_on : token_seen page.continuation ≡ token
  pub ends : EndsAt end page.continuation

pub page_in_answer : (outcome : Outcome) (format : Format) (page : Page) → answer_in outcome ≡ Some (lists_records format page) → page_shown outcome ≡ Some page
page_in_answer outcome format page h = ap (option_and_then page_in) h

pub list_seen : (config : RepositoryConfig) (step : Transition) (seen : SeenDocument) (records : List SeenRecord) (token : SeenToken) → IsSeenOf config step seen → seen.answer ≡ seen_records records token
    → IsListSeen (end_of config step) step token
list_seen config step seen records token h is =
    let found = page_seen h.its.base h.its.answer records token (ap (λ (s : SeenDocument). s.answer) h.shown ∙ is) in
    let told : answer_in step.outcome ≡ Some (lists_records found.format found.page) = ap answer_in h.told ∙ ap Some found.told in
    record {
      format = found.format;
      page = found.page;
      told = told;
      shown = page_in_answer step.outcome found.format found.page told;
      goes_on = found.goes_on;
      ends = page_ends (end_of config step) h.its.answer found.page (ap page_in found.told) h.ends;
    }

-- ---- a token is that token

pub seen_offer : (end : ℤ) (continuation : Continuation) (token : List ℕ) (expires : ℤ) (size cursor : List ℕ) → token_seen continuation ≡ seen_token token (second_text expires) size cursor → IsWritable end
    → IsWritable expires → EndsAt end continuation → offer_in continuation ≡ Some (record { token = token; expires = expires })
seen_offer end whole token expires size cursor h lasts dated ends = cc
seen_offer end (completes extent) token expires size cursor h lasts dated ends = cc
seen_offer end (remains e extent t) token expires size cursor h lasts dated ends =
    let texts : second_text e ≡ second_text expires = cc in
    let tokens : t ≡ token = cc in
    let times : e ≡ expires = one_second e expires (subst IsWritable (sym ends) lasts) dated texts in
    cc

-- a page ends the list where that is seen
pub end_seen : (continuation : Continuation) → is_list_end (token_seen continuation) ≡ is_none (offer_in continuation)
end_seen whole = refl
end_seen (remains expires extent token) = refl
end_seen (completes extent) = refl
