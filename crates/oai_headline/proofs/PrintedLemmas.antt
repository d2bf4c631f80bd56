-- The token that the bytes of an answer show is the one that was answered.
use Rattle.std.proofs.Common.{◌≡◌, ◌∙◌, ℕ, ℤ, false, List, Option, None, Some, refl, sym, ap, subst}
use Rattle.oai_time.specs.Stamp.{IsWritable}
use Rattle.oai_time.specs.TimeTexts.{second_text}
use Rattle.oai_time.specs.declared.bound.Bound.TheVariants.{Second as OneSecond}
use Rattle.oai_time.specs.declared.granularity.Granularity.{Granularity}
use Rattle.oai_time.proofs.ReadingLemmas.{IsBound-unique}
use Rattle.oai_answers.specs.Answers.{Continuation, Document, Page, VerbAnswer, completes, fails, gives_record, identifies, lists_formats, lists_headers, lists_records, lists_sets, remains, whole}
use Rattle.oai_answers.specs.Documents.{document}
use Rattle.oai_answers.specs.Seen.{SeenAnswer, SeenDocument, SeenToken, answer_seen, document_seen, seen_error, seen_formats, seen_headers, seen_identity, seen_record, seen_records, seen_sets, token_seen}
use Rattle.oai_answers.proofs.RegularLemmas.{same_seen}
use Rattle.oai_repo.specs.Machine.{Outcome, accepted, documented, later, outcome_output, refused_with}
use Rattle.oai_laws.specs.Following.{TokenOffer, is_later, offer_in, page_in, page_shown}
use Rattle.oai_laws.specs.Shown.{IsRegularOutcome}
use Rattle.oai_http.specs.Answers.{answered_with}
use Rattle.oai_http.specs.declared.exchanges.Answer.{Answer}
use Rattle.oai_host.specs.Answers.{answer_of}
use Rattle.oai_headline.specs.Chains.{IsPrinted}
use Rattle.oai_headline.proofs.EndLemmas.{AnswerEnds, EndsAt}

-- ---- two tokens that are seen alike

pub one_second : (a b : ℤ) → IsWritable a → IsWritable b → second_text a ≡ second_text b → a ≡ b
one_second a b wa wb same =
    let e : OneSecond a ≡ OneSecond b =
    IsBound-unique (second_text b) (OneSecond a) (OneSecond b) (record { in_range = wa; written = sym same }) (record { in_range = wb; written = refl }) in
    let it : a ≡ b = cc in it

same_offer : (end : ℤ) (a b : Continuation) (offer : TokenOffer) → token_seen a ≡ token_seen b → offer_in b ≡ Some offer → IsWritable end → IsWritable offer.expires → EndsAt end a
    → offer_in a ≡ Some offer
same_offer end whole whole offer same offered lasts dated ends = cc
same_offer end whole (completes extent) offer same offered lasts dated ends = cc
same_offer end whole (remains expires extent token) offer same offered lasts dated ends = cc
same_offer end (completes x) whole offer same offered lasts dated ends = cc
same_offer end (completes x) (completes extent) offer same offered lasts dated ends = cc
same_offer end (completes x) (remains expires extent token) offer same offered lasts dated ends = cc
same_offer end (remains e x t) whole offer same offered lasts dated ends = cc
same_offer end (remains e x t) (completes extent) offer same offered lasts dated ends = cc
same_offer end (remains e x t) (remains expires extent token) offer same offered lasts dated ends =
    let texts : second_text e ≡ second_text expires = cc in
    let tokens : t ≡ token = cc in
    let is : record { token = token; expires = expires } ≡ offer = cc in
    let its_dated : IsWritable expires = subst (λ (o : TokenOffer). IsWritable o.expires) (sym is) dated in
    let times : e ≡ expires = one_second e expires (subst IsWritable (sym ends) lasts) its_dated texts in
    cc

-- ---- two answers that are seen alike

-- the token that is seen
abbrev token_in : SeenAnswer → Option SeenToken
token_in (seen_error code) = None
token_in (seen_identity identity) = None
token_in (seen_formats formats) = None
token_in (seen_sets sets) = None
token_in (seen_record its) = None
token_in (seen_headers headers token) = Some token
token_in (seen_records records token) = Some token

abbrev token_of_page : Option Page → Option SeenToken
token_of_page None = None
token_of_page (Some page) = Some (token_seen page.continuation)

token_is : (base : List ℕ) (answer : VerbAnswer) → token_in (answer_seen base answer) ≡ token_of_page (page_in answer)
token_is base (fails code) = refl
token_is base (identifies description) = refl
token_is base (lists_formats formats) = refl
token_is base (lists_sets sets) = refl
token_is base (gives_record dissemination) = refl
token_is base (lists_headers page) = refl
token_is base (lists_records format page) = refl

-- so a page is told, whose token is the other's
abbrev pub HasOffer : Option Page → TokenOffer → Type 0
HasOffer found offer = (page : Page) × (found ≡ Some page) × (offer_in page.continuation ≡ Some offer)

pub page_ends : (end : ℤ) (answer : VerbAnswer) (page : Page) → page_in answer ≡ Some page → AnswerEnds end answer → EndsAt end page.continuation
page_ends end (fails code) page told ends = cc
page_ends end (identifies description) page told ends = cc
page_ends end (lists_formats formats) page told ends = cc
page_ends end (lists_sets sets) page told ends = cc
page_ends end (gives_record dissemination) page told ends = cc
page_ends end (lists_headers its) page told ends = let same : its ≡ page = cc in subst (λ (p : Page). EndsAt end p.continuation) same ends
page_ends end (lists_records format its) page told ends = let same : its ≡ page = cc in subst (λ (p : Page). EndsAt end p.continuation) same ends

same_page : (end : ℤ) (found : Option Page) (page : Page) (offer : TokenOffer) → token_of_page found ≡ Some (token_seen page.continuation) → offer_in page.continuation ≡ Some offer
    → IsWritable end → IsWritable offer.expires → ((p : Page) → found ≡ Some p → EndsAt end p.continuation) → HasOffer found offer
same_page end None page offer seen offered lasts dated ends = cc
same_page end (Some its) page offer seen offered lasts dated ends =
    let same : token_seen its.continuation ≡ token_seen page.continuation = cc in
    (its, refl, same_offer end its.continuation page.continuation offer same offered lasts dated (ends its refl))

answer_offers : (end : ℤ) (base its_base : List ℕ) (answer its : VerbAnswer) (page : Page) (offer : TokenOffer) → answer_seen base answer ≡ answer_seen its_base its
    → page_in its ≡ Some page → offer_in page.continuation ≡ Some offer → IsWritable end → IsWritable offer.expires → AnswerEnds end answer → HasOffer (page_in answer) offer
answer_offers end base its_base answer its page offer seen told offered lasts dated ends =
    same_page end (page_in answer) page offer
    (sym (token_is base answer) ∙ ap token_in seen ∙ token_is its_base its ∙ ap token_of_page told)
    offered lasts dated (λ p h. page_ends end answer p h ends)

-- ---- what is written

-- what is answered to a request: a document, or that it is to come again later
abbrev pub IsReplied : ℤ → Outcome → Type 0
IsReplied end (documented d) = AnswerEnds end d.answer
IsReplied end (later seconds) = Unit {0}
IsReplied end (accepted stamp) = ⊥
IsReplied end (refused_with cause) = ⊥

pub same_body : (g : Granularity) (d its : Document) → answer_of (outcome_output g (documented d)) ≡ answered_with (document its) → document d ≡ document its
unfolding outcome_output
same_body g d its same = ap (λ (a : Answer). a.body) same

pub never_printed : (g : Granularity) (seconds : ℤ) (body : List ℕ) → answer_of (outcome_output g (later seconds)) ≡ answered_with body → ⊥
unfolding outcome_output
never_printed g seconds body same = let e : Some seconds ≡ None = ap (λ (a : Answer). a.seconds) same in cc

-- the token that is printed is the one of the page that was answered
pub printed_offer : (g : Granularity) (end : ℤ) (outcome : Outcome) (answer : Answer) (offer : TokenOffer) → answer ≡ answer_of (outcome_output g outcome)
    → IsReplied end outcome → IsRegularOutcome outcome → IsWritable end → IsPrinted answer offer → HasOffer (page_shown outcome) offer
printed_offer g end (documented d) answer offer is replied regular lasts printed =
    let bytes : document d ≡ document printed.its = same_body g d printed.its (sym is ∙ printed.written) in
    let seen : document_seen d ≡ document_seen printed.its = same_seen d printed.its regular printed.regular bytes in
    answer_offers end d.base printed.its.base d.answer printed.its.answer printed.page offer (ap (λ (s : SeenDocument). s.answer) seen)
    printed.told printed.offered lasts printed.dated replied
printed_offer g end (later seconds) answer offer is replied regular lasts printed =
    absurd (never_printed g seconds (document printed.its) (sym is ∙ printed.written))
printed_offer g end (accepted stamp) answer offer is replied regular lasts printed = absurd replied
printed_offer g end (refused_with cause) answer offer is replied regular lasts printed = absurd replied

-- who is not told to come again later
pub not_later : (g : Granularity) (outcome : Outcome) → (answer_of (outcome_output g outcome)).seconds ≡ None → is_later outcome ≡ false
unfolding outcome_output
not_later g (documented d) h = refl
not_later g (later seconds) h = cc
not_later g (accepted stamp) h = refl
not_later g (refused_with cause) h = refl
