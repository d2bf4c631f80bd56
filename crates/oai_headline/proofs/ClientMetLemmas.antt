-- Visits whose steps are a harvest of the machine are a harvest in a client's words: the answers show what such a harvest asks for.
use Rattle.std.proofs.Common.{◌≡◌, ◌≢◌, ◌∙◌, inl, inr, ℕ, true, false, List, [], ◌∷◌, length, map, Option, None, Some, is_none, refl, sym, ap, subst}
use Rattle.std.specs.Prelude.{option_and_then}
use Rattle.std.specs.Fmt.{decimal}
use Rattle.std.specs.List.{AllByRecursion, AllZip}
use Rattle.std.proofs.lemmas.Bool.{cases_Bool, cases_lt, false≢true, or_from}
use Rattle.oai_names.specs.declared.list_verbs.ListVerb.TheVariants as list
use Rattle.oai_time.specs.Stamp.{IsWritable}
use Rattle.oai_item.specs.Formats.{AreRepositoryFormats}
use Rattle.oai_item.specs.Item.{ItemState}
use Rattle.oai_item.specs.declared.formats.Format.{Format}
use Rattle.oai_answers.specs.Answers.{Continuation, Document, Page, VerbAnswer, completes, fails, lists_records, remains, whole}
use Rattle.oai_answers.specs.Seen.{SeenDocument, answer_seen, document_seen, record_seen, seen_records, token_seen}
use Rattle.oai_answers.specs.declared.errors.ErrorCode.TheVariants.{NoRecordsMatch}
use Rattle.oai_answers.specs.declared.tokens.Extent.{Extent}
use Rattle.oai_settings.specs.Config.{IsConfig, RepositoryConfig}
use Rattle.oai_repo.specs.Machine.{Outcome, accepted, act, documented, later, outcome_output, refused_with}
use Rattle.oai_repo.specs.State.{empty_state}
use Rattle.oai_repo.proofs.ClockLemmas.{writable}
use Rattle.oai_laws.specs.Effects.{IsSound}
use Rattle.oai_laws.specs.Following.{AreNext, IsChain, IsNextRequest, ListQuery, TokenOffer, answer_in, first_request, is_later, offer_in, page_in, page_shown, selection_in}
use Rattle.oai_laws.specs.Harvests.{Harvest, IsHarvest, records_since, requests_of}
use Rattle.oai_laws.specs.Runs.{IsPart, Timed, Transition, run}
use Rattle.oai_laws.specs.Shown.{IsRegularOutcome, is_followed_to_its_end, is_last_page}
use Rattle.oai_laws.proofs.ChainLemmas.{following}
use Rattle.oai_laws.proofs.ShownLemmas.{regular_act}
use Rattle.oai_laws.proofs.WholeLemmas.{none_told, whole_told}
use Rattle.oai_http.specs.declared.exchanges.Answer.{Answer}
use Rattle.oai_http.specs.declared.exchanges.Call.{Call}
use Rattle.oai_host.specs.Answers.{answer_of}
use Rattle.oai_headline.specs.Chains.{IsStepOf}
use Rattle.oai_headline.specs.ClientHarvests.{AreNextSeen, IsNextSeen, IsSeen, IsSeenVisit, IsSomeClientHarvest, SeenVisit, is_harvest_end, last_visit}
use Rattle.oai_headline.specs.Visits.{Visit, commands_in, found_by, visits}
use Rattle.oai_headline.proofs.CarriedLemmas.{steps_run}
use Rattle.oai_headline.proofs.ClientHarvestLemmas.{IsMatched, IsPaged, all_paged, end_paged, none_or_some, paged_answer, taken_acted, taken_reachable, visit_in}
use Rattle.oai_headline.proofs.EndLemmas.{EndsAt, end_writable}
use Rattle.oai_headline.proofs.MetLemmas.{its_request, offer_end}
use Rattle.oai_headline.proofs.PrintedLemmas.{page_ends}
use Rattle.oai_headline.proofs.SeenLemmas.{end_of, page_in_answer, seen_date, taken_seen}
use Rattle.oai_headline.proofs.TakenLemmas.{IsAsking, IsTaken, reachable_empty, reachable_moved, request_in, taken, taken_step, taken_written}

-- ---- the steps are those that were taken

steps_asking : (config : RepositoryConfig) (some : List Visit) (steps : List Transition) → AllZip (IsStepOf config) some steps → AllByRecursion IsAsking some
steps_asking config [] [] each = tt
steps_asking config [] (step ∷ steps) each = absurd each
steps_asking config (visit ∷ some) [] each = absurd each
steps_asking config (visit ∷ some) (step ∷ steps) each = (record { arguments = each.0.arguments; asked = each.0.asked }, steps_asking config some steps each.1)

same_steps : (config : RepositoryConfig) (some : List Visit) (these those : List Transition) → AllZip (IsTaken config) some these → AllZip (IsStepOf config) some those → these ≡ those
same_steps config [] [] [] is each = refl
same_steps config [] [] (b ∷ those) is each = absurd each
same_steps config [] (a ∷ these) those is each = absurd is
same_steps config (visit ∷ some) [] those is each = absurd is
same_steps config (visit ∷ some) (a ∷ these) [] is each = absurd each
same_steps config (visit ∷ some) (a ∷ these) (b ∷ those) is each =
    let both : a ∷ [] ≡ b ∷ [] = sym (taken_step config visit a is.0).only ∙ each.0.only in
    let same : a ≡ b = cc in
    ap (λ (e : Transition). e ∷ these) same ∙ ap (λ (es : List Transition). b ∷ es) (same_steps config some these those is.1 each.1)

-- ---- what is seen of a step that answered something

abbrev IsAnswered : Transition → Type 0
IsAnswered step = (answer : VerbAnswer) × (answer_in step.outcome ≡ Some answer)

document_in : (outcome : Outcome) (answer : VerbAnswer) → answer_in outcome ≡ Some answer → (its : Document) × (outcome ≡ documented its)
document_in (documented its) answer h = (its, refl)
document_in (later seconds) answer h = cc
document_in (accepted stamp) answer h = cc
document_in (refused_with cause) answer h = cc

written_by : (config : RepositoryConfig) (answer : Answer) (outcome : Outcome) (its : Document) → answer ≡ answer_of (outcome_output config.granularity outcome) → IsRegularOutcome outcome → outcome ≡ documented its
    → IsSeen answer (document_seen its)
unfolding outcome_output
written_by config answer outcome its written regular told = record {
  its = its;
  written = written ∙ ap (λ (o : Outcome). answer_of (outcome_output config.granularity o)) told;
  regular = subst IsRegularOutcome told regular;
  shown = refl;
}

taken_shown : (config : RepositoryConfig) (visit : Visit) (step : Transition) → AreRepositoryFormats config.formats → IsTaken config visit step → IsAnswered step
    → (seen : SeenDocument) × IsSeen visit.answer seen
taken_shown config visit step formats h answered =
    let its = document_in step.outcome answered.0 answered.1 in
    let reachable = reachable_moved config visit.call.moment visit.before h.reachable in
    let regular : IsRegularOutcome step.outcome =
    subst (λ (e : Transition). IsRegularOutcome e.outcome) (sym h.is) (regular_act config (found_by visit) (request_in config h.arguments) formats reachable.sound)
    in
    (document_seen its.0, written_by config visit.answer step.outcome its.0 (taken_written config visit step h) regular its.1)

record AreSeenAs (config : RepositoryConfig) (some : List Visit) (steps : List Transition) : Type 0 where
  pub visited : List SeenVisit
  pub are : map visit_in visited ≡ some
  pub each : AllZip (IsMatched config) visited steps
  pub seen : AllByRecursion IsSeenVisit visited

seen_as : (config : RepositoryConfig) (some : List Visit) (steps : List Transition) → AreRepositoryFormats config.formats → AllZip (IsTaken config) some steps → AllByRecursion IsAnswered steps
    → AreSeenAs config some steps
seen_as config [] [] formats is answered = record { visited = []; are = refl; each = tt; seen = tt }
seen_as config [] (step ∷ steps) formats is answered = absurd is
seen_as config (visit ∷ some) [] formats is answered = absurd is
seen_as config (visit ∷ some) (step ∷ steps) formats is answered =
    let shown = taken_shown config visit step formats is.0 answered.0 in
    let rest = seen_as config some steps formats is.1 answered.1 in
    record {
      visited = record { visit = visit; seen = shown.0 } ∷ rest.visited;
      are = ap (λ (vs : List Visit). visit ∷ vs) rest.are;
      each = (record { taken = is.0; sees = taken_seen config visit step shown.0 formats is.0 shown.1 }, rest.each);
      seen = (shown.1, rest.seen);
    }

-- ---- the tokens

record IsRemaining (continuation : Continuation) (offer : TokenOffer) : Type 0 where
  pub extent : Extent
  pub is : continuation ≡ remains offer.expires extent offer.token

remaining : (continuation : Continuation) (offer : TokenOffer) → offer_in continuation ≡ Some offer → IsRemaining continuation offer
remaining whole offer h = cc
remaining (completes extent) offer h = cc
remaining (remains expires extent token) offer h =
    let same : record { token = token; expires = expires } ≡ offer = cc in
    record { extent = extent; is = ap (λ (o : TokenOffer). remains o.expires extent o.token) same }

next_seen : (config : RepositoryConfig) (format : Format) (before after : SeenVisit) (b a : Transition) → IsConfig config → IsMatched config before b → IsMatched config after a → IsPaged config format b
    → IsNextRequest list.Records b a → IsNextSeen config before after
next_seen config format before after b a rules is its paged next =
    let both : Some next.page ≡ Some paged.page = sym next.told ∙ page_in_answer b.outcome format paged.page paged.told in
    let same : next.page ≡ paged.page = cc in
    let offered : offer_in paged.page.continuation ≡ Some next.offer = ap (λ (p : Page). offer_in p.continuation) (sym same) ∙ next.offered in
    let left = remaining paged.page.continuation next.offer offered in
    let answer : is.sees.its.answer ≡ lists_records format paged.page = paged_answer config format b before.seen is.sees paged in
    let ends : EndsAt (end_of config b) paged.page.continuation = page_ends (end_of config b) is.sees.its.answer paged.page (ap page_in answer) is.sees.ends in
    let expires : next.offer.expires ≡ end_of config b = offer_end (end_of config b) paged.page.continuation next.offer offered ends in
    record {
      records = map (record_seen paged.page.granularity format) paged.page.items;
      token = next.offer.token;
      expires = next.offer.expires;
      size = decimal left.extent.size;
      cursor = decimal left.extent.cursor;
      offered =
          ap (λ (s : SeenDocument). s.answer) (sym is.sees.shown)
          ∙ ap (answer_seen is.sees.its.base) answer
          ∙ ap (λ (c : Continuation). seen_records (map (record_seen paged.page.granularity format) paged.page.items) (token_seen c)) left.is;
      asked = its_request config after.visit a _ (taken_step config after.visit a its.taken) next.asked;
      date = a.found.clock;
      dated = sym (seen_date config a after.seen its.sees);
      unexpired = next.unexpired;
      writable = (
        writable a.found.clock (taken_reachable config after.visit a its.taken).years,
        subst IsWritable (sym expires) (end_writable config b.found.clock rules (taken_reachable config before.visit b is.taken).years),
      );
    }

all_next : (config : RepositoryConfig) (format : Format) (before : SeenVisit) (others : List SeenVisit) (b : Transition) (steps : List Transition) → IsConfig config → IsMatched config before b
    → AllZip (IsMatched config) others steps → AllByRecursion (IsPaged config format) (b ∷ steps) → AreNext list.Records b steps → AreNextSeen config before others
all_next config format before [] b steps rules is each paged next = tt
all_next config format before (visited ∷ others) b [] rules is each paged next = absurd each
all_next config format before (visited ∷ others) b (a ∷ steps) rules is each paged next = (
  next_seen config format before visited b a rules is each.0 paged.0 next.0,
  all_next config format visited others a steps rules each.0 each.1 paged.1 next.1,
)

-- ---- the end

never_last : (step : Transition) (page : Page) (offer : TokenOffer) → page_shown step.outcome ≡ Some page → offer_in page.continuation ≡ Some offer → is_last_page (page_shown step.outcome) ≡ false
never_last step page offer shown offered = ap is_last_page shown ∙ ap is_none offered

ends_last : (config : RepositoryConfig) (format : Format) (visited : SeenVisit) (others : List SeenVisit) (step : Transition) (steps : List Transition) → IsMatched config visited step
    → AllZip (IsMatched config) others steps → AllByRecursion (IsPaged config format) (step ∷ steps) → AreNext list.Records step steps → is_followed_to_its_end (step ∷ steps) ≡ true
    → is_harvest_end (last_visit visited others).seen.answer ≡ true
ends_last config format visited [] step [] is each paged next ended =
    elim (cases_Bool (is_last_page (page_shown step.outcome))) [
      | inl last ↦ end_paged config format step visited.seen is.sees paged.0 ∙ last
      | inr more ↦ absurd (false≢true (sym (or_from (is_last_page (page_shown step.outcome)) false more refl) ∙ ended))
    ]
ends_last config format visited [] step (a ∷ steps) is each paged next ended = absurd each
ends_last config format visited (other ∷ others) step [] is each paged next ended = absurd each
ends_last config format visited (other ∷ others) step (a ∷ steps) is each paged next ended =
    let more : is_last_page (page_shown step.outcome) ≡ false = never_last step next.0.page next.0.offer next.0.told next.0.offered in
    elim (cases_Bool (is_followed_to_its_end (a ∷ steps))) [
      | inl behind ↦ ends_last config format other others a steps each.0 each.1 paged.1 next.1 behind
      | inr none ↦ absurd (false≢true (sym (or_from (is_last_page (page_shown step.outcome)) (is_followed_to_its_end (a ∷ steps)) more none) ∙ ended))
    ]

paged_answered : (config : RepositoryConfig) (format : Format) (steps : List Transition) → AllByRecursion (IsPaged config format) steps → AllByRecursion IsAnswered steps
paged_answered config format [] paged = tt
paged_answered config format (step ∷ steps) paged = ((lists_records format paged.0.page, paged.0.told), paged_answered config format steps paged.1)

not_waiting : (outcome : Outcome) (page : Page) → page_shown outcome ≡ Some page → is_later outcome ≡ false
not_waiting (documented its) page h = refl
not_waiting (later seconds) page h = cc
not_waiting (accepted stamp) page h = refl
not_waiting (refused_with cause) page h = refl

-- a list request that was answered a page was answered its records
first_paged : (config : RepositoryConfig) (commands : List Timed) (prefix : List ℕ) (from : Option (List ℕ)) (step : Transition) (page : Page) → IsConfig config → IsSound config step.found
    → IsPart (step ∷ []) (run config (empty_state config) commands) → step.command ≡ first_request (records_since prefix from)
    → step.outcome ≡ (act config step.found (first_request (records_since prefix from))).0 → page_shown step.outcome ≡ Some page → (format : Format) × IsPaged config format step
first_paged config commands prefix from step page rules sound among asked acted shown =
    let request : ListQuery = records_since prefix from in
    let selection : List ItemState = selection_in step.found request in
    elim (none_or_some selection) [
      | inl none ↦
          let answered = none_told config step.found request none in
          let clash : None ≡ Some page = sym (ap (option_and_then page_in) (ap answer_in acted ∙ answered.told)) ∙ shown in
          cc
      | inr some ↦
          elim (cases_lt config.chunk (length selection)) [
            | inl long ↦
                let chain : IsChain config (run config (empty_state config) commands) request step [] =
                record { among = among; verb = refl; asked = asked; long = long; answered = not_waiting step.outcome page shown; next = tt } in
                let followed = following config commands request step [] rules chain in
                (followed.1.format, (all_paged config followed.1.format (length selection) 0 (step ∷ []) followed.0 followed.1.told followed.1.placed).0)
            | inr short ↦
                let answered = whole_told config step.found request sound refl some short in
                (answered.format, record { page = answered.page; told = ap answer_in acted ∙ answered.told; dated = answered.dated })
          ]
    ]

-- ---- a harvest

harvest_from : (config : RepositoryConfig) (all : List Visit) (prefix : List ℕ) (from : Option (List ℕ)) (some : List Visit) (step : Transition) (steps : List Transition) → IsPart some all
    → step.command ≡ first_request (records_since prefix from) → AreSeenAs config some (step ∷ steps)
    → ((first : SeenVisit) (others : List SeenVisit) → IsMatched config first step → AllZip (IsMatched config) others steps
    → AreNextSeen config first others × (is_harvest_end (last_visit first others).seen.answer ≡ true))
    → IsSomeClientHarvest config all prefix from some
harvest_from config all prefix from some step steps part asked seen rest = by seen.visited seen.are seen.each seen.seen
  where
    by : (visited : List SeenVisit) → map visit_in visited ≡ some → AllZip (IsMatched config) visited (step ∷ steps) → AllByRecursion IsSeenVisit visited → IsSomeClientHarvest config all prefix from some
    by [] are each sees = absurd each
    by (first ∷ others) are each sees =
        let both = rest first others each.0 each.1 in (
          record { first = first; others = others },
          are,
          record {
            among = subst (λ (vs : List Visit). IsPart vs all) (sym are) part;
            seen = sees;
            asked = its_request config first.visit step _ (taken_step config first.visit step each.0.taken) asked;
            next = both.0;
            ended = both.1;
          },
        )

-- a harvest in one answer, which ends it
only : (config : RepositoryConfig) (step : Transition) → ((visited : SeenVisit) → IsMatched config visited step → is_harvest_end visited.seen.answer ≡ true) → (first : SeenVisit) (others : List SeenVisit)
    → IsMatched config first step → AllZip (IsMatched config) others [] → AreNextSeen config first others × (is_harvest_end (last_visit first others).seen.answer ≡ true)
only config step ended first [] here behind = (tt, ended first here)
only config step ended first (visited ∷ others) here behind = absurd behind

first_sound : (config : RepositoryConfig) (step : Transition) (steps : List Transition) (some : List Visit) → AllZip (IsTaken config) some (step ∷ steps)
    → IsSound config step.found × (step.outcome ≡ (act config step.found step.command).0)
first_sound config step steps [] is = absurd is
first_sound config step steps (visit ∷ some) is = ((taken_reachable config visit step is.0).sound, taken_acted config visit step is.0)

pub harvest_seen : (config : RepositoryConfig) (calls : List Call) (prefix : List ℕ) (from : Option (List ℕ)) (some : List Visit) (harvest : Harvest) → IsConfig config → AreRepositoryFormats config.formats
    → IsPart some (visits config (empty_state config) calls) → AllZip (IsStepOf config) some (requests_of harvest)
    → IsHarvest config (run config (empty_state config) (commands_in config calls)) (records_since prefix from) harvest
    → IsSomeClientHarvest config (visits config (empty_state config) calls) prefix from some
harvest_seen config calls prefix from some harvest rules formats part each made =
    let own = taken config (empty_state config) calls some (reachable_empty config rules) (steps_asking config some (requests_of harvest) each) part in
    let same : own.steps ≡ requests_of harvest = same_steps config some own.steps (requests_of harvest) own.each each in
    by harvest.first harvest.others (subst (λ (es : List Transition). AllZip (IsTaken config) some es) same own.each)
    (subst (λ (es : List Transition). IsPart es exchanges) same (subst (IsPart own.steps) (steps_run config (empty_state config) calls) own.among)) made
  where
    all : List Visit
    all = visits config (empty_state config) calls

    commands : List Timed
    commands = commands_in config calls

    exchanges : List Transition
    exchanges = run config (empty_state config) commands

    request : ListQuery
    request = records_since prefix from

    -- in one answer, which ends it
    one : (step : Transition) (answer : VerbAnswer) → AllZip (IsTaken config) some (step ∷ []) → step.command ≡ first_request request → answer_in step.outcome ≡ Some answer
        → ((visited : SeenVisit) → IsMatched config visited step → is_harvest_end visited.seen.answer ≡ true) → IsSomeClientHarvest config all prefix from some
    one step answer is asked told ended =
        harvest_from config all prefix from some step [] part asked (seen_as config some (step ∷ []) formats is ((answer, told), tt)) (only config step ended)

    none : (step : Transition) → AllZip (IsTaken config) some (step ∷ []) → step.command ≡ first_request request → answer_in step.outcome ≡ Some (fails NoRecordsMatch)
        → IsSomeClientHarvest config all prefix from some
    none step is asked told =
        one step (fails NoRecordsMatch) is asked told
        (λ visited h.
        let both : Some h.sees.its.answer ≡ Some (fails NoRecordsMatch) = sym (ap answer_in h.sees.told) ∙ told in
        let answer : h.sees.its.answer ≡ fails NoRecordsMatch = cc in
        ap (λ (s : SeenDocument). is_harvest_end s.answer) (sym h.sees.shown) ∙ ap (λ (a : VerbAnswer). is_harvest_end (answer_seen h.sees.its.base a)) answer)

    at_once : (step : Transition) (page : Page) → AllZip (IsTaken config) some (step ∷ []) → IsPart (step ∷ []) exchanges → step.command ≡ first_request request
        → IsSound config step.found → step.outcome ≡ (act config step.found (first_request request)).0 → page_shown step.outcome ≡ Some page → page.continuation ≡ whole → IsSomeClientHarvest config all prefix from some
    at_once step page is among asked sound acted shown tokenless =
        let paged = first_paged config commands prefix from step page rules sound among asked acted shown in
        one step (lists_records paged.0 paged.1.page) is asked paged.1.told
        (λ visited h. end_paged config paged.0 step visited.seen h.sees paged.1 ∙ ap is_last_page shown ∙ ap (λ (c : Continuation). is_none (offer_in c)) tokenless)

    followed : (step : Transition) (steps : List Transition) → AllZip (IsTaken config) some (step ∷ steps) → step.command ≡ first_request request → IsChain config exchanges request step steps
        → is_followed_to_its_end (step ∷ steps) ≡ true → IsSomeClientHarvest config all prefix from some
    followed step steps is asked chain ended =
        let told = following config commands request step steps rules chain in
        let paged = all_paged config told.1.format (length (selection_in step.found request)) 0 (step ∷ steps) told.0 told.1.told told.1.placed in
        harvest_from config all prefix from some step steps part asked
        (seen_as config some (step ∷ steps) formats is (paged_answered config told.1.format (step ∷ steps) paged))
        (λ first others here behind. (
          all_next config told.1.format first others step steps rules here behind paged chain.next,
          ends_last config told.1.format first others step steps here behind paged chain.next ended,
        ))

    by : (step : Transition) (steps : List Transition) → AllZip (IsTaken config) some (step ∷ steps) → IsPart (step ∷ steps) exchanges
        → IsHarvest config exchanges request (record { first = step; others = steps }) → IsSomeClientHarvest config all prefix from some
    by step steps is among made =
        elim made.answered [
          | inl empty ↦ none step (subst (λ (es : List Transition). AllZip (IsTaken config) some (step ∷ es)) empty.only is) made.asked empty.told
          | inr more ↦
              elim more [
                | inl single ↦
                    let known = first_sound config step steps some is in
                    at_once step single.page (subst (λ (es : List Transition). AllZip (IsTaken config) some (step ∷ es)) single.only is)
                    (subst (λ (es : List Transition). IsPart (step ∷ es) exchanges) single.only among) made.asked known.0
                    (known.1 ∙ ap (λ c. (act config step.found c).0) made.asked) single.told single.tokenless
                | inr chained ↦ followed step steps is made.asked chained.chain chained.ended
              ]
        ]
