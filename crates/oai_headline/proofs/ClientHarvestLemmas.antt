-- Harvests in a client's words are harvests by the steps of the machine; so the client's copy is whole.
use Rattle.std.proofs.Common.{◌≡◌, ◌≢◌, ◌∙◌, ◌↔◌, ◌<◌, ◌+◌, ◌⊎◌, inl, inr, ℕ, ℤ, true, false, List, [], ◌∷◌, ◌++◌, length, map, take, Option, None, Some, refl, sym, ap, subst}
use Rattle.std.specs.Prelude.{int_lt, option_and_then}
use Rattle.std.specs.List.{AllByRecursion, AllZip, Contains, flat_map}
use Rattle.std.proofs.lemmas.Bool.{cases_lt, or_left, or_right}
use Rattle.std.proofs.lemmas.List.{map-append}
use Rattle.oai_names.specs.declared.list_verbs.ListVerb.TheVariants as list
use Rattle.oai_args.specs.Asks.{asks}
use Rattle.oai_args.specs.declared.requests.Ask.TheVariants as ask
use Rattle.oai_time.specs.Stamp.{IsWritable, stamp_of}
use Rattle.oai_time.specs.TimeTexts.{datestamp_text, second_text}
use Rattle.oai_time.specs.declared.granularity.Granularity.{Granularity}
use Rattle.oai_time.specs.declared.granularity.Granularity.TheVariants.{Day, Second}
use Rattle.oai_time.proofs.BoundLemmas.{day_in_second, day_text-stamp_of}
use Rattle.oai_item.specs.Formats.{AreRepositoryFormats, format_named}
use Rattle.oai_item.specs.Item.{ItemState}
use Rattle.oai_item.specs.declared.deleted_record.DeletedRecord.TheVariants.{Persistent}
use Rattle.oai_item.specs.declared.formats.Format.{Format}
use Rattle.oai_item.specs.Selection.{selected}
use Rattle.oai_answers.specs.Answers.{Page, VerbAnswer, fails, lists_records, whole}
use Rattle.oai_answers.specs.Seen.{SeenAnswer, SeenDocument, SeenRecord, SeenToken, answer_seen, no_token, record_seen, seen_error, seen_formats, seen_headers, seen_identity, seen_record, seen_records, seen_sets, seen_token, token_seen}
use Rattle.oai_answers.specs.declared.errors.ErrorCode.{ErrorCode}
use Rattle.oai_answers.specs.declared.errors.ErrorCode.TheVariants.{BadArgument, BadResumptionToken, BadVerb, CannotDisseminateFormat, IdDoesNotExist, NoMetadataFormats, NoRecordsMatch, NoSetHierarchy}
use Rattle.oai_settings.specs.Config.{IsConfig, RepositoryConfig}
use Rattle.oai_repo.specs.Answers.{arguments_of_request, filter_of}
use Rattle.oai_repo.specs.Listing.{answer_by_verb, format_response}
use Rattle.oai_repo.specs.Machine.{act, outcome_of}
use Rattle.oai_repo.specs.State.{RepoState, empty_state}
use Rattle.oai_repo.proofs.ClockLemmas.{writable}
use Rattle.oai_laws.specs.Effects.{IsSound}
use Rattle.oai_laws.specs.Following.{AreNext, ArePagesAt, IsChain, IsNextRequest, ListQuery, answer_in, first_request, is_later, page_in, page_shown, selection_in}
use Rattle.oai_laws.specs.Harvests.{AreHarvests, Harvest, IsHarvest, IsWholeCopy, datestamp_of, harvested, items_told, last_harvest, records_since}
use Rattle.oai_laws.specs.Runs.{IsPart, Timed, Transition, run}
use Rattle.oai_laws.specs.Shown.{is_followed_to_its_end, is_last_page}
use Rattle.oai_laws.proofs.ChainLemmas.{chain_followed}
use Rattle.oai_laws.proofs.HarvestLemmas.{harvests_copied, part_first}
use Rattle.oai_laws.proofs.WholeLemmas.{none_told, whole_told}
use Rattle.oai_copy.specs.Copies.{caught_up_with}
use Rattle.oai_config.specs.Configs.{NamedConfig}
use Rattle.oai_http.specs.declared.exchanges.Answer.{Answer}
use Rattle.oai_http.specs.declared.exchanges.Call.{Call}
use Rattle.oai_host.specs.Tasks.{asking}
use Rattle.oai_headline.specs.ClientHarvests.{AreClientHarvests, AreNextSeen, AreSuccessiveByClient, ClientHarvest, IsClientHarvest, IsNextSeen, IsRecordIn, IsSeenVisit, IsWholeClientCopy, SeenVisit, client_copy, datestamp_in, is_harvest_end, last_client_harvest, last_of_each, last_visit, records_of_harvest, records_seen, visits_of}
use Rattle.oai_startup.specs.Rules.{HasRules}
use Rattle.oai_host.specs.Alone.{own_answers, own_calls}
use Rattle.oai_headline.specs.Throughout.{AreTrueFrom, own_calls_done, own_given, whole_visits}
use Rattle.oai_headline.specs.Visits.{Visit, commands_in, found_by, visits}
use Rattle.oai_headline.proofs.CarriedLemmas.{steps_run}
use Rattle.oai_headline.proofs.ClientCopyLemmas.{client_copied}
use Rattle.oai_headline.proofs.EndLemmas.{end_writable}
use Rattle.oai_headline.proofs.FollowedLemmas.{its_command}
use Rattle.oai_headline.proofs.PartLemmas.{part_twice}
use Rattle.oai_headline.proofs.PrintedLemmas.{one_second}
use Rattle.oai_headline.proofs.SeenLemmas.{IsSeenOf, end_of, end_seen, error_seen, list_seen, page_in_answer, seen_date, seen_offer, taken_seen}
use Rattle.oai_headline.proofs.TakenLemmas.{IsAsking, IsReachable, IsTaken, reachable_empty, reachable_moved, step_with, taken, taken_found}

-- ---- the step of a visit

pub taken_reachable : (config : RepositoryConfig) (visit : Visit) (step : Transition) → IsTaken config visit step → IsReachable config step.found
taken_reachable config visit step h =
    subst (IsReachable config) (sym (taken_found config visit step h)) (reachable_moved config visit.call.moment visit.before h.reachable)

pub taken_acted : (config : RepositoryConfig) (visit : Visit) (step : Transition) → IsTaken config visit step → step.outcome ≡ (act config step.found step.command).0
taken_acted config visit step h = subst (λ (e : Transition). e.outcome ≡ (act config e.found e.command).0) (sym h.is) refl

-- a visit has one step
pub taken_once : (config : RepositoryConfig) (visit : Visit) (a b : Transition) → IsTaken config visit a → IsTaken config visit b → a ≡ b
taken_once config visit a b this that =
    let asks : asking this.arguments ≡ asking that.arguments = sym this.asked ∙ that.asked in
    let same : this.arguments ≡ that.arguments = cc in
    this.is ∙ ap (step_with config visit) same ∙ sym that.is

-- what the client sees in the answer is what the step answered
pub record IsMatched (config : RepositoryConfig) (visited : SeenVisit) (step : Transition) : Type 0 where
  pub taken : IsTaken config visited.visit step
  pub sees : IsSeenOf config step visited.seen

abbrev pub visit_in : SeenVisit → Visit
visit_in visited = visited.visit

matched : (config : RepositoryConfig) (some : List SeenVisit) (steps : List Transition) → AreRepositoryFormats config.formats → AllZip (IsTaken config) (map visit_in some) steps
    → AllByRecursion IsSeenVisit some → AllZip (IsMatched config) some steps
matched config [] [] formats each seen = tt
matched config [] (step ∷ steps) formats each seen = absurd each
matched config (visited ∷ some) [] formats each seen = absurd each
matched config (visited ∷ some) (step ∷ steps) formats each seen = (
  record { taken = each.0; sees = taken_seen config visited.visit step visited.seen formats each.0 seen.0 },
  matched config some steps formats each.1 seen.1,
)

next_asking : (config : RepositoryConfig) (before : SeenVisit) (others : List SeenVisit) → AreNextSeen config before others → AllByRecursion IsAsking (map visit_in others)
next_asking config before [] next = tt
next_asking config before (visited ∷ others) next =
    (record { arguments = next.0.asked.arguments; asked = next.0.asked.asked }, next_asking config visited others next.1)

-- ---- the links

link : (config : RepositoryConfig) (before after : SeenVisit) (b a : Transition) → IsConfig config → IsMatched config before b → IsMatched config after a → IsNextSeen config before after
    → IsNextRequest list.Records b a
link config before after b a rules is its next =
    let page = list_seen config b before.seen next.records (seen_token next.token (second_text next.expires) next.size next.cursor) is.sees next.offered in
    let at : a.found.clock ≡ next.date =
    one_second a.found.clock next.date (writable a.found.clock (taken_reachable config after.visit a its.taken).years) next.writable.0 (seen_date config a after.seen its.sees ∙ next.dated)
    in
    record {
      page = page.page;
      offer = record { token = next.token; expires = next.expires };
      told = page.shown;
      offered = seen_offer (end_of config b) page.page.continuation next.token next.expires next.size next.cursor page.goes_on
          (end_writable config b.found.clock rules (taken_reachable config before.visit b is.taken).years) next.writable.1 page.ends;
      asked = its_command config after.visit a _ its.taken next.asked;
      unexpired = ap (λ (z : ℤ). int_lt z next.expires) at ∙ next.unexpired;
    }

links : (config : RepositoryConfig) (before : SeenVisit) (others : List SeenVisit) (b : Transition) (steps : List Transition) → IsConfig config → IsMatched config before b
    → AllZip (IsMatched config) others steps → AreNextSeen config before others → AreNext list.Records b steps
links config before [] b [] rules is each next = tt
links config before [] b (a ∷ steps) rules is each next = absurd each
links config before (visited ∷ others) b [] rules is each next = absurd each
links config before (visited ∷ others) b (a ∷ steps) rules is each next =
    (link config before visited b a rules is each.0 next.0, links config visited others a steps rules each.0 each.1 next.1)

-- ---- pages

-- the step answered a page of records in that format, and with datestamps of the repository's granularity
pub record IsPaged (config : RepositoryConfig) (format : Format) (step : Transition) : Type 0 where
  pub page : Page
  pub told : answer_in step.outcome ≡ Some (lists_records format page)
  pub dated : page.granularity ≡ config.granularity

pub all_paged : (config : RepositoryConfig) (format : Format) (size before : ℕ) (steps : List Transition) (pages : List Page)
    → map (λ (exchange : Transition). answer_in exchange.outcome) steps ≡ map (λ (page : Page). Some (answer_by_verb list.Records format page)) pages → ArePagesAt config size before pages
    → AllByRecursion (IsPaged config format) steps
all_paged config format size before [] pages told placed = tt
all_paged config format size before (step ∷ steps) [] told placed = cc
all_paged config format size before (step ∷ steps) (page ∷ pages) told placed =
    let here : answer_in step.outcome ≡ Some (lists_records format page) = cc in
    let rest : map (λ (exchange : Transition). answer_in exchange.outcome) steps ≡ map (λ (page : Page). Some (answer_by_verb list.Records format page)) pages = cc in
    (record { page = page; told = here; dated = placed.0.dated }, all_paged config format size (before + length page.items) steps pages rest placed.1)

pub paged_answer : (config : RepositoryConfig) (format : Format) (step : Transition) (seen : SeenDocument) (sees : IsSeenOf config step seen) (paged : IsPaged config format step)
    → sees.its.answer ≡ lists_records format paged.page
paged_answer config format step seen sees paged =
    let both : Some sees.its.answer ≡ Some (lists_records format paged.page) = sym (ap answer_in sees.told) ∙ paged.told in
    let it : sees.its.answer ≡ lists_records format paged.page = cc in it

-- the records that are seen are those of its items
records_paged : (config : RepositoryConfig) (format : Format) (step : Transition) (seen : SeenDocument) → IsSeenOf config step seen → IsPaged config format step
    → records_seen seen.answer ≡ map (record_seen config.granularity format) (items_told (page_shown step.outcome))
records_paged config format step seen sees paged =
    ap (λ (s : SeenDocument). records_seen s.answer) (sym sees.shown)
    ∙ ap (λ (a : VerbAnswer). records_seen (answer_seen sees.its.base a)) (paged_answer config format step seen sees paged)
    ∙ ap (λ (g : Granularity). map (record_seen g format) paged.page.items) paged.dated
    ∙ ap (λ (o : Option Page). map (record_seen config.granularity format) (items_told o)) (sym (page_in_answer step.outcome format paged.page paged.told))

all_records : (config : RepositoryConfig) (format : Format) (some : List SeenVisit) (steps : List Transition) → AllZip (IsMatched config) some steps → AllByRecursion (IsPaged config format) steps
    → flat_map (λ (visited : SeenVisit). records_seen visited.seen.answer) some
    ≡ map (record_seen config.granularity format) (flat_map (λ (exchange : Transition). items_told (page_shown exchange.outcome)) steps)
all_records config format [] [] each paged = refl
all_records config format [] (step ∷ steps) each paged = absurd each
all_records config format (visited ∷ some) [] each paged = absurd each
all_records config format (visited ∷ some) (step ∷ steps) each paged =
    let f : ItemState → SeenRecord = record_seen config.granularity format in
    let items : List ItemState = flat_map (λ (exchange : Transition). items_told (page_shown exchange.outcome)) steps in
    ap (λ (xs : List SeenRecord). xs ++ flat_map (λ (v : SeenVisit). records_seen v.seen.answer) some) (records_paged config format step visited.seen each.0.sees paged.0)
    ∙ ap (λ (ys : List SeenRecord). map f (items_told (page_shown step.outcome)) ++ ys) (all_records config format some steps each.1 paged.1)
    ∙ sym (map-append f (items_told (page_shown step.outcome)) items)

-- the list ends with it where that is seen
pub end_paged : (config : RepositoryConfig) (format : Format) (step : Transition) (seen : SeenDocument) → IsSeenOf config step seen → IsPaged config format step
    → is_harvest_end seen.answer ≡ is_last_page (page_shown step.outcome)
end_paged config format step seen sees paged =
    ap (λ (s : SeenDocument). is_harvest_end s.answer) (sym sees.shown)
    ∙ ap (λ (a : VerbAnswer). is_harvest_end (answer_seen sees.its.base a)) (paged_answer config format step seen sees paged)
    ∙ end_seen paged.page.continuation
    ∙ ap is_last_page (sym (page_in_answer step.outcome format paged.page paged.told))

last_ends : (config : RepositoryConfig) (format : Format) (visited : SeenVisit) (others : List SeenVisit) (step : Transition) (steps : List Transition) → IsMatched config visited step
    → AllZip (IsMatched config) others steps → AllByRecursion (IsPaged config format) (step ∷ steps) → is_harvest_end (last_visit visited others).seen.answer ≡ true
    → is_followed_to_its_end (step ∷ steps) ≡ true
last_ends config format visited [] step [] is each paged ended =
    or_left (is_last_page (page_shown step.outcome)) false (sym (end_paged config format step visited.seen is.sees paged.0) ∙ ended)
last_ends config format visited [] step (next ∷ steps) is each paged ended = absurd each
last_ends config format visited (other ∷ others) step [] is each paged ended = absurd each
last_ends config format visited (other ∷ others) step (next ∷ steps) is each paged ended =
    or_right (is_last_page (page_shown step.outcome)) (is_followed_to_its_end (next ∷ steps)) (last_ends config format other others next steps each.0 each.1 paged.1 ended)

-- ---- the first answer

-- one that lists records tells all of them, or a part of a longer list
record IsWholeAnswer (config : RepositoryConfig) (prefix : List ℕ) (step : Transition) : Type 0 where
  pub format : Format
  pub known : format_named prefix config.formats ≡ Some format
  pub paged : IsPaged config format step
  pub tokenless : paged.page.continuation ≡ whole

pub none_or_some : (items : List ItemState) → (items ≡ []) ⊎ (items ≢ [])
none_or_some [] = inl refl
none_or_some (item ∷ items) = inr (λ e. cc)

long_or_whole : (config : RepositoryConfig) (prefix : List ℕ) (from : Option (List ℕ)) (step : Transition) (format : Format) (page : Page) → IsSound config step.found
    → step.outcome ≡ (act config step.found (first_request (records_since prefix from))).0 → answer_in step.outcome ≡ Some (lists_records format page)
    → (config.chunk < length (selection_in step.found (records_since prefix from))) ⊎ IsWholeAnswer config prefix step
long_or_whole config prefix from step format page sound acted told =
    let request : ListQuery = records_since prefix from in
    let selection : List ItemState = selection_in step.found request in
    elim (none_or_some selection) [
      | inl none ↦
          let answered = none_told config step.found request none in
          let clash : Some (fails answered.code) ≡ Some (lists_records format page) = sym (ap answer_in acted ∙ answered.told) ∙ told in
          cc
      | inr some ↦
          elim (cases_lt config.chunk (length selection)) [
            | inl long ↦ inl long
            | inr short ↦
                let answered = whole_told config step.found request sound refl some short in
                inr (record {
                  format = answered.format;
                  known = answered.known;
                  paged = record { page = answered.page; told = ap answer_in acted ∙ answered.told; dated = answered.dated };
                  tokenless = answered.tokenless;
                })
          ]
    ]

-- where no records match, the repository has the format
none_known : (config : RepositoryConfig) (state : RepoState) (prefix : List ℕ) (from : Option (List ℕ))
    → answer_in (act config state (first_request (records_since prefix from))).0 ≡ Some (fails NoRecordsMatch) → (format : Format) × (format_named prefix config.formats ≡ Some format)
unfolding act
none_known config state prefix from h = by (format_named prefix config.formats) refl h
  where
    by : (found : Option Format) → format_named prefix config.formats ≡ found
        → answer_in (outcome_of config state.clock (arguments_of_request (asks (ask.List list.Records prefix from None None)))
        (format_response config state.clock state.open_lists list.Records found (selected (filter_of prefix from None None) state.holdings.items)).0)
        ≡ Some (fails NoRecordsMatch) → (format : Format) × (format_named prefix config.formats ≡ Some format)
    by (Some format) is told = (format, is)
    by None is told = cc

-- what is seen at the end of a harvest
none_matching : (code : ErrorCode) → is_harvest_end (seen_error code) ≡ true → code ≡ NoRecordsMatch
none_matching BadArgument h = cc
none_matching BadResumptionToken h = cc
none_matching BadVerb h = cc
none_matching CannotDisseminateFormat h = cc
none_matching IdDoesNotExist h = cc
none_matching NoRecordsMatch h = refl
none_matching NoMetadataFormats h = cc
none_matching NoSetHierarchy h = cc

abbrev IsListed : SeenAnswer → Type 0
IsListed answer = (records : List SeenRecord) × (token : SeenToken) × (answer ≡ seen_records records token)

end_is : (answer : SeenAnswer) → is_harvest_end answer ≡ true → (answer ≡ seen_error NoRecordsMatch) ⊎ IsListed answer
end_is (seen_error code) h = inl (ap seen_error (none_matching code h))
end_is (seen_identity identity) h = cc
end_is (seen_formats formats) h = cc
end_is (seen_sets sets) h = cc
end_is (seen_record its) h = cc
end_is (seen_headers headers token) h = cc
end_is (seen_records records token) h = inr (records, token, refl)

-- ---- a harvest

-- what the client sees of it is what the steps of the machine's harvest told
pub record IsToldAs (config : RepositoryConfig) (prefix : List ℕ) (harvest : ClientHarvest) (machine : Harvest) : Type 0 where
  pub taken : IsTaken config harvest.first.visit machine.first
  pub date : datestamp_of config machine ≡ datestamp_in config.granularity harvest.first.seen.date
  pub format : Format
  pub known : format_named prefix config.formats ≡ Some format
  pub records : records_of_harvest harvest ≡ map (record_seen config.granularity format) (harvested machine)

pub record IsMet (config : RepositoryConfig) (exchanges : List Transition) (prefix : List ℕ) (from : Option (List ℕ)) (harvest : ClientHarvest) : Type 0 where
  pub machine : Harvest
  pub among : IsPart (machine.first ∷ []) exchanges
  pub made : IsHarvest config exchanges (records_since prefix from) machine
  pub told : IsToldAs config prefix harvest machine

date_of : (g : Granularity) (clock : ℤ) (date : List ℕ) → IsWritable clock → second_text clock ≡ date → datestamp_text g (stamp_of g clock) ≡ datestamp_in g date
date_of Day clock date dated same = sym (day_text-stamp_of clock dated) ∙ sym (day_in_second clock) ∙ ap (take 10) same
date_of Second clock date dated same = same

first_date : (config : RepositoryConfig) (visited : SeenVisit) (step : Transition) (steps : List Transition) → IsMatched config visited step
    → datestamp_of config (record { first = step; others = steps }) ≡ datestamp_in config.granularity visited.seen.date
first_date config visited step steps is =
    date_of config.granularity step.found.clock visited.seen.date (writable step.found.clock (taken_reachable config visited.visit step is.taken).years)
    (seen_date config step visited.seen is.sees)

-- of its visits and their steps
record AreMatched (config : RepositoryConfig) (begun : RepoState) (commands : List Timed) (prefix : List ℕ) (from : Option (List ℕ)) (first : SeenVisit) (others : List SeenVisit) (step : Transition) (steps : List Transition) : Type 0 where
  pub rules : IsConfig config
  pub sound : IsSound config begun
  pub here : IsMatched config first step
  pub behind : AllZip (IsMatched config) others steps
  pub among : IsPart (step ∷ steps) (run config begun commands)
  pub asked : step.command ≡ first_request (records_since prefix from)
  pub next : AreNextSeen config first others
  pub ended : is_harvest_end (last_visit first others).seen.answer ≡ true

abbrev MetAt : RepositoryConfig → RepoState → List Timed → List ℕ → Option (List ℕ) → SeenVisit → List SeenVisit → Type 0
MetAt config begun commands prefix from first others = IsMet config (run config begun commands) prefix from (record { first = first; others = others })

long_met : (config : RepositoryConfig) (begun : RepoState) (commands : List Timed) (prefix : List ℕ) (from : Option (List ℕ)) (first : SeenVisit) (others : List SeenVisit) (step : Transition) (steps : List Transition)
    → AreMatched config begun commands prefix from first others step steps → config.chunk < length (selection_in step.found (records_since prefix from)) → MetAt config begun commands prefix from first others
long_met config begun commands prefix from first others step steps h long =
    let request : ListQuery = records_since prefix from in
    let exchanges : List Transition = run config begun commands in
    let chain : IsChain config exchanges request step steps = record {
      among = h.among;
      verb = refl;
      asked = h.asked;
      long = long;
      answered = ap is_later h.here.sees.told;
      next = links config first others step steps h.rules h.here h.behind h.next;
    } in
    let followed = chain_followed config commands begun request step steps h.rules h.sound chain in
    let paged = all_paged config followed.1.format (length (selection_in step.found request)) 0 (step ∷ steps) followed.0 followed.1.told followed.1.placed in
    record {
      machine = record { first = step; others = steps };
      among = part_first step steps exchanges h.among;
      made = record {
        asked = h.asked;
        answered = inr (inr (record {
          chain = chain;
          ended = last_ends config followed.1.format first others step steps h.here h.behind paged h.ended;
        }));
      };
      told = record {
        taken = h.here.taken;
        date = first_date config first step steps h.here;
        format = followed.1.format;
        known = followed.1.known;
        records = all_records config followed.1.format (first ∷ others) (step ∷ steps) (h.here, h.behind) paged;
      };
    }

-- in one answer
whole_met : (config : RepositoryConfig) (begun : RepoState) (commands : List Timed) (prefix : List ℕ) (from : Option (List ℕ)) (first : SeenVisit) (step : Transition)
    → AreMatched config begun commands prefix from first [] step [] → IsWholeAnswer config prefix step → MetAt config begun commands prefix from first []
whole_met config begun commands prefix from first step h answer = record {
  machine = record { first = step; others = [] };
  among = h.among;
  made = record {
    asked = h.asked;
    answered = inr (inl (record {
      page = answer.paged.page;
      told = page_in_answer step.outcome answer.format answer.paged.page answer.paged.told;
      tokenless = answer.tokenless;
      only = refl;
    }));
  };
  told = record {
    taken = h.here.taken;
    date = first_date config first step [] h.here;
    format = answer.format;
    known = answer.known;
    records = all_records config answer.format (first ∷ []) (step ∷ []) (h.here, tt) (answer.paged, tt);
  };
}

-- with nothing to harvest
none_met : (config : RepositoryConfig) (begun : RepoState) (commands : List Timed) (prefix : List ℕ) (from : Option (List ℕ)) (first : SeenVisit) (step : Transition)
    → AreMatched config begun commands prefix from first [] step [] → step.outcome ≡ (act config step.found (first_request (records_since prefix from))).0
    → first.seen.answer ≡ seen_error NoRecordsMatch → MetAt config begun commands prefix from first []
none_met config begun commands prefix from first step h acted is =
    let told : answer_in step.outcome ≡ Some (fails NoRecordsMatch) = error_seen config step first.seen NoRecordsMatch h.here.sees is in
    let known = none_known config step.found prefix from (sym (ap answer_in acted) ∙ told) in
    record {
      machine = record { first = step; others = [] };
      among = h.among;
      made = record { asked = h.asked; answered = inl (record { told = told; only = refl }) };
      told = record {
        taken = h.here.taken;
        date = first_date config first step [] h.here;
        format = known.0;
        known = known.1;
        records =
            ap (λ (a : SeenAnswer). records_seen a ++ []) is
            ∙ ap (λ (o : Option Page). map (record_seen config.granularity known.0) (items_told o ++ []))
            (sym (ap (option_and_then page_in) told));
      };
    }

-- a page that tells all has no token that others could ask with
never_next : (config : RepositoryConfig) (prefix : List ℕ) (first : SeenVisit) (step : Transition) (records : List SeenRecord) (token expires size cursor : List ℕ) → IsMatched config first step
    → IsWholeAnswer config prefix step → first.seen.answer ≡ seen_records records (seen_token token expires size cursor) → ⊥
never_next config prefix first step records token expires size cursor is answer offered =
    let page = list_seen config step first.seen records (seen_token token expires size cursor) is.sees offered in
    let both : Some page.page ≡ Some answer.paged.page = sym page.shown ∙ page_in_answer step.outcome answer.format answer.paged.page answer.paged.told in
    let same : page.page ≡ answer.paged.page = cc in
    let goes_on : no_token ≡ seen_token token expires size cursor =
    sym (ap (λ (p : Page). token_seen p.continuation) same ∙ ap token_seen answer.tokenless) ∙ page.goes_on
    in
    cc

met_at : (config : RepositoryConfig) (begun : RepoState) (commands : List Timed) (prefix : List ℕ) (from : Option (List ℕ)) (first : SeenVisit) (others : List SeenVisit) (step : Transition) (steps : List Transition)
    → AreMatched config begun commands prefix from first others step steps → MetAt config begun commands prefix from first others
met_at config begun commands prefix from first others step steps h = by others steps h
  where
    acted : (others : List SeenVisit) (steps : List Transition) → AreMatched config begun commands prefix from first others step steps
        → step.outcome ≡ (act config step.found (first_request (records_since prefix from))).0
    acted others steps h = taken_acted config first.visit step h.here.taken ∙ ap (λ c. (act config step.found c).0) h.asked

    either : (others : List SeenVisit) (steps : List Transition) (h : AreMatched config begun commands prefix from first others step steps) → IsListed first.seen.answer
        → (config.chunk < length (selection_in step.found (records_since prefix from))) ⊎ IsWholeAnswer config prefix step
    either others steps h listed =
        let page = list_seen config step first.seen listed.0 listed.1 h.here.sees listed.2 in
        long_or_whole config prefix from step page.format page.page (taken_reachable config first.visit step h.here.taken).sound (acted others steps h) page.told

    by : (others : List SeenVisit) (steps : List Transition) → AreMatched config begun commands prefix from first others step steps → MetAt config begun commands prefix from first others
    by [] [] h =
        elim (end_is first.seen.answer h.ended) [
          | inl none ↦ none_met config begun commands prefix from first step h (acted [] [] h) none
          | inr listed ↦
              elim (either [] [] h listed) [
                | inl long ↦ long_met config begun commands prefix from first [] step [] h long
                | inr answer ↦ whole_met config begun commands prefix from first step h answer
              ]
        ]
    by [] (a ∷ steps) h = absurd h.behind
    by (visited ∷ others) [] h = absurd h.behind
    by (visited ∷ others) (a ∷ steps) h =
        let next = h.next.0 in
        let token : SeenToken = seen_token next.token (second_text next.expires) next.size next.cursor in
        elim (either (visited ∷ others) (a ∷ steps) h (next.records, token, next.offered)) [
          | inl long ↦ long_met config begun commands prefix from first (visited ∷ others) step (a ∷ steps) h long
          | inr answer ↦ absurd (never_next config prefix first step next.records next.token (second_text next.expires) next.size next.cursor h.here answer next.offered)
        ]

pub harvest_met : (config : RepositoryConfig) (begun : RepoState) (calls : List Call) (all : List Visit) (prefix : List ℕ) (from : Option (List ℕ)) (harvest : ClientHarvest) → IsConfig config → AreRepositoryFormats config.formats
    → IsReachable config begun → IsPart all (visits config begun calls) → IsClientHarvest config all prefix from harvest
    → IsMet config (run config begun (commands_in config calls)) prefix from harvest
harvest_met config begun calls all prefix from harvest rules formats reachable part own =
    let some : List Visit = map visit_in (visits_of harvest) in
    let asks : AllByRecursion IsAsking some =
    (record { arguments = own.asked.arguments; asked = own.asked.asked }, next_asking config harvest.first harvest.others own.next)
    in
    let steps = taken config begun calls some reachable asks (part_twice some all (visits config begun calls) own.among part) in
    by steps.steps (matched config (visits_of harvest) steps.steps formats steps.each own.seen)
    (subst (IsPart steps.steps) (steps_run config begun calls) steps.among)
  where
    by : (steps : List Transition) → AllZip (IsMatched config) (visits_of harvest) steps → IsPart steps (run config begun (commands_in config calls))
        → IsMet config (run config begun (commands_in config calls)) prefix from harvest
    by [] each among = absurd each
    by (step ∷ steps) each among =
        met_at config begun (commands_in config calls) prefix from harvest.first harvest.others step steps
        (record {
          rules = rules;
          sound = reachable.sound;
          here = each.0;
          behind = each.1;
          among = among;
          asked = its_command config harvest.first.visit step _ each.0.taken own.asked;
          next = own.next;
          ended = own.ended;
        })

-- ---- all of them

abbrev pub first_in : ClientHarvest → Visit
first_in harvest = harvest.first.visit

record AreMet (config : RepositoryConfig) (exchanges : List Transition) (prefix : List ℕ) (from : Option (List ℕ)) (harvests : List ClientHarvest) (steps : List Transition) : Type 0 where
  pub machines : List Harvest
  pub firsts : map (λ (machine : Harvest). machine.first) machines ≡ steps
  pub made : AreHarvests config exchanges prefix from machines
  pub told : AllZip (IsToldAs config prefix) harvests machines

all_met : (config : RepositoryConfig) (calls : List Call) (all : List Visit) (prefix : List ℕ) (from : Option (List ℕ)) (harvests : List ClientHarvest) (steps : List Transition) → IsConfig config
    → AreRepositoryFormats config.formats → IsPart all (visits config (empty_state config) calls) → AllZip (IsTaken config) (map first_in harvests) steps
    → AreClientHarvests config all prefix from harvests → AreMet config (run config (empty_state config) (commands_in config calls)) prefix from harvests steps
all_met config calls all prefix from [] [] rules formats part each own = record { machines = []; firsts = refl; made = tt; told = tt }
all_met config calls all prefix from [] (step ∷ steps) rules formats part each own = absurd each
all_met config calls all prefix from (harvest ∷ harvests) [] rules formats part each own = absurd each
all_met config calls all prefix from (harvest ∷ harvests) (step ∷ steps) rules formats part each own =
    let exchanges : List Transition = run config (empty_state config) (commands_in config calls) in
    let one = harvest_met config (empty_state config) calls all prefix from harvest rules formats (reachable_empty config rules) part own.0 in
    let later = all_met config calls all prefix (Some (datestamp_in config.granularity harvest.first.seen.date)) harvests steps rules formats part each.1 own.1 in
    record {
      machines = one.machine ∷ later.machines;
      firsts =
          ap (λ (e : Transition). e ∷ map (λ (machine : Harvest). machine.first) later.machines) (taken_once config harvest.first.visit one.machine.first step one.told.taken each.0)
          ∙ ap (λ (es : List Transition). step ∷ es) later.firsts;
      made = (one.made, subst (λ (text : List ℕ). AreHarvests config exchanges prefix (Some text) later.machines) (sym one.told.date) later.made);
      told = (one.told, later.told);
    }

firsts_asking : (config : RepositoryConfig) (all : List Visit) (prefix : List ℕ) (from : Option (List ℕ)) (harvests : List ClientHarvest) → AreClientHarvests config all prefix from harvests
    → AllByRecursion IsAsking (map first_in harvests)
firsts_asking config all prefix from [] own = tt
firsts_asking config all prefix from (harvest ∷ harvests) own = (
  record { arguments = own.0.asked.arguments; asked = own.0.asked.asked },
  firsts_asking config all prefix (Some (datestamp_in config.granularity harvest.first.seen.date)) harvests own.1,
)

-- the records that the client sees are those of the items that the harvests told
records_told : (config : RepositoryConfig) (prefix : List ℕ) (format : Format) (harvests : List ClientHarvest) (machines : List Harvest) → format_named prefix config.formats ≡ Some format
    → AllZip (IsToldAs config prefix) harvests machines
    → flat_map records_of_harvest harvests ≡ map (record_seen config.granularity format) (flat_map (λ (items : List ItemState). items) (map harvested machines))
records_told config prefix format [] [] known told = refl
records_told config prefix format [] (machine ∷ machines) known told = absurd told
records_told config prefix format (harvest ∷ harvests) [] known told = absurd told
records_told config prefix format (harvest ∷ harvests) (machine ∷ machines) known told =
    let f : ItemState → SeenRecord = record_seen config.granularity format in
    let both : Some told.0.format ≡ Some format = sym told.0.known ∙ known in
    let same : told.0.format ≡ format = cc in
    let here : records_of_harvest harvest ≡ map f (harvested machine) =
    told.0.records ∙ ap (λ (its : Format). map (record_seen config.granularity its) (harvested machine)) same
    in
    ap (λ (xs : List SeenRecord). xs ++ flat_map records_of_harvest harvests) here
    ∙ ap (λ (ys : List SeenRecord). map f (harvested machine) ++ ys) (records_told config prefix format harvests machines known told.1)
    ∙ sym (map-append f (harvested machine) (flat_map (λ (items : List ItemState). items) (map harvested machines)))

-- the last ones find the same state
last_found : (config : RepositoryConfig) (prefix : List ℕ) (harvest : ClientHarvest) (harvests : List ClientHarvest) (machine : Harvest) (machines : List Harvest) → IsToldAs config prefix harvest machine
    → AllZip (IsToldAs config prefix) harvests machines → (last_harvest machine machines).first.found ≡ found_by (last_client_harvest harvest harvests).first.visit
last_found config prefix harvest [] machine [] is told = taken_found config harvest.first.visit machine.first is.taken
last_found config prefix harvest [] machine (next ∷ machines) is told = absurd told
last_found config prefix harvest (later ∷ harvests) machine [] is told = absurd told
last_found config prefix harvest (later ∷ harvests) machine (next ∷ machines) is told = last_found config prefix later harvests next machines told.0 told.1

-- if the copy of the machine's harvests is whole, so is the client's
pub copied_told : (config : RepositoryConfig) (prefix : List ℕ) (first : ClientHarvest) (others : List ClientHarvest) (machine : Harvest) (machines : List Harvest) → IsToldAs config prefix first machine
    → AllZip (IsToldAs config prefix) others machines
    → IsWholeCopy prefix (last_harvest machine machines).first.found (caught_up_with [] (map harvested (machine ∷ machines)))
    → IsWholeClientCopy config prefix (found_by (last_client_harvest first others).first.visit) (client_copy (first ∷ others))
copied_told config prefix first others machine machines told later copied =
    let state : RepoState = found_by (last_client_harvest first others).first.visit in
    let format : Format = told.format in
    let items : List (List ItemState) = map harvested (machine ∷ machines) in
    let copy : IsWholeCopy prefix state (caught_up_with [] items) =
    subst (λ (s : RepoState). IsWholeCopy prefix s (caught_up_with [] items)) (last_found config prefix first others machine machines told later) copied
    in
    let records = records_told config prefix format (first ∷ others) (machine ∷ machines) told.known (told, later) in
    record {
      format = format;
      known = told.known;
      members =
          subst (λ (all : List SeenRecord). (seen : SeenRecord) → Contains (last_of_each all) seen ↔ IsRecordIn config.granularity format prefix state seen) (sym records)
          (client_copied config.granularity format prefix state items copy);
    }

pub client_harvests_copied : (config : RepositoryConfig) (calls : List Call) (all : List Visit) (prefix : List ℕ) (first : ClientHarvest) (others : List ClientHarvest) → IsConfig config
    → AreRepositoryFormats config.formats → config.deleted ≡ Persistent → IsPart all (visits config (empty_state config) calls) → AreSuccessiveByClient config all prefix first others
    → IsWholeClientCopy config prefix (found_by (last_client_harvest first others).first.visit) (client_copy (first ∷ others))
client_harvests_copied config calls all prefix first others rules formats keeps part successive =
    let every : List Visit = visits config (empty_state config) calls in
    let begun : List Visit = map first_in (first ∷ others) in
    let steps = taken config (empty_state config) calls begun (reachable_empty config rules) (firsts_asking config all prefix None (first ∷ others) successive.harvests)
    (part_twice begun all every successive.begun part) in
    let met = all_met config calls all prefix None (first ∷ others) steps.steps rules formats part steps.each successive.harvests in
    by met.machines
    (subst (λ (es : List Transition). IsPart es exchanges) (sym met.firsts) (subst (IsPart steps.steps) (steps_run config (empty_state config) calls) steps.among))
    met.made met.told
  where
    commands : List Timed
    commands = commands_in config calls

    exchanges : List Transition
    exchanges = run config (empty_state config) commands

    by : (machines : List Harvest) → IsPart (map (λ (machine : Harvest). machine.first) machines) exchanges → AreHarvests config exchanges prefix None machines
        → AllZip (IsToldAs config prefix) (first ∷ others) machines
        → IsWholeClientCopy config prefix (found_by (last_client_harvest first others).first.visit) (client_copy (first ∷ others))
    by [] among made told = absurd told
    by (machine ∷ machines) among made told =
        copied_told config prefix first others machine machines told.0 told.1
        (harvests_copied config commands prefix machine machines rules keeps (record { begun = among; harvests = made }))

-- at a repository of a host
pub client_harvests_given : (calls : List Call) (answers : List Answer) (entry : NamedConfig) (left : RepoState) (prefix : List ℕ) (first : ClientHarvest) (others : List ClientHarvest) → HasRules entry
    → entry.config.deleted ≡ Persistent → AreTrueFrom entry.config (empty_state entry.config) (own_calls entry.name calls) (own_answers entry.name calls answers) left
    → AreSuccessiveByClient entry.config (whole_visits (own_given entry calls answers)) prefix first others
    → IsWholeClientCopy entry.config prefix (found_by (last_client_harvest first others).first.visit) (client_copy (first ∷ others))
client_harvests_given calls answers entry left prefix first others has keeps are successive =
    client_harvests_copied entry.config (own_calls_done entry calls answers) (whole_visits (own_given entry calls answers)) prefix first others has.rules has.formats keeps
    are.among successive
