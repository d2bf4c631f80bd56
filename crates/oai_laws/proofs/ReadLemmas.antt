-- From the bytes of the pages of a list that is followed to its end, what is seen of its selection is determined.
use Rattle.std.proofs.Common.{◌≡◌, ◌∙◌, inl, inr, ℕ, ◌+◌, Bool, true, false, ◌||◌, List, [], ◌∷◌, ◌++◌, length, map, Option, None, Some, is_none, refl, sym, ap, subst}
use Rattle.std.specs.Prelude.{option_and_then}
use Rattle.std.proofs.lemmas.List.{map-append}
use Rattle.oai_names.proofs.Cuts.{map-map}
use Rattle.oai_names.specs.declared.list_verbs.ListVerb.{ListVerb}
use Rattle.oai_names.specs.declared.list_verbs.ListVerb.TheVariants as list
use Rattle.oai_time.specs.declared.granularity.Granularity.{Granularity}
use Rattle.oai_item.specs.Formats.{AreRepositoryFormats}
use Rattle.oai_item.specs.Item.{ItemState}
use Rattle.oai_item.specs.declared.formats.Format.{Format}
use Rattle.oai_answers.specs.Answers.{Continuation, Document, Page, VerbAnswer, completes, remains, whole}
use Rattle.oai_answers.specs.Documents.{document}
use Rattle.oai_answers.specs.Seen.{IsRegular, SeenDocument, SeenHeader, SeenRecord, SeenToken, answer_seen, document_seen, empty_token, header_seen, no_token, record_seen, seen_token, token_seen}
use Rattle.oai_answers.proofs.RegularLemmas.{same_seen}
use Rattle.oai_settings.specs.Config.{RepositoryConfig}
use Rattle.oai_laws.specs.Effects.{IsSound}
use Rattle.oai_args.specs.Verbs.{is_of_records}
use Rattle.oai_laws.specs.Following.{ArePagesAt, ListQuery, answer_in, are_complete, joined, offer_in, page_in, selection_in}
use Rattle.oai_repo.specs.Listing.{answer_by_verb}
use Rattle.oai_repo.specs.Machine.{Outcome, accepted, documented, later, refused_with, outcome_output}
use Rattle.oai_laws.specs.Runs.{IsPart, Throughout, Timed, Transition, performed, run}
use Rattle.oai_laws.specs.Shown.{IsFollowedList, IsRegularOutcome, IsSomeAnswer, bytes_written, is_followed_to_its_end, is_last_page, seen_by, selection_seen}
use Rattle.oai_repo.specs.State.{RepoState, empty_state, moved}
use Rattle.oai_laws.proofs.ChainLemmas.{following}
use Rattle.oai_laws.proofs.EffectLemmas.{sound_act, sound_empty, sound_moved}
use Rattle.oai_laws.proofs.FollowLemmas.{told_page}
use Rattle.oai_laws.proofs.ShownLemmas.{regular_act}

-- ---- every exchange is answered so

abbrev pub IsRegularExchange : Transition → Type 0
IsRegularExchange exchange = IsRegularOutcome exchange.outcome

regular_part : (config : RepositoryConfig) (commands : List Timed) (state : RepoState) (some : List Transition) → AreRepositoryFormats config.formats → IsSound config state → IsPart some (run config state commands)
    → Throughout IsRegularExchange some
regular_part config [] state some rules sound none = subst (Throughout IsRegularExchange) (sym none) tt
regular_part config (timed ∷ commands) state some rules sound (inl part) =
    regular_part config commands (performed config state timed).left some rules (sound_act config (moved timed.moment state) timed.command (sound_moved config timed.moment state sound)) part
regular_part config (timed ∷ commands) state some rules sound (inr here) =
    let found = sound_moved config timed.moment state sound in
    subst (Throughout IsRegularExchange) (sym here.1) (
      regular_act config (moved timed.moment state) timed.command rules found,
      regular_part config commands (performed config state timed).left here.0 rules (sound_act config (moved timed.moment state) timed.command found) here.2,
    )

regular_answer : (config : RepositoryConfig) (d : Document) → IsSomeAnswer config d → IsRegular d.answer
regular_answer config d is =
    subst IsRegularOutcome is.told (regular_part config is.commands (empty_state config) (is.exchange ∷ []) is.formats (sound_empty config) is.among).0

pub answers_shown : (config other : RepositoryConfig) (a b : Document) → IsSomeAnswer config a → IsSomeAnswer other b → document a ≡ document b → document_seen a ≡ document_seen b
answers_shown config other a b is its same = same_seen a b (regular_answer config a is) (regular_answer other b its) same

-- ---- one page

-- an outcome that tells an answer is a document with that answer
record IsDocument (outcome : Outcome) (answer : VerbAnswer) : Type 0 where
  pub document : Document
  pub is : outcome ≡ documented document
  pub told : document.answer ≡ answer

document_told : (outcome : Outcome) (answer : VerbAnswer) → answer_in outcome ≡ Some answer → IsDocument outcome answer
document_told (documented d) answer h = record { document = d; is = refl; told = let e : d.answer ≡ answer = cc in e }
document_told (later seconds) answer h = cc
document_told (accepted stamp) answer h = cc
document_told (refused_with cause) answer h = cc

bytes_same : (g k : Granularity) (a b : Document) → outcome_output g (documented a) ≡ outcome_output k (documented b) → document a ≡ document b
unfolding outcome_output
bytes_same g k a b same = cc

-- what is seen of a page
abbrev IsSeenAlike : ListVerb → Granularity → Format → Page → ListVerb → Granularity → Format → Page → Type 0
IsSeenAlike verb g format page its k other its_page =
    (map (seen_by verb g (Some format)) page.items ≡ map (seen_by its k (Some other)) its_page.items) × (token_seen page.continuation ≡ token_seen its_page.continuation)

abbrev header_alone : SeenHeader → SeenRecord
header_alone header = record { header = header; metadata = None; about = [] }

alike : (verb its : ListVerb) (base its_base : List ℕ) (format other : Format) (page its_page : Page) → is_of_records verb ≡ true → is_of_records its ≡ true
    → answer_seen base (answer_by_verb verb format page) ≡ answer_seen its_base (answer_by_verb its other its_page)
    → IsSeenAlike verb page.granularity format page its its_page.granularity other its_page
alike list.Identifiers list.Identifiers base its_base format other page its_page ok its_ok same =
    let headers : map (header_seen page.granularity) page.items ≡ map (header_seen its_page.granularity) its_page.items = cc in
    let tokens : token_seen page.continuation ≡ token_seen its_page.continuation = cc in (
      sym (map-map (header_seen page.granularity) header_alone page.items) ∙ ap (map header_alone) headers ∙ map-map (header_seen its_page.granularity) header_alone its_page.items,
      tokens,
    )
alike list.Identifiers list.Records base its_base format other page its_page ok its_ok same = cc
alike list.Identifiers list.Sets base its_base format other page its_page ok its_ok same = cc
alike list.Records list.Identifiers base its_base format other page its_page ok its_ok same = cc
alike list.Records list.Records base its_base format other page its_page ok its_ok same =
    let records : map (record_seen page.granularity format) page.items ≡ map (record_seen its_page.granularity other) its_page.items = cc in
    let tokens : token_seen page.continuation ≡ token_seen its_page.continuation = cc in
    (records, tokens)
alike list.Records list.Sets base its_base format other page its_page ok its_ok same = cc
alike list.Sets its base its_base format other page its_page ok its_ok same = cc

one_page : (g k : Granularity) (verb its : ListVerb) (format other : Format) (page its_page : Page) (outcome its_outcome : Outcome) → is_of_records verb ≡ true → is_of_records its ≡ true
    → page.granularity ≡ g → its_page.granularity ≡ k → answer_in outcome ≡ Some (answer_by_verb verb format page) → answer_in its_outcome ≡ Some (answer_by_verb its other its_page)
    → IsRegularOutcome outcome → IsRegularOutcome its_outcome → outcome_output g outcome ≡ outcome_output k its_outcome → IsSeenAlike verb g format page its k other its_page
one_page g k verb its format other page its_page outcome its_outcome ok its_ok dated its_dated told its_told regular its_regular same =
    let a = document_told outcome (answer_by_verb verb format page) told in
    let b = document_told its_outcome (answer_by_verb its other its_page) its_told in
    let same_bytes : document a.document ≡ document b.document = bytes_same g k a.document b.document (ap (outcome_output g) (sym a.is) ∙ same ∙ ap (outcome_output k) b.is) in
    let seen = same_seen a.document b.document (subst IsRegularOutcome a.is regular) (subst IsRegularOutcome b.is its_regular) same_bytes in
    let answers : answer_seen a.document.base (answer_by_verb verb format page) ≡ answer_seen b.document.base (answer_by_verb its other its_page) =
    ap (answer_seen a.document.base) (sym a.told) ∙ ap (λ (s : SeenDocument). s.answer) seen ∙ ap (answer_seen b.document.base) b.told
    in
    subst (λ (x : Granularity). IsSeenAlike verb x format page its k other its_page) dated
    (subst (λ (x : Granularity). IsSeenAlike verb page.granularity format page its x other its_page) its_dated (alike verb its a.document.base b.document.base format other page its_page ok its_ok answers))

-- ---- page by page

-- whether a token is empty is seen
no_offer : SeenToken → Bool
no_offer no_token = true
no_offer (seen_token text expires size cursor) = false
no_offer (empty_token size cursor) = true

no_offer_is : (c : Continuation) → is_none (offer_in c) ≡ no_offer (token_seen c)
unfolding no_offer
no_offer_is whole = refl
no_offer_is (remains expires extent token) = refl
no_offer_is (completes extent) = refl

abbrev AreTold : ListVerb → Format → List Transition → List Page → Type 0
AreTold verb format exchanges pages = map (λ (exchange : Transition). answer_in exchange.outcome) exchanges ≡ map (λ (page : Page). Some (answer_by_verb verb format page)) pages

abbrev AreSeenAlike : ListVerb → Granularity → Format → List Page → ListVerb → Granularity → Format → List Page → Type 0
AreSeenAlike verb g format pages its k other its_pages =
    (map (seen_by verb g (Some format)) (joined pages) ≡ map (seen_by its k (Some other)) (joined its_pages)) × (are_complete pages ≡ are_complete its_pages)

all_pages : (config other : RepositoryConfig) (verb its : ListVerb) (format its_format : Format) (size before its_size its_before : ℕ) (exchanges its_exchanges : List Transition) (pages its_pages : List Page)
    → is_of_records verb ≡ true → is_of_records its ≡ true → AreTold verb format exchanges pages → AreTold its its_format its_exchanges its_pages
    → ArePagesAt config size before pages → ArePagesAt other its_size its_before its_pages → Throughout IsRegularExchange exchanges → Throughout IsRegularExchange its_exchanges
    → bytes_written config exchanges ≡ bytes_written other its_exchanges → AreSeenAlike verb config.granularity format pages its other.granularity its_format its_pages
all_pages config other verb its format its_format size before its_size its_before [] [] [] [] ok its_ok told its_told placed its_placed regular its_regular same = (refl, refl)
all_pages config other verb its format its_format size before its_size its_before [] [] [] (page ∷ pages) ok its_ok told its_told placed its_placed regular its_regular same = cc
all_pages config other verb its format its_format size before its_size its_before [] [] (page ∷ pages) its_pages ok its_ok told its_told placed its_placed regular its_regular same = cc
all_pages config other verb its format its_format size before its_size its_before [] (x ∷ xs) pages its_pages ok its_ok told its_told placed its_placed regular its_regular same = cc
all_pages config other verb its format its_format size before its_size its_before (e ∷ es) [] pages its_pages ok its_ok told its_told placed its_placed regular its_regular same = cc
all_pages config other verb its format its_format size before its_size its_before (e ∷ es) (x ∷ xs) [] its_pages ok its_ok told its_told placed its_placed regular its_regular same = cc
all_pages config other verb its format its_format size before its_size its_before (e ∷ es) (x ∷ xs) (page ∷ pages) [] ok its_ok told its_told placed its_placed regular its_regular same = cc
all_pages config other verb its format its_format size before its_size its_before (e ∷ es) (x ∷ xs) (page ∷ pages) (its_page ∷ its_pages) ok its_ok told its_told placed its_placed regular its_regular same =
    let first_told : answer_in e.outcome ≡ Some (answer_by_verb verb format page) = cc in
    let later_told : AreTold verb format es pages = cc in
    let its_first : answer_in x.outcome ≡ Some (answer_by_verb its its_format its_page) = cc in
    let its_later : AreTold its its_format xs its_pages = cc in
    let first_same : outcome_output config.granularity e.outcome ≡ outcome_output other.granularity x.outcome = cc in
    let later_same : bytes_written config es ≡ bytes_written other xs = cc in
    let first = one_page config.granularity other.granularity verb its format its_format page its_page e.outcome x.outcome ok its_ok placed.0.dated its_placed.0.dated first_told its_first regular.0 its_regular.0 first_same in
    let rest = all_pages config other verb its format its_format size (before + length page.items) its_size (its_before + length its_page.items) es xs pages its_pages ok its_ok later_told its_later placed.1 its_placed.1 regular.1 its_regular.1 later_same in
    let see : ItemState → SeenRecord = seen_by verb config.granularity (Some format) in
    let its_see : ItemState → SeenRecord = seen_by its other.granularity (Some its_format) in (
      map-append see page.items (joined pages)
          ∙ ap (λ rs. rs ++ map see (joined pages)) first.0
          ∙ ap (λ rs. map its_see its_page.items ++ rs) rest.0
          ∙ sym (map-append its_see its_page.items (joined its_pages)),
      ap (λ b. b || are_complete pages) (no_offer_is page.continuation ∙ ap no_offer first.1 ∙ sym (no_offer_is its_page.continuation))
          ∙ ap (λ b. is_none (offer_in its_page.continuation) || b) rest.1,
    )

-- ---- a list that is followed to its end

ended : (verb : ListVerb) (format : Format) (exchanges : List Transition) (pages : List Page) → is_of_records verb ≡ true → AreTold verb format exchanges pages
    → is_followed_to_its_end exchanges ≡ are_complete pages
ended verb format [] [] ok told = refl
ended verb format [] (page ∷ pages) ok told = cc
ended verb format (e ∷ es) [] ok told = cc
ended verb format (e ∷ es) (page ∷ pages) ok told =
    let first : answer_in e.outcome ≡ Some (answer_by_verb verb format page) = cc in
    let later' : AreTold verb format es pages = cc in
    ap (λ (p : Option Page). is_last_page p || is_followed_to_its_end es) (ap (option_and_then page_in) first ∙ told_page verb format page ok)
    ∙ ap (λ b. is_none (offer_in page.continuation) || b) (ended verb format es pages ok later')

pub lists_shown : (config other : RepositoryConfig) (list_request its : ListQuery) (first its_first : Transition) (others its_others : List Transition) → IsFollowedList config list_request first others → IsFollowedList other its its_first its_others
    → is_followed_to_its_end (first ∷ others) ≡ true → bytes_written config (first ∷ others) ≡ bytes_written other (its_first ∷ its_others)
    → selection_seen config list_request (selection_in first.found list_request) ≡ selection_seen other its (selection_in its_first.found its)
lists_shown config other list_request its first its_first others its_others is their ends same =
    let a = following config is.commands list_request first others is.rules is.chain in
    let b = following other their.commands its its_first its_others their.rules their.chain in
    let regular = regular_part config is.commands (empty_state config) (first ∷ others) is.formats (sound_empty config) is.chain.among in
    let its_regular = regular_part other their.commands (empty_state other) (its_first ∷ its_others) their.formats (sound_empty other) their.chain.among in
    let alike' = all_pages config other list_request.verb its.verb a.1.format b.1.format (length (selection_in first.found list_request)) 0 (length (selection_in its_first.found its)) 0 (first ∷ others) (its_first ∷ its_others) a.0 b.0
    is.chain.verb their.chain.verb a.1.told b.1.told a.1.placed b.1.placed regular its_regular same
    in
    let complete : are_complete a.0 ≡ true = sym (ended list_request.verb a.1.format (first ∷ others) a.0 is.chain.verb a.1.told) ∙ ends in
    let its_complete : are_complete b.0 ≡ true = sym alike'.1 ∙ complete in
    ap (λ (f : Option Format). map (seen_by list_request.verb config.granularity f) (selection_in first.found list_request)) a.1.known
    ∙ ap (map (seen_by list_request.verb config.granularity (Some a.1.format))) (sym (a.1.complete complete))
    ∙ alike'.0
    ∙ ap (map (seen_by its.verb other.granularity (Some b.1.format))) (b.1.complete its_complete)
    ∙ ap (λ (f : Option Format). map (seen_by its.verb other.granularity f) (selection_in its_first.found its)) (sym b.1.known)
