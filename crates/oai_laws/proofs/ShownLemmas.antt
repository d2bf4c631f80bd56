-- Each document that a repository answers is such that its bytes show what it answers.
use Rattle.std.proofs.Common.{◌≡◌, ◌∙◌, inl, inr, ℕ, ℤ, Bool, true, false, ◌&&◌, cond, List, [], ◌∷◌, length, take, drop, Option, None, Some, is_some, refl, sym, ap}
use Rattle.std.specs.Prelude.{find, nat_le}
use Rattle.std.specs.List.{list_all}
use Rattle.std.specs.Str.{bytes_eq}
use Rattle.std.proofs.lemmas.Bool.{and_parts, cond_both}
use Rattle.std.proofs.lemmas.List.{take-append-drop}
use Rattle.std.proofs.lemmas.List.Folds.{list_all-append}
use Rattle.std.proofs.lemmas.Slice.Eq.{bytes_eq-Decides}
use Rattle.oai_names.specs.declared.list_verbs.ListVerb.{ListVerb}
use Rattle.oai_names.specs.declared.list_verbs.ListVerb.TheVariants as list
use Rattle.oai_lists.specs.Tokens.{token_of}
use Rattle.oai_lists.specs.declared.tokens.Token.{Token}
use Rattle.oai_item.specs.Formats.{AreRepositoryFormats, dublin_core, format_named}
use Rattle.oai_item.specs.Item.{ItemState, Metadata, fields_in, fields_of, has_record, record_named}
use Rattle.oai_item.specs.Items.{item_named}
use Rattle.oai_item.specs.Known.{are_fields_of, has_format, has_known_fields}
use Rattle.oai_item.specs.Rules.{is_allowed}
use Rattle.oai_item.specs.Selection.{selected}
use Rattle.oai_item.specs.declared.formats.Format.{Format}
use Rattle.oai_names.proofs.Lists.{all-weaker}
use Rattle.oai_args.specs.Asks.{AskOrError, asks, bad_argument, bad_verb}
use Rattle.oai_args.specs.declared.requests.Ask.TheVariants as ask
use Rattle.oai_answers.specs.Answers.{Attributes, Page}
use Rattle.oai_answers.specs.Seen.{IsGoodFormat, IsRegular, has_own_fields}
use Rattle.oai_repo.specs.Answers.{arguments_of_request, disseminated, filter_of, formats_answer, item_formats_answer, record_answer, sets_answer}
use Rattle.oai_settings.specs.Config.{RepositoryConfig}
use Rattle.oai_xml.specs.Documents.{is_canonical}
use Rattle.oai_names.proofs.Lists.{all-filter_same}
use Rattle.oai_repo.proofs.DescriptionLemmas.{all_elements}
use Rattle.oai_laws.specs.Effects.{IsSound, is_formed, has_known_records}
use Rattle.oai_repo.specs.Listing.{Response, request_response, opens_list, continued_response, has_no_sets, is_continued, list_response, new_list, part_from, part_answer, prolonged, with_answer, answer_by_verb, format_response, selection_response, complete_answer, token_response, wait_at, retry_after, where_continued, complete_page, is_of_number}
use Rattle.oai_repo.specs.Machine.{Command, act, act_on_change, requesting, changing, outcome_of, rejecting}
use Rattle.oai_holdings.specs.Changes.{refusal_of, stamp_at}
use Rattle.oai_laws.specs.Shown.{IsRegularOutcome}
use Rattle.oai_holdings.specs.Holdings.{NamedSet}
use Rattle.oai_repo.specs.State.{FrozenList, OpenLists, RepoState}
use Rattle.oai_deposit.specs.declared.changes.Change.{Change}
use Rattle.oai_item.specs.declared.refusals.ChangeRefusal.{ChangeRefusal}
use Rattle.oai_laws.proofs.EffectLemmas.{named, kept_formed, selected_formed}
use Rattle.oai_laws.proofs.FollowLemmas.{part_items}
use Rattle.oai_laws.proofs.StandLemmas.{of_found}
use Rattle.oai_item.proofs.Named.{of_found as of_named}
use Rattle.oai_holdings.specs.Kept.{is_well_kept}

-- ---- formats and fields

-- a format of a repository is oai_dc or keeps the rules of a declared one
found_good : (prefix : List ℕ) (formats : List Format) (format : Format) → AreRepositoryFormats formats → format_named prefix formats ≡ Some format → IsGoodFormat format
unfolding format_named
found_good prefix [] format rules h = cc
found_good prefix (x ∷ formats) format rules h =
    let first : Some x ≡ Some dublin_core = rules.first in
    let is : x ≡ dublin_core = cc in
    by_test (bytes_eq x.prefix prefix) is rules.declared h
  where
    by_test : (b : Bool) → x ≡ dublin_core → list_all is_allowed formats ≡ true → cond b (Some x) (find (λ (f : Format). bytes_eq f.prefix prefix) formats) ≡ Some format → IsGoodFormat format
    by_test true is declared found = let same : x ≡ format = cc in inl (sym same ∙ is)
    by_test false is declared found = inr (of_found (λ (f : Format). bytes_eq f.prefix prefix) is_allowed formats format found declared)

-- the fields of a record in a format are its
known_fields : (formats : List Format) (prefix : List ℕ) (format : Format) (records : List Metadata) → format_named prefix formats ≡ Some format → list_all (has_known_fields formats) records ≡ true
    → are_fields_of (Some format) (fields_of (record_named prefix records)) ≡ true
unfolding record_named
known_fields formats prefix format [] named all = refl
known_fields formats prefix format (r ∷ records) named all =
    let parts = and_parts (has_known_fields formats r) (list_all (has_known_fields formats) records) all in
    by_test (bytes_eq r.0 prefix) ((bytes_eq-Decides r.0 prefix).0) parts.0 (known_fields formats prefix format records named parts.1)
  where
    by_test : (b : Bool) → (b ≡ true → r.0 ≡ prefix) → has_known_fields formats r ≡ true
        → are_fields_of (Some format) (fields_of (find (λ (m : Metadata). bytes_eq m.0 prefix) records)) ≡ true
        → are_fields_of (Some format) (fields_of (cond b (Some r) (find (λ (m : Metadata). bytes_eq m.0 prefix) records))) ≡ true
    by_test true same here later = ap (λ (o : Option Format). are_fields_of o r.1) (sym named ∙ ap (λ (p : List ℕ). format_named p formats) (sym (same refl))) ∙ here
    by_test false same here later = later

own_fields : (config : RepositoryConfig) (prefix : List ℕ) (format : Format) (item : ItemState) → format_named prefix config.formats ≡ Some format → has_known_records config item ≡ true → has_own_fields format item ≡ true
own_fields config prefix format item found formed =
    let parts = and_parts (list_all (has_format config.formats) item.formats) (list_all (has_known_fields config.formats) item.formats) formed in
    ap (λ (p : List ℕ). are_fields_of (Some format) (fields_in p item.formats)) (named prefix config.formats format found) ∙ known_fields config.formats prefix format item.formats found parts.1

all_own : (config : RepositoryConfig) (prefix : List ℕ) (format : Format) (items : List ItemState) → format_named prefix config.formats ≡ Some format → list_all (has_known_records config) items ≡ true
    → list_all (has_own_fields format) items ≡ true
all_own config prefix format items found formed = all-weaker (has_known_records config) (has_own_fields format) (λ item h. own_fields config prefix format item found h) items formed

-- ---- what is said to a request

abbrev IsRegularSaid : Response → Type 0
IsRegularSaid (with_answer answer) = IsRegular answer
IsRegularSaid (retry_after seconds) = Unit {0}

abbrev IsRegularDone : Response × OpenLists → Type 0
IsRegularDone done = IsRegularSaid done.0

regular_told : (verb : ListVerb) (format : Format) (page : Page) → IsGoodFormat format → list_all (has_own_fields format) page.items ≡ true → IsRegular (answer_by_verb verb format page)
regular_told list.Identifiers format page good own = tt
regular_told list.Records format page good own = (good, own)
regular_told list.Sets format page good own = tt

regular_whole : (config : RepositoryConfig) (verb : ListVerb) (format : Format) (items : List ItemState) → IsGoodFormat format → list_all (has_own_fields format) items ≡ true
    → IsRegular (complete_answer config verb format items)
regular_whole config verb format [] good own = tt
regular_whole config verb format (item ∷ items) good own = regular_told verb format (complete_page config (item ∷ items)) good own

-- a part of items of which something is true of all
part_all : (p : ItemState → Bool) (n k : ℕ) (items : List ItemState) → list_all p items ≡ true → list_all p (take n (drop k items)) ≡ true
part_all p n k items all =
    let behind = (and_parts (list_all p (take k items)) (list_all p (drop k items)) (sym (list_all-append p (take k items) (drop k items)) ∙ ap (list_all p) (take-append-drop k items) ∙ all)).1 in
    (and_parts (list_all p (take n (drop k items))) (list_all p (drop n (drop k items)))
    (sym (list_all-append p (take n (drop k items)) (drop n (drop k items))) ∙ ap (list_all p) (take-append-drop n (drop k items)) ∙ behind)).0

regular_part : (config : RepositoryConfig) (verb : ListVerb) (format : Format) (list : FrozenList) (cursor : ℕ) → IsGoodFormat format → list_all (has_own_fields format) list.items ≡ true
    → IsRegular (answer_by_verb verb format (part_from config list cursor))
regular_part config verb format list cursor good own =
    regular_told verb format (part_from config list cursor) good
    (ap (list_all (has_own_fields format)) (part_items config list cursor) ∙ part_all (has_own_fields format) config.chunk cursor list.items own)

regular_begun : (config : RepositoryConfig) (open_lists : OpenLists) (format : Format) (list : FrozenList) (wait : Option ℤ) → IsGoodFormat format → list_all (has_own_fields format) list.items ≡ true
    → IsRegularDone (opens_list config open_lists format list wait)
regular_begun config open_lists format list (Some seconds) good own = tt
regular_begun config open_lists format list None good own = regular_part config list.verb format list 0 good own

regular_items : (config : RepositoryConfig) (clock : ℤ) (open_lists : OpenLists) (verb : ListVerb) (format : Format) (items : List ItemState) → IsGoodFormat format → list_all (has_own_fields format) items ≡ true
    → IsRegularDone (selection_response config clock open_lists verb format items)
unfolding selection_response
regular_items config clock open_lists verb format items good own =
    cond_both (nat_le (length items) config.chunk) _ _ IsRegularDone
    (λ _. regular_whole config verb format items good own)
    (λ _. regular_begun config open_lists format (new_list config clock open_lists verb format.prefix items) (wait_at config clock open_lists) good own)

regular_in : (config : RepositoryConfig) (clock : ℤ) (open_lists : OpenLists) (verb : ListVerb) (prefix : List ℕ) (format : Option Format) (items : List ItemState) → AreRepositoryFormats config.formats
    → format_named prefix config.formats ≡ format → list_all (has_known_records config) items ≡ true → IsRegularDone (format_response config clock open_lists verb format items)
regular_in config clock open_lists verb prefix None items rules found formed = tt
regular_in config clock open_lists verb prefix (Some format) items rules found formed =
    regular_items config clock open_lists verb format items (found_good prefix config.formats format rules found) (all_own config prefix format items found formed)

regular_list : (config : RepositoryConfig) (clock : ℤ) (open_lists : OpenLists) (sets : List NamedSet) (verb : ListVerb) (prefix : List ℕ) (set : Option (List ℕ)) (items : List ItemState)
    → AreRepositoryFormats config.formats → list_all (has_known_records config) items ≡ true → IsRegularDone (list_response config clock open_lists sets verb prefix set items)
regular_list config clock open_lists sets verb prefix set items rules formed =
    cond_both (is_some set && has_no_sets sets) _ _ IsRegularDone (λ _. tt) (λ _. regular_in config clock open_lists verb prefix (format_named prefix config.formats) items rules refl formed)

-- ---- tokens

regular_part_told : (config : RepositoryConfig) (verb : ListVerb) (list : FrozenList) (format : Option Format) (cursor : ℕ) → AreRepositoryFormats config.formats
    → format_named list.prefix config.formats ≡ format → is_formed config list ≡ true → IsRegular (part_answer verb format (part_from config list cursor))
regular_part_told config verb list None cursor rules found formed = tt
regular_part_told config verb list (Some format) cursor rules found formed =
    regular_part config verb format list cursor (found_good list.prefix config.formats format rules found) (all_own config list.prefix format list.items found formed)

regular_continued : (config : RepositoryConfig) (clock : ℤ) (open_lists : OpenLists) (verb : ListVerb) (token : Token) (found : Option FrozenList) → AreRepositoryFormats config.formats
    → ((list : FrozenList) → found ≡ Some list → is_formed config list ≡ true) → IsRegularDone (continued_response config clock open_lists verb token.cursor (where_continued config verb token found))
regular_continued config clock open_lists verb token None rules formed = tt
regular_continued config clock open_lists verb token (Some list) rules formed =
    cond_both (is_continued config.chunk verb token list.verb (length list.items) list.given) (Some list) None (λ (o : Option FrozenList). IsRegularDone (continued_response config clock open_lists verb token.cursor o))
    (λ _. regular_part_told config verb (prolonged config clock list) (format_named list.prefix config.formats) token.cursor rules refl (formed list refl))
    (λ _. tt)

regular_token : (config : RepositoryConfig) (state : RepoState) (verb : ListVerb) (token : Option Token) → AreRepositoryFormats config.formats → IsSound config state
    → IsRegularDone (token_response config state.clock state.open_lists verb token)
regular_token config state verb None rules sound = tt
regular_token config state verb (Some token) rules sound =
    regular_continued config state.clock state.open_lists verb token (find (is_of_number token.list) state.open_lists.lists) rules
    (λ list found. of_found (is_of_number token.list) (is_formed config) state.open_lists.lists list found sound.formed)

-- ---- GetRecord

regular_disseminated : (config : RepositoryConfig) (item : ItemState) (prefix : List ℕ) (format : Option Format) → AreRepositoryFormats config.formats → format_named prefix config.formats ≡ format
    → has_known_records config item ≡ true → IsRegular (disseminated config item format)
regular_disseminated config item prefix None rules found formed = tt
regular_disseminated config item prefix (Some format) rules found formed =
    cond_both (has_record format.prefix item.formats) _ _ IsRegular
    (λ _. (found_good prefix config.formats format rules found, own_fields config prefix format item found formed)) (λ _. tt)

regular_record : (config : RepositoryConfig) (state : RepoState) (identifier prefix : List ℕ) (found : Option ItemState) → item_named identifier state.holdings.items ≡ found → AreRepositoryFormats config.formats
    → IsSound config state → IsRegular (record_answer config found prefix)
regular_record config state identifier prefix None is rules sound = tt
regular_record config state identifier prefix (Some item) is rules sound =
    regular_disseminated config item prefix (format_named prefix config.formats) rules refl
    (kept_formed config state.holdings.sets item (of_named (is_well_kept config state.holdings.sets) identifier state.holdings.items item is sound.kept.well))

-- ---- the other verbs

regular_item_formats : (config : RepositoryConfig) (found : Option ItemState) → IsRegular (item_formats_answer config found)
regular_item_formats config None = tt
regular_item_formats config (Some item) = cond_both item.live _ _ IsRegular (λ _. tt) (λ _. tt)

regular_formats : (config : RepositoryConfig) (items : List ItemState) (identifier : Option (List ℕ)) → IsRegular (formats_answer config items identifier)
regular_formats config items None = tt
regular_formats config items (Some identifier) = regular_item_formats config (item_named identifier items)

regular_sets : (config : RepositoryConfig) (sets : List NamedSet) → IsRegular (sets_answer config sets)
regular_sets config [] = tt
regular_sets config (set ∷ sets) = all_elements config.set_descriptions (set ∷ sets)

regular_done : (config : RepositoryConfig) (state : RepoState) (request : AskOrError) → AreRepositoryFormats config.formats → IsSound config state → IsRegularDone (request_response config state request)
regular_done config state bad_verb rules sound = tt
regular_done config state bad_argument rules sound = tt
regular_done config state (asks ask.Identify) rules sound = all-filter_same is_canonical config.descriptions
regular_done config state (asks (ask.Formats identifier)) rules sound = regular_formats config state.holdings.items identifier
regular_done config state (asks ask.Sets) rules sound = regular_sets config state.holdings.sets
regular_done config state (asks (ask.Get identifier prefix)) rules sound = regular_record config state identifier prefix (item_named identifier state.holdings.items) refl rules sound
regular_done config state (asks (ask.List verb prefix from until set)) rules sound =
    regular_list config state.clock state.open_lists state.holdings.sets verb prefix set (selected (filter_of prefix from until set) state.holdings.items) rules
    (selected_formed config state.holdings (filter_of prefix from until set) sound.kept)
regular_done config state (asks (ask.Resume verb token)) rules sound = regular_token config state verb (token_of token) rules sound

-- ---- a command

regular_outcome : (config : RepositoryConfig) (clock : ℤ) (asked : Attributes) (said : Response) → IsRegularSaid said → IsRegularOutcome (outcome_of config clock asked said)
regular_outcome config clock asked (with_answer answer) h = h
regular_outcome config clock asked (retry_after seconds) h = tt

regular_change : (config : RepositoryConfig) (state : RepoState) (stamp : ℤ) (change : Change) (refusal : Option ChangeRefusal) → IsRegularOutcome (act_on_change config state stamp change refusal).0
regular_change config state stamp change (Some cause) = tt
regular_change config state stamp change None = tt

pub regular_act : (config : RepositoryConfig) (state : RepoState) (command : Command) → AreRepositoryFormats config.formats → IsSound config state → IsRegularOutcome (act config state command).0
unfolding act
regular_act config state (requesting request) rules sound = regular_outcome config state.clock (arguments_of_request request) (request_response config state request).0 (regular_done config state request rules sound)
regular_act config state (changing change) rules sound =
    regular_change config state (stamp_at config state.clock) change (refusal_of config (stamp_at config state.clock) state.holdings change)
regular_act config state (rejecting cause) rules sound = tt
