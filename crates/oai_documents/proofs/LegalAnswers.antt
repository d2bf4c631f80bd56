-- Where the texts of the configuration and of all commands are legal, so are those of what a repository holds and answers.
use Rattle.std.proofs.Common.{◌≡◌, ◌∙◌, ◌+◌, inl, inr, ℕ, ℤ, Bool, true, false, cond, ◌&&◌, not, List, [], ◌∷◌, length, map, take, drop, Option, None, Some, is_some, refl, sym, ap, subst}
use Rattle.std.specs.Prelude.{find, nat_le, nat_lt}
use Rattle.std.specs.List.{list_all}
use Rattle.std.specs.Str.{bytes_eq}
use Rattle.std.proofs.lemmas.Bool.{and_parts, cond_both}
use Rattle.std.proofs.lemmas.List.Folds.{list_all-append}
use Rattle.std.proofs.lemmas.List.{take-append-drop}
use Rattle.oai_names.specs.declared.list_verbs.ListVerb.{ListVerb}
use Rattle.oai_names.specs.declared.list_verbs.ListVerb.TheVariants as list
use Rattle.oai_names.proofs.Lists.{all-filter}
use Rattle.oai_lists.specs.Tokens.{token_of, token_text}
use Rattle.oai_lists.specs.declared.tokens.Token.{Token}
use Rattle.oai_item.specs.Formats.{format_named}
use Rattle.oai_item.specs.Givens.{GivenRecord, kept as as_kept}
use Rattle.oai_item.specs.Item.{ItemState, Metadata, emptied, has_record, live_item, tombstone_of}
use Rattle.oai_item.specs.Items.{item_named, without}
use Rattle.oai_item.specs.Membership.{distinct, reduced}
use Rattle.oai_item.specs.Selection.{Filter, passes, selected}
use Rattle.oai_deposit.specs.declared.changes.Change.{Change}
use Rattle.oai_deposit.specs.declared.changes.Change.TheVariants as change
use Rattle.oai_item.specs.declared.deleted_record.DeletedRecord.{DeletedRecord}
use Rattle.oai_item.specs.declared.deleted_record.DeletedRecord.TheVariants.{No, Transient, Persistent}
use Rattle.oai_item.specs.declared.formats.Format.{Format}
use Rattle.oai_item.specs.declared.refusals.ChangeRefusal.{ChangeRefusal}
use Rattle.oai_item.proofs.Named.{of_found as of_named}
use Rattle.oai_item.proofs.OrderLemmas.{all-placed}
use Rattle.oai_args.specs.Asks.{AskOrError, asks, bad_argument, bad_verb}
use Rattle.oai_args.specs.declared.requests.Ask.TheVariants as ask
use Rattle.oai_answers.specs.Answers.{Attributes, Document, Page, completes, described_sets, is_offered, offered, remains}
use Rattle.oai_answers.specs.Documents.{document}
use Rattle.oai_xml.specs.Named.{NamedList}
use Rattle.oai_xml.specs.LegalTexts.{is_legal_text}
use Rattle.oai_xml.specs.Documents.{is_canonical, tree_in}
use Rattle.oai_settings.specs.Config.{IsConfig, RepositoryConfig}
use Rattle.oai_repo.proofs.DescriptionLemmas.{found_alone}
use Rattle.oai_repo.specs.Answers.{arguments_of_request, disseminated, elements_alone, filter_of, formats_answer, item_formats_answer, record_answer, sets_answer}
use Rattle.oai_holdings.specs.Changes.{after_deletion, after_purge, changed, is_held_so, is_past, limit_of, purged, refusal_of, stamp_at, with_new, with_put, with_tombstone}
use Rattle.oai_repo.specs.Listing.{Response, answer_by_verb, carried_on_at, complete_answer, complete_page, continued_response, extent_at, format_response, has_no_sets, is_continued, is_of_number, items_from, list_response, new_list, next_cursor, opens_list, part_answer, part_from, prolonged, request_response, retry_after, selection_response, token_response, wait_at, where_continued, with_answer}
use Rattle.oai_repo.specs.Machine.{Command, Outcome, accepted, act, act_on_change, changing, documented, later, outcome_of, refused_with, rejecting, requesting}
use Rattle.oai_holdings.specs.Holdings.{NamedSet}
use Rattle.oai_repo.specs.State.{FrozenList, OpenLists, RepoState, empty_state, is_open_at, moved}
use Rattle.oai_holdings.proofs.KeptLemmas.{well-without}
use Rattle.oai_laws.specs.Eras.{left_behind}
use Rattle.oai_laws.specs.Runs.{IsPart, Throughout, Timed, Transition, performed, run}
use Rattle.oai_laws.specs.Shown.{IsSomeAnswer}
use Rattle.oai_laws.proofs.FollowLemmas.{part_items}
use Rattle.oai_laws.proofs.StandLemmas.{of_found}
use Rattle.oai_documents.specs.Answering.{have_namespaces}
use Rattle.oai_documents.specs.DocumentTrees.{document_tree}
use Rattle.oai_documents.specs.Texts.{are_legal_commands, have_legal_arguments, is_legal_change, is_legal_command, is_legal_config, is_legal_format, is_legal_item, is_legal_record, is_legal_set}
use Rattle.oai_documents.specs.WellFormed.{HasFittingElements, may_be_default}
use Rattle.oai_documents.proofs.Answered.{IsGivenDocument, given_whole, some_answer}
use Rattle.oai_documents.proofs.LegalTrees.{is_legal_described, IsLegalAnswer, document_legal, is_legal_token, token_legal}
use Rattle.oai_documents.proofs.ReadBack.{file_tested, tree_read}
use Rattle.oai_documents.proofs.Records.{document_written}
use Rattle.oai_documents.proofs.Tags.{both}

-- ---- what a repository holds

abbrev is_legal_list : FrozenList → Bool
is_legal_list list = list_all is_legal_item list.items

-- the texts in a state
pub record AreLegal (state : RepoState) : Type 0 where
  pub items : list_all is_legal_item state.holdings.items ≡ true
  pub sets : list_all is_legal_set state.holdings.sets ≡ true
  pub lists : list_all is_legal_list state.open_lists.lists ≡ true

pub legal_empty : (config : RepositoryConfig) → AreLegal (empty_state config)
legal_empty config = record { items = refl; sets = refl; lists = refl }

pub legal_moved : (moment : ℤ) (state : RepoState) → AreLegal state → AreLegal (moved moment state)
legal_moved moment state so = record {
  items = so.items;
  sets = so.sets;
  lists = all-filter is_legal_list (is_open_at (moved moment state).clock) state.open_lists.lists so.lists;
}

-- those of a configuration
record Texts (config : RepositoryConfig) : Type 0 where
  pub base : is_legal_text config.base ≡ true
  pub name : is_legal_text config.repository_name ≡ true
  pub addresses : list_all is_legal_text config.addresses ≡ true
  pub formats : list_all is_legal_format config.formats ≡ true
  pub descriptions : list_all is_legal_text config.descriptions ≡ true
  pub set_descriptions : list_all (λ (list : NamedList). list_all is_legal_text list.1) config.set_descriptions ≡ true

texts : (config : RepositoryConfig) → is_legal_config config ≡ true → Texts config
texts config is =
    let six = and_parts (is_legal_text config.base && is_legal_text config.repository_name && list_all is_legal_text config.addresses && list_all is_legal_format config.formats
    && list_all is_legal_text config.descriptions) (list_all (λ (list : NamedList). list_all is_legal_text list.1) config.set_descriptions) is in
    let five = and_parts (is_legal_text config.base && is_legal_text config.repository_name && list_all is_legal_text config.addresses && list_all is_legal_format config.formats)
    (list_all is_legal_text config.descriptions) six.0 in
    let four = and_parts (is_legal_text config.base && is_legal_text config.repository_name && list_all is_legal_text config.addresses) (list_all is_legal_format config.formats) five.0 in
    let three = and_parts (is_legal_text config.base && is_legal_text config.repository_name) (list_all is_legal_text config.addresses) four.0 in
    let two = and_parts (is_legal_text config.base) (is_legal_text config.repository_name) three.0 in
    record { base = two.0; name = two.1; addresses = three.1; formats = four.1; descriptions = five.1; set_descriptions = six.1 }

format_legal : (config : RepositoryConfig) (prefix : List ℕ) (format : Format) → Texts config → format_named prefix config.formats ≡ Some format → is_legal_format format ≡ true
unfolding format_named
format_legal config prefix format so found = of_found (λ (f : Format). bytes_eq f.prefix prefix) is_legal_format config.formats format found so.formats

-- ---- changes

distinct_legal : (sets : List (List ℕ)) → list_all is_legal_text sets ≡ true → list_all is_legal_text (distinct sets) ≡ true
unfolding distinct
distinct_legal [] all = refl
distinct_legal (s ∷ sets) all =
    let parts = and_parts (is_legal_text s) (list_all is_legal_text sets) all in
    both parts.0 (all-filter is_legal_text (λ t. not (bytes_eq s t)) (distinct sets) (distinct_legal sets parts.1))

reduced_legal : (sets : List (List ℕ)) → list_all is_legal_text sets ≡ true → list_all is_legal_text (reduced sets) ≡ true
unfolding reduced
reduced_legal sets all = all-filter is_legal_text _ (distinct sets) (distinct_legal sets all)

deposited_legal : (identifier : List ℕ) (stamp : ℤ) (sets : List (List ℕ)) (records : List GivenRecord) → is_legal_change (change.Deposit identifier sets records) ≡ true
    → is_legal_item (live_item identifier stamp (reduced sets) (map as_kept records)) ≡ true
deposited_legal identifier stamp sets records is =
    let three = and_parts (is_legal_text identifier && list_all is_legal_text sets) (list_all is_legal_record (map as_kept records)) is in
    let two = and_parts (is_legal_text identifier) (list_all is_legal_text sets) three.0 in
    both (both two.0 (reduced_legal sets two.1)) three.1

emptied_legal : (formats : List Metadata) → list_all is_legal_record (map emptied formats) ≡ true
emptied_legal [] = refl
emptied_legal (format ∷ formats) = emptied_legal formats

tombstone_legal : (stamp : ℤ) (item : ItemState) → is_legal_item item ≡ true → is_legal_item (tombstone_of stamp item) ≡ true
tombstone_legal stamp item is =
    both (and_parts (is_legal_text item.identifier && list_all is_legal_text item.sets) (list_all is_legal_record item.formats) is).0 (emptied_legal item.formats)

new_legal : (item : ItemState) (items : List ItemState) → is_legal_item item ≡ true → list_all is_legal_item items ≡ true → list_all is_legal_item (with_new item items) ≡ true
new_legal item items is all = all-placed is_legal_item item (without item.identifier items) is (well-without is_legal_item item.identifier items all)

put_legal : (item : ItemState) (items : List ItemState) → is_legal_item item ≡ true → list_all is_legal_item items ≡ true → list_all is_legal_item (with_put item items) ≡ true
put_legal item items is all = by_test (is_held_so item (item_named item.identifier items))
  where
    by_test : (b : Bool) → list_all is_legal_item (cond b items (with_new item items)) ≡ true
    by_test true = all
    by_test false = new_legal item items is all

buried_legal : (stamp : ℤ) (identifier : List ℕ) (found : Option ItemState) (items : List ItemState) → item_named identifier items ≡ found → list_all is_legal_item items ≡ true
    → list_all is_legal_item (with_tombstone stamp found items) ≡ true
buried_legal stamp identifier None items is all = all
buried_legal stamp identifier (Some item) items is all =
    new_legal (tombstone_of stamp item) items (tombstone_legal stamp item (of_named is_legal_item identifier items item is all)) all

deleted_legal : (policy : DeletedRecord) (stamp : ℤ) (identifier : List ℕ) (items : List ItemState) → list_all is_legal_item items ≡ true
    → list_all is_legal_item (after_deletion policy stamp identifier items) ≡ true
deleted_legal No stamp identifier items all = well-without is_legal_item identifier items all
deleted_legal Transient stamp identifier items all = buried_legal stamp identifier (item_named identifier items) items refl all
deleted_legal Persistent stamp identifier items all = buried_legal stamp identifier (item_named identifier items) items refl all

purged_legal : (limit : Option ℤ) (items : List ItemState) → list_all is_legal_item items ≡ true → list_all is_legal_item (after_purge limit items) ≡ true
unfolding purged
purged_legal None items all = all
purged_legal (Some limit) items all = all-filter is_legal_item (λ item. not (is_past limit item)) items all

changed_legal : (config : RepositoryConfig) (stamp : ℤ) (state : RepoState) (asked : Change) → is_legal_change asked ≡ true → AreLegal state
    → AreLegal (record state { holdings = changed config stamp state.holdings asked })
unfolding changed
changed_legal config stamp state (change.Deposit identifier sets records) is so = record {
  items = new_legal (live_item identifier stamp (reduced sets) (map as_kept records)) state.holdings.items (deposited_legal identifier stamp sets records is) so.items;
  sets = so.sets;
  lists = so.lists;
}
changed_legal config stamp state (change.Put identifier sets records) is so = record {
  items = put_legal (live_item identifier stamp (reduced sets) (map as_kept records)) state.holdings.items (deposited_legal identifier stamp sets records is) so.items;
  sets = so.sets;
  lists = so.lists;
}
changed_legal config stamp state (change.Delete identifier) is so =
    record { items = deleted_legal config.deleted stamp identifier state.holdings.items so.items; sets = so.sets; lists = so.lists }
changed_legal config stamp state (change.Purge before) is so =
    record { items = purged_legal (limit_of config.granularity before) state.holdings.items so.items; sets = so.sets; lists = so.lists }
changed_legal config stamp state (change.AddSet spec name) is so = record {
  items = so.items;
  sets = list_all-append is_legal_set state.holdings.sets ((spec, name) ∷ []) ∙ both so.sets (both is refl);
  lists = so.lists;
}

acted_legal : (config : RepositoryConfig) (stamp : ℤ) (state : RepoState) (asked : Change) (refusal : Option ChangeRefusal) → is_legal_change asked ≡ true → AreLegal state
    → AreLegal (act_on_change config state stamp asked refusal).1
acted_legal config stamp state asked (Some cause) is so = so
acted_legal config stamp state asked None is so = changed_legal config stamp state asked is so

-- ---- lists: what is said, and the lists that are open then

abbrev IsSaid : Response → Type 0
IsSaid (with_answer answer) = IsLegalAnswer answer
IsSaid (retry_after seconds) = Unit {0}

abbrev IsDone : Response × OpenLists → Type 0
IsDone done = IsSaid done.0 × (list_all is_legal_list done.1.lists ≡ true)

told : (verb : ListVerb) (format : Format) (page : Page) → is_legal_format format ≡ true → list_all is_legal_item page.items ≡ true → is_legal_token page.continuation ≡ true
    → IsLegalAnswer (answer_by_verb verb format page)
told list.Identifiers format page own all token = (all, token)
told list.Records format page own all token = (own, all, token)
told list.Sets format page own all token = tt

complete : (config : RepositoryConfig) (verb : ListVerb) (format : Format) (items : List ItemState) → is_legal_format format ≡ true → list_all is_legal_item items ≡ true
    → IsLegalAnswer (complete_answer config verb format items)
complete config verb format [] own all = tt
complete config verb format (item ∷ items) own all = told verb format (complete_page config (item ∷ items)) own all refl

-- a part of a list
some_legal : (n k : ℕ) (items : List ItemState) → list_all is_legal_item items ≡ true → list_all is_legal_item (take n (drop k items)) ≡ true
some_legal n k items all =
    let behind = (and_parts (list_all is_legal_item (take k items)) (list_all is_legal_item (drop k items)) (sym (list_all-append is_legal_item (take k items) (drop k items)) ∙ ap (list_all is_legal_item) (take-append-drop k items) ∙ all)).1 in
    (and_parts (list_all is_legal_item (take n (drop k items))) (list_all is_legal_item (drop n (drop k items)))
    (sym (list_all-append is_legal_item (take n (drop k items)) (drop n (drop k items))) ∙ ap (list_all is_legal_item) (take-append-drop n (drop k items)) ∙ behind)).0

token_after : (config : RepositoryConfig) (list : FrozenList) (cursor : ℕ) → is_legal_token (part_from config list cursor).continuation ≡ true
unfolding part_from
token_after config list cursor = by_test (nat_lt (cursor + length (items_from config list cursor)) (extent_at list cursor).size)
  where
    next : Token
    next = record { list = list.number; cursor = cursor + length (items_from config list cursor) }

    by_test : (b : Bool) → is_legal_token (cond b (remains list.end (extent_at list cursor) (token_text next)) (completes (extent_at list cursor))) ≡ true
    by_test true = token_legal next
    by_test false = refl

part_told : (config : RepositoryConfig) (verb : ListVerb) (format : Format) (list : FrozenList) (cursor : ℕ) → is_legal_format format ≡ true → is_legal_list list ≡ true
    → IsLegalAnswer (answer_by_verb verb format (part_from config list cursor))
part_told config verb format list cursor own all =
    told verb format (part_from config list cursor) own (ap (list_all is_legal_item) (part_items config list cursor) ∙ some_legal config.chunk cursor list.items all) (token_after config list cursor)

begun : (config : RepositoryConfig) (open_lists : OpenLists) (format : Format) (list : FrozenList) (wait : Option ℤ) → is_legal_format format ≡ true → is_legal_list list ≡ true
    → list_all is_legal_list open_lists.lists ≡ true → IsDone (opens_list config open_lists format list wait)
begun config open_lists format list (Some seconds) own all lists = (tt, lists)
begun config open_lists format list None own all lists =
    (part_told config list.verb format list 0 own all, list_all-append is_legal_list open_lists.lists (list ∷ []) ∙ both lists (both all refl))

of_selection : (config : RepositoryConfig) (clock : ℤ) (open_lists : OpenLists) (verb : ListVerb) (format : Format) (items : List ItemState) → is_legal_format format ≡ true → list_all is_legal_item items ≡ true
    → list_all is_legal_list open_lists.lists ≡ true → IsDone (selection_response config clock open_lists verb format items)
unfolding selection_response
of_selection config clock open_lists verb format items own all lists =
    cond_both (nat_le (length items) config.chunk) _ _ IsDone
    (λ _. (complete config verb format items own all, lists))
    (λ _. begun config open_lists format (new_list config clock open_lists verb format.prefix items) (wait_at config clock open_lists) own all lists)

in_format : (config : RepositoryConfig) (clock : ℤ) (open_lists : OpenLists) (verb : ListVerb) (prefix : List ℕ) (format : Option Format) (items : List ItemState) → Texts config → format_named prefix config.formats ≡ format
    → list_all is_legal_item items ≡ true → list_all is_legal_list open_lists.lists ≡ true → IsDone (format_response config clock open_lists verb format items)
in_format config clock open_lists verb prefix None items so found all lists = (tt, lists)
in_format config clock open_lists verb prefix (Some format) items so found all lists = of_selection config clock open_lists verb format items (format_legal config prefix format so found) all lists

of_list : (config : RepositoryConfig) (clock : ℤ) (open_lists : OpenLists) (sets : List NamedSet) (verb : ListVerb) (prefix : List ℕ) (set : Option (List ℕ)) (items : List ItemState) → Texts config
    → list_all is_legal_item items ≡ true → list_all is_legal_list open_lists.lists ≡ true → IsDone (list_response config clock open_lists sets verb prefix set items)
of_list config clock open_lists sets verb prefix set items so all lists =
    cond_both (is_some set && has_no_sets sets) _ _ IsDone (λ _. (tt, lists)) (λ _. in_format config clock open_lists verb prefix (format_named prefix config.formats) items so refl all lists)

-- ---- tokens

carried : (config : RepositoryConfig) (clock : ℤ) (number : ℕ) (next : Option ℕ) (list : FrozenList) → is_legal_list list ≡ true → is_legal_list (carried_on_at config clock number next list) ≡ true
carried config clock number next list is = cond_both (is_of_number number list) _ _ (λ (l : FrozenList). is_legal_list l ≡ true) (λ _. is) (λ _. is)

all_carried : (config : RepositoryConfig) (clock : ℤ) (number : ℕ) (next : Option ℕ) (lists : List FrozenList) → list_all is_legal_list lists ≡ true
    → list_all is_legal_list (map (carried_on_at config clock number next) lists) ≡ true
all_carried config clock number next [] all = refl
all_carried config clock number next (list ∷ lists) all =
    let parts = and_parts (is_legal_list list) (list_all is_legal_list lists) all in both (carried config clock number next list parts.0) (all_carried config clock number next lists parts.1)

part_answered : (config : RepositoryConfig) (verb : ListVerb) (list : FrozenList) (prefix : List ℕ) (format : Option Format) (cursor : ℕ) → Texts config → format_named prefix config.formats ≡ format → is_legal_list list ≡ true
    → IsLegalAnswer (part_answer verb format (part_from config list cursor))
part_answered config verb list prefix None cursor so found all = tt
part_answered config verb list prefix (Some format) cursor so found all = part_told config verb format list cursor (format_legal config prefix format so found) all

continued : (config : RepositoryConfig) (clock : ℤ) (open_lists : OpenLists) (verb : ListVerb) (token : Token) (found : Option FrozenList) → Texts config → list_all is_legal_list open_lists.lists ≡ true
    → ((list : FrozenList) → found ≡ Some list → is_legal_list list ≡ true) → IsDone (continued_response config clock open_lists verb token.cursor (where_continued config verb token found))
continued config clock open_lists verb token None so lists its = (tt, lists)
continued config clock open_lists verb token (Some list) so lists its =
    cond_both (is_continued config.chunk verb token list.verb (length list.items) list.given) (Some list) None (λ (o : Option FrozenList). IsDone (continued_response config clock open_lists verb token.cursor o))
    (λ _. (
      part_answered config verb (prolonged config clock list) list.prefix (format_named list.prefix config.formats) token.cursor so refl (its list refl),
      all_carried config clock list.number (next_cursor config list token.cursor) open_lists.lists lists,
    ))
    (λ _. (tt, lists))

of_token : (config : RepositoryConfig) (clock : ℤ) (open_lists : OpenLists) (verb : ListVerb) (token : Option Token) → Texts config → list_all is_legal_list open_lists.lists ≡ true
    → IsDone (token_response config clock open_lists verb token)
of_token config clock open_lists verb None so lists = (tt, lists)
of_token config clock open_lists verb (Some token) so lists =
    continued config clock open_lists verb token (find (is_of_number token.list) open_lists.lists) so lists (λ list found. of_found (is_of_number token.list) is_legal_list open_lists.lists list found lists)

-- ---- the other verbs

in_record : (config : RepositoryConfig) (item : ItemState) (prefix : List ℕ) (format : Option Format) → Texts config → format_named prefix config.formats ≡ format → is_legal_item item ≡ true
    → IsLegalAnswer (disseminated config item format)
in_record config item prefix None so found is = tt
in_record config item prefix (Some format) so found is =
    cond_both (has_record format.prefix item.formats) _ _ IsLegalAnswer (λ _. (format_legal config prefix format so found, is)) (λ _. tt)

of_record : (config : RepositoryConfig) (items : List ItemState) (identifier prefix : List ℕ) (found : Option ItemState) → Texts config → item_named identifier items ≡ found → list_all is_legal_item items ≡ true
    → IsLegalAnswer (record_answer config found prefix)
of_record config items identifier prefix None so is all = tt
of_record config items identifier prefix (Some item) so is all =
    in_record config item prefix (format_named prefix config.formats) so refl (of_named is_legal_item identifier items item is all)

offered_legal : (config : RepositoryConfig) (of : Option ItemState) → Texts config → list_all is_legal_format (offered config.formats of) ≡ true
unfolding offered
offered_legal config of so = all-filter is_legal_format (is_offered of) config.formats so.formats

of_item_formats : (config : RepositoryConfig) (found : Option ItemState) → Texts config → IsLegalAnswer (item_formats_answer config found)
of_item_formats config None so = tt
of_item_formats config (Some item) so = cond_both item.live _ _ IsLegalAnswer (λ _. offered_legal config (Some item) so) (λ _. tt)

of_formats : (config : RepositoryConfig) (items : List ItemState) (identifier : Option (List ℕ)) → Texts config → IsLegalAnswer (formats_answer config items identifier)
of_formats config items None so = offered_legal config None so
of_formats config items (Some identifier) so = of_item_formats config (item_named identifier items) so

described_legal : (config : RepositoryConfig) (sets : List NamedSet) → Texts config → list_all is_legal_set sets ≡ true
    → list_all is_legal_described (described_sets (map elements_alone config.set_descriptions) sets) ≡ true
described_legal config [] so all = refl
described_legal config (set ∷ sets) so all =
    let parts = and_parts (is_legal_set set) (list_all is_legal_set sets) all in
    both (both parts.0 (found_alone is_legal_text config.set_descriptions set.0 so.set_descriptions)) (described_legal config sets so parts.1)

of_sets : (config : RepositoryConfig) (sets : List NamedSet) → Texts config → list_all is_legal_set sets ≡ true → IsLegalAnswer (sets_answer config sets)
of_sets config [] so all = tt
of_sets config (set ∷ sets) so all = described_legal config (set ∷ sets) so all

selected_legal : (asked : Filter) (items : List ItemState) → list_all is_legal_item items ≡ true → list_all is_legal_item (selected asked items) ≡ true
unfolding selected
selected_legal asked items all = all-filter is_legal_item (passes asked) items all

done : (config : RepositoryConfig) (state : RepoState) (request : AskOrError) → Texts config → AreLegal state → IsDone (request_response config state request)
done config state bad_verb so held = (tt, held.lists)
done config state bad_argument so held = (tt, held.lists)
done config state (asks ask.Identify) so held = ((so.name, so.addresses, all-filter is_legal_text is_canonical config.descriptions so.descriptions), held.lists)
done config state (asks (ask.Formats identifier)) so held = (of_formats config state.holdings.items identifier so, held.lists)
done config state (asks ask.Sets) so held = (of_sets config state.holdings.sets so held.sets, held.lists)
done config state (asks (ask.Get identifier prefix)) so held =
    (of_record config state.holdings.items identifier prefix (item_named identifier state.holdings.items) so refl held.items, held.lists)
done config state (asks (ask.List verb prefix from until set)) so held =
    of_list config state.clock state.open_lists state.holdings.sets verb prefix set (selected (filter_of prefix from until set) state.holdings.items) so
    (selected_legal (filter_of prefix from until set) state.holdings.items held.items) held.lists
done config state (asks (ask.Resume verb token)) so held = of_token config state.clock state.open_lists verb (token_of token) so held.lists

-- ---- a command

-- a document of legal texts
pub record IsLegalDocument (d : Document) : Type 0 where
  pub base : is_legal_text d.base ≡ true
  pub asked : have_legal_arguments d.asked ≡ true
  pub answer : IsLegalAnswer d.answer

abbrev pub IsLegalOutcome : Outcome → Type 0
IsLegalOutcome (documented d) = IsLegalDocument d
IsLegalOutcome (later seconds) = Unit {0}
IsLegalOutcome (accepted stamp) = Unit {0}
IsLegalOutcome (refused_with cause) = Unit {0}

of_said : (config : RepositoryConfig) (clock : ℤ) (asked : Attributes) (said : Response) → Texts config → have_legal_arguments asked ≡ true → IsSaid said → IsLegalOutcome (outcome_of config clock asked said)
of_said config clock asked (with_answer answer) so is legal_so = record { base = so.base; asked = is; answer = legal_so }
of_said config clock asked (retry_after seconds) so is legal_so = tt

of_change : (config : RepositoryConfig) (state : RepoState) (stamp : ℤ) (asked : Change) (refusal : Option ChangeRefusal) → IsLegalOutcome (act_on_change config state stamp asked refusal).0
of_change config state stamp asked (Some cause) = tt
of_change config state stamp asked None = tt

-- its outcome, and the state afterwards
pub legal_act : (config : RepositoryConfig) (state : RepoState) (command : Command) → is_legal_config config ≡ true → is_legal_command command ≡ true → AreLegal state
    → IsLegalOutcome (act config state command).0 × AreLegal (act config state command).1
unfolding act
legal_act config state (requesting request) so is held =
    let its = done config state request (texts config so) held in (
      of_said config state.clock (arguments_of_request request) (request_response config state request).0 (texts config so) is its.0,
      record { items = held.items; sets = held.sets; lists = its.1 },
    )
legal_act config state (changing asked) so is held =
    let stamp : ℤ = stamp_at config state.clock in
    let refusal : Option ChangeRefusal = refusal_of config stamp state.holdings asked in
    (of_change config state stamp asked refusal, acted_legal config stamp state asked refusal is held)
legal_act config state (rejecting cause) so is held = (tt, held)

-- ---- a run

legal_part : (config : RepositoryConfig) (commands : List Timed) (state : RepoState) (some : List Transition) → is_legal_config config ≡ true → are_legal_commands commands ≡ true → AreLegal state
    → IsPart some (run config state commands) → Throughout (λ (exchange : Transition). IsLegalOutcome exchange.outcome) some
legal_part config [] state some so all held none = subst (Throughout (λ (exchange : Transition). IsLegalOutcome exchange.outcome)) (sym none) tt
legal_part config (timed ∷ commands) state some so all held (inl part) =
    let parts = and_parts (is_legal_command timed.command) (are_legal_commands commands) all in
    let its = legal_act config (moved timed.moment state) timed.command so parts.0 (legal_moved timed.moment state held) in
    legal_part config commands (performed config state timed).left some so parts.1 its.1 part
legal_part config (timed ∷ commands) state some so all held (inr here) =
    let parts = and_parts (is_legal_command timed.command) (are_legal_commands commands) all in
    let its = legal_act config (moved timed.moment state) timed.command so parts.0 (legal_moved timed.moment state held) in
    subst (Throughout (λ (exchange : Transition). IsLegalOutcome exchange.outcome)) (sym here.1)
    (its.0, legal_part config commands (performed config state timed).left here.0 so parts.1 its.1 here.2)

-- the state that commands leave
pub legal_behind : (config : RepositoryConfig) (state : RepoState) (commands : List Timed) → is_legal_config config ≡ true → are_legal_commands commands ≡ true → AreLegal state
    → AreLegal (left_behind config state commands)
legal_behind config state [] so all held = held
legal_behind config state (timed ∷ commands) so all held =
    let parts = and_parts (is_legal_command timed.command) (are_legal_commands commands) all in
    legal_behind config (performed config state timed).left commands so parts.1
    (legal_act config (moved timed.moment state) timed.command so parts.0 (legal_moved timed.moment state held)).1

-- ---- the bytes of such a document

pub is_read : (d : Document) → IsGivenDocument may_be_default d → IsLegalDocument d
    → (is_legal_text (document d) ≡ true) × (HasFittingElements d.answer → tree_in (document d) ≡ Some (document_tree d))
is_read d given so =
    let legal = document_legal d so.base so.asked given.regular so.answer in (
      ap is_legal_text (document_written d given.regular) ∙ file_tested (document_tree d) legal,
      λ room. ap tree_in (document_written d given.regular) ∙ tree_read (document_tree d) (given_whole d given room) legal,
    )

pub some_read : (config : RepositoryConfig) (d : Document) (rules : IsConfig config) (is : IsSomeAnswer config d) → have_namespaces may_be_default config ≡ true → is_legal_config config ≡ true
    → are_legal_commands is.commands ≡ true → (is_legal_text (document d) ≡ true) × (HasFittingElements d.answer → tree_in (document d) ≡ Some (document_tree d))
some_read config d rules is all so commands =
    is_read d (some_answer may_be_default config d rules is all)
    (subst IsLegalOutcome is.told (legal_part config is.commands (empty_state config) (is.exchange ∷ []) so commands (legal_empty config) is.among).0)
