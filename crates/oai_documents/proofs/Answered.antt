-- What a repository answers: no list of it is empty, and its records are in formats of its own, so of their namespaces.
use Rattle.std.proofs.Common.{◌≡◌, ◌∙◌, ◌+◌, inl, inr, ℕ, ℤ, ◌<◌, Bool, true, false, cond, ◌&&◌, List, [], ◌∷◌, length, take, drop, codes, map, Option, None, Some, is_some, refl, sym, ap, subst, arith}
use Rattle.std.specs.Prelude.{filter, find, nat_le, nat_lt}
use Rattle.std.specs.Int.{is_in_range}
use Rattle.std.specs.List.{list_all}
use Rattle.std.specs.Str.{bytes_eq}
use Rattle.std.proofs.lemmas.Bool.{and_from, and_parts, cond_both, true≢false}
use Rattle.std.proofs.lemmas.Bool.Decides.{nat_tests}
use Rattle.std.proofs.lemmas.List.{length-drop, length-take}
use Rattle.oai_names.proofs.Lists.{all-filter}
use Rattle.oai_names.specs.declared.list_verbs.ListVerb.{ListVerb}
use Rattle.oai_names.specs.declared.list_verbs.ListVerb.TheVariants as list
use Rattle.oai_lists.specs.Tokens.{token_of}
use Rattle.oai_lists.specs.declared.tokens.Token.{Token}
use Rattle.oai_item.specs.Formats.{AreRepositoryFormats, dublin_core, format_named}
use Rattle.oai_item.proofs.Named.{of_found as of_named}
use Rattle.oai_item.specs.Item.{ItemState, has_record}
use Rattle.oai_item.specs.Items.{item_named}
use Rattle.oai_item.specs.Known.{has_format, has_known_fields}
use Rattle.oai_item.specs.Selection.{selected}
use Rattle.oai_item.specs.ShortTexts.{is_short_text}
use Rattle.oai_names.specs.Sets.{has_set}
use Rattle.oai_deposit.specs.declared.changes.Change.{Change}
use Rattle.oai_item.specs.declared.formats.Format.{Format}
use Rattle.oai_item.specs.declared.refusals.ChangeRefusal.{ChangeRefusal}
use Rattle.oai_args.specs.Asks.{AskOrError, asks, bad_argument, bad_verb}
use Rattle.oai_args.specs.declared.requests.Ask.TheVariants as ask
use Rattle.oai_answers.specs.Answers.{Attributes, DescribedSet, Document, described_sets, Page, VerbAnswer, is_offered, offered}
use Rattle.oai_answers.specs.Seen.{IsRegular}
use Rattle.oai_xml.specs.Documents.{is_canonical}
use Rattle.oai_xml.specs.Named.{NamedList}
use Rattle.oai_xml.specs.Whole.{is_whole}
use Rattle.oai_settings.specs.Config.{IsConfig, RepositoryConfig, are_limits, is_chunk, is_described, is_items, is_lifetime, is_lists}
use Rattle.oai_repo.proofs.DescriptionLemmas.{found_alone}
use Rattle.oai_repo.specs.Answers.{arguments_of_request, disseminated, elements_alone, filter_of, formats_answer, item_formats_answer, record_answer, sets_answer}
use Rattle.oai_holdings.specs.Changes.{refusal_of, stamp_at}
use Rattle.oai_repo.specs.Listing.{Response, answer_by_verb, complete_answer, complete_page, continued_response, format_response, has_no_sets, is_continued, is_handed_out, is_of_number, is_same_verb, is_valid_cursor, list_response, new_list, opens_list, part_answer, part_from, prolonged, request_response, retry_after, selection_response, token_response, wait_at, where_continued, with_answer}
use Rattle.oai_repo.specs.Machine.{Command, Outcome, accepted, act, act_on_change, changing, documented, later, outcome_of, refused_with, rejecting, requesting}
use Rattle.oai_holdings.specs.Holdings.{NamedSet}
use Rattle.oai_repo.specs.State.{FrozenList, OpenLists, RepoState, empty_state, moved}
use Rattle.oai_laws.specs.Effects.{IsSound}
use Rattle.oai_laws.specs.Runs.{IsPart, Throughout, Timed, Transition, performed, run}
use Rattle.oai_laws.specs.Shown.{IsRegularOutcome, IsSomeAnswer}
use Rattle.oai_laws.proofs.EffectLemmas.{sound_act, sound_empty, sound_moved}
use Rattle.oai_laws.proofs.FollowLemmas.{part_items}
use Rattle.oai_laws.proofs.ShownLemmas.{regular_act}
use Rattle.oai_laws.proofs.StandLemmas.{of_found}
use Rattle.oai_holdings.specs.Kept.{is_well_kept}
use Rattle.oai_documents.specs.Answering.{have_namespaces}
use Rattle.oai_documents.specs.DocumentTrees.{document_tree}
use Rattle.oai_documents.specs.Schema.{IsOfSchema}
use Rattle.oai_documents.specs.WellFormed.{HasAboutIn, HasMembers, has_root_in, HasNamespace, HasFittingElements, IsFilled, is_foreign, may_be_default}
use Rattle.oai_documents.proofs.SchemaLemmas.{document_is}
use Rattle.oai_documents.proofs.WholeTrees.{document_whole}

-- ---- what is asked of the configuration

pub record Rules (passes : List ℕ → Bool) (config : RepositoryConfig) : Type 0 where
  pub formats : AreRepositoryFormats config.formats
  pub namespaces : list_all (λ (f : Format). passes f.namespace) config.formats ≡ true
  pub descriptions : list_all (has_root_in passes) config.descriptions ≡ true
  pub set_descriptions : list_all (λ (list : NamedList). list_all (has_root_in passes) list.1) config.set_descriptions ≡ true
  pub chunk : 0 < config.chunk
  pub addresses : HasMembers config.addresses

members : {A : Type 0} (xs : List A) → 0 < length xs → HasMembers xs
members [] some = absurd (omega (arith, some))
members (x ∷ xs) some = tt

from_one : (low high n : ℕ) → is_in_range (1 + low) high n ≡ true → 0 < n
from_one low high n is = let first = (and_parts (nat_le (1 + low) n) (nat_le n high) is).0 in grind (arith, nat_tests, first)

chunk_some : (config : RepositoryConfig) → IsConfig config → 0 < config.chunk
unfolding are_limits
chunk_some config is =
    let three = and_parts (is_chunk config.chunk && is_lifetime config.lifetime && is_lists config.lists) (is_items config.items) is.limited in
    let two = and_parts (is_chunk config.chunk && is_lifetime config.lifetime) (is_lists config.lists) three.0 in
    from_one 0 1_000 config.chunk (and_parts (is_chunk config.chunk) (is_lifetime config.lifetime) two.0).0

addresses_some : (config : RepositoryConfig) → IsConfig config → HasMembers config.addresses
unfolding is_described
addresses_some config is =
    let outer = and_parts (is_short_text config.repository_name && is_in_range 1 16 (length config.addresses)) (list_all is_short_text config.addresses) is.described in
    members config.addresses (from_one 0 16 (length config.addresses) (and_parts (is_short_text config.repository_name) (is_in_range 1 16 (length config.addresses)) outer.0).1)

pub rules_of : (passes : List ℕ → Bool) (config : RepositoryConfig) → IsConfig config → AreRepositoryFormats config.formats → have_namespaces passes config ≡ true → Rules passes config
rules_of passes config rules formats all =
    let last = and_parts (list_all (λ (f : Format). passes f.namespace) config.formats && list_all (has_root_in passes) config.descriptions)
    (list_all (λ (list : NamedList). list_all (has_root_in passes) list.1) config.set_descriptions) all in
    let parts = and_parts (list_all (λ (f : Format). passes f.namespace) config.formats) (list_all (has_root_in passes) config.descriptions) last.0 in
    record { formats = formats; namespaces = parts.0; descriptions = parts.1; set_descriptions = last.1; chunk = chunk_some config rules; addresses = addresses_some config rules }

-- ---- formats

abbrev IsGiven : (List ℕ → Bool) → VerbAnswer → Type 0
IsGiven passes answer = HasNamespace passes answer × IsFilled answer

format_passes : (passes : List ℕ → Bool) (config : RepositoryConfig) (prefix : List ℕ) (format : Format) → Rules passes config → format_named prefix config.formats ≡ Some format → passes format.namespace ≡ true
unfolding format_named
format_passes passes config prefix format rules found =
    of_found (λ (f : Format). bytes_eq f.prefix prefix) (λ (f : Format). passes f.namespace) config.formats format found rules.namespaces

-- a list of formats whose first one is kept has members
first_kept : (keeps : Format → Bool) (x : Format) (formats : List Format) → keeps x ≡ true → HasMembers (filter keeps (x ∷ formats))
first_kept keeps x formats is = by_test (keeps x) is
  where
    by_test : (b : Bool) → b ≡ true → HasMembers (cond b (x ∷ filter keeps formats) (filter keeps formats))
    by_test true is = tt
    by_test false is = absurd (true≢false (sym is))

some_offered : (formats : List Format) (of : Option ItemState) → AreRepositoryFormats formats → is_offered of dublin_core ≡ true → HasMembers (offered formats of)
unfolding offered
some_offered [] of rules is = let first : None ≡ Some dublin_core = rules.first in cc
some_offered (x ∷ formats) of rules is =
    let first : Some x ≡ Some dublin_core = rules.first in
    let same : x ≡ dublin_core = cc in
    first_kept (is_offered of) x formats (ap (is_offered of) same ∙ is)

-- ---- lists

abbrev IsSaid : (List ℕ → Bool) → Response → Type 0
IsSaid passes (with_answer answer) = IsGiven passes answer
IsSaid passes (retry_after seconds) = Unit {0}

abbrev IsDone : (List ℕ → Bool) → Response × OpenLists → Type 0
IsDone passes done = IsSaid passes done.0

told : (passes : List ℕ → Bool) (verb : ListVerb) (format : Format) (page : Page) → passes format.namespace ≡ true → HasMembers page.items → IsGiven passes (answer_by_verb verb format page)
told passes list.Identifiers format page own some = (tt, some)
told passes list.Records format page own some = (own, some)
told passes list.Sets format page own some = (tt, tt)

complete : (passes : List ℕ → Bool) (config : RepositoryConfig) (verb : ListVerb) (format : Format) (items : List ItemState) → passes format.namespace ≡ true → IsGiven passes (complete_answer config verb format items)
complete passes config verb format [] own = (tt, tt)
complete passes config verb format (item ∷ items) own = told passes verb format (complete_page config (item ∷ items)) own tt

-- a part that begins before the end of its list
part_some : (config : RepositoryConfig) (list : FrozenList) (cursor : ℕ) → 0 < config.chunk → cursor < length list.items → HasMembers (part_from config list cursor).items
part_some config list cursor chunk below =
    let taken = length-take config.chunk (drop cursor list.items) in
    let dropped = length-drop cursor list.items in
    let is = part_items config list cursor in
    let long : 0 < length (take config.chunk (drop cursor list.items)) = omega (arith, taken, dropped, chunk, below) in
    subst HasMembers (sym is) (members (take config.chunk (drop cursor list.items)) long)

begun : (passes : List ℕ → Bool) (config : RepositoryConfig) (open_lists : OpenLists) (format : Format) (list : FrozenList) (wait : Option ℤ) → Rules passes config → passes format.namespace ≡ true
    → 0 < length list.items → IsDone passes (opens_list config open_lists format list wait)
begun passes config open_lists format list (Some seconds) rules own some = tt
begun passes config open_lists format list None rules own some = told passes list.verb format (part_from config list 0) own (part_some config list 0 rules.chunk some)

longer : (n chunk : ℕ) → nat_le n chunk ≡ false → 0 < n
longer n chunk is = grind (arith, nat_tests, is)

of_selection : (passes : List ℕ → Bool) (config : RepositoryConfig) (clock : ℤ) (open_lists : OpenLists) (verb : ListVerb) (format : Format) (items : List ItemState) → Rules passes config
    → passes format.namespace ≡ true → IsDone passes (selection_response config clock open_lists verb format items)
unfolding selection_response
of_selection passes config clock open_lists verb format items rules own =
    cond_both (nat_le (length items) config.chunk) _ _ (IsDone passes)
    (λ _. complete passes config verb format items own)
    (λ more. begun passes config open_lists format (new_list config clock open_lists verb format.prefix items) (wait_at config clock open_lists) rules own (longer (length items) config.chunk more))

in_format : (passes : List ℕ → Bool) (config : RepositoryConfig) (clock : ℤ) (open_lists : OpenLists) (verb : ListVerb) (prefix : List ℕ) (format : Option Format) (items : List ItemState) → Rules passes config
    → format_named prefix config.formats ≡ format → IsDone passes (format_response config clock open_lists verb format items)
in_format passes config clock open_lists verb prefix None items rules found = (tt, tt)
in_format passes config clock open_lists verb prefix (Some format) items rules found = of_selection passes config clock open_lists verb format items rules (format_passes passes config prefix format rules found)

of_list : (passes : List ℕ → Bool) (config : RepositoryConfig) (clock : ℤ) (open_lists : OpenLists) (sets : List NamedSet) (verb : ListVerb) (prefix : List ℕ) (set : Option (List ℕ)) (items : List ItemState)
    → Rules passes config → IsDone passes (list_response config clock open_lists sets verb prefix set items)
of_list passes config clock open_lists sets verb prefix set items rules =
    cond_both (is_some set && has_no_sets sets) _ _ (IsDone passes) (λ _. (tt, tt)) (λ _. in_format passes config clock open_lists verb prefix (format_named prefix config.formats) items rules refl)

-- ---- tokens

part_told : (passes : List ℕ → Bool) (config : RepositoryConfig) (verb : ListVerb) (list : FrozenList) (format : Option Format) (cursor : ℕ) → Rules passes config → format_named list.prefix config.formats ≡ format
    → cursor < length list.items → IsGiven passes (part_answer verb format (part_from config list cursor))
part_told passes config verb list None cursor rules found below = (tt, tt)
part_told passes config verb list (Some format) cursor rules found below =
    told passes verb format (part_from config list cursor) (format_passes passes config list.prefix format rules found) (part_some config list cursor rules.chunk below)

below_size : (config : RepositoryConfig) (verb : ListVerb) (token : Token) (list : FrozenList) → is_continued config.chunk verb token list.verb (length list.items) list.given ≡ true → token.cursor < length list.items
below_size config verb token list is =
    let cursor = (and_parts (is_same_verb list.verb verb) (is_valid_cursor config.chunk (length list.items) list.given token.cursor) is).1 in
    let below = (and_parts (nat_lt token.cursor (length list.items)) (is_handed_out config.chunk list.given token.cursor) cursor).0 in
    grind (arith, nat_tests, below)

continued : (passes : List ℕ → Bool) (config : RepositoryConfig) (clock : ℤ) (open_lists : OpenLists) (verb : ListVerb) (token : Token) (found : Option FrozenList) → Rules passes config
    → IsDone passes (continued_response config clock open_lists verb token.cursor (where_continued config verb token found))
continued passes config clock open_lists verb token None rules = (tt, tt)
continued passes config clock open_lists verb token (Some list) rules =
    cond_both (is_continued config.chunk verb token list.verb (length list.items) list.given) (Some list) None (λ (o : Option FrozenList). IsDone passes (continued_response config clock open_lists verb token.cursor o))
    (λ is. part_told passes config verb (prolonged config clock list) (format_named list.prefix config.formats) token.cursor rules refl (below_size config verb token list is))
    (λ _. (tt, tt))

of_token : (passes : List ℕ → Bool) (config : RepositoryConfig) (state : RepoState) (verb : ListVerb) (token : Option Token) → Rules passes config
    → IsDone passes (token_response config state.clock state.open_lists verb token)
of_token passes config state verb None rules = (tt, tt)
of_token passes config state verb (Some token) rules = continued passes config state.clock state.open_lists verb token (find (is_of_number token.list) state.open_lists.lists) rules

-- ---- the other verbs

in_record : (passes : List ℕ → Bool) (config : RepositoryConfig) (item : ItemState) (prefix : List ℕ) (format : Option Format) → Rules passes config → format_named prefix config.formats ≡ format
    → IsGiven passes (disseminated config item format)
in_record passes config item prefix None rules found = (tt, tt)
in_record passes config item prefix (Some format) rules found =
    cond_both (has_record format.prefix item.formats) _ _ (IsGiven passes) (λ _. (format_passes passes config prefix format rules found, tt)) (λ _. (tt, tt))

of_record : (passes : List ℕ → Bool) (config : RepositoryConfig) (prefix : List ℕ) (found : Option ItemState) → Rules passes config → IsGiven passes (record_answer config found prefix)
of_record passes config prefix None rules = (tt, tt)
of_record passes config prefix (Some item) rules = in_record passes config item prefix (format_named prefix config.formats) rules refl

-- an item that is well kept is offered in unqualified Dublin Core
dublin_core_offered : (config : RepositoryConfig) (sets : List NamedSet) (item : ItemState) → is_well_kept config sets item ≡ true → is_offered (Some item) dublin_core ≡ true
unfolding dublin_core
dublin_core_offered config sets item well =
    let four = and_parts (has_record (codes "oai_dc") item.formats && list_all (has_format config.formats) item.formats && list_all (has_known_fields config.formats) item.formats && list_all (has_set sets) item.sets) _ well in
    let three = and_parts (has_record (codes "oai_dc") item.formats && list_all (has_format config.formats) item.formats && list_all (has_known_fields config.formats) item.formats) _ four.0 in
    let two = and_parts (has_record (codes "oai_dc") item.formats && list_all (has_format config.formats) item.formats) _ three.0 in
    (and_parts (has_record (codes "oai_dc") item.formats) _ two.0).0

of_item_formats : (passes : List ℕ → Bool) (config : RepositoryConfig) (sets : List NamedSet) (found : Option ItemState) → Rules passes config
    → ((item : ItemState) → found ≡ Some item → is_well_kept config sets item ≡ true) → IsGiven passes (item_formats_answer config found)
of_item_formats passes config sets None rules well = (tt, tt)
of_item_formats passes config sets (Some item) rules well =
    cond_both item.live _ _ (IsGiven passes)
    (λ _. (tt, some_offered config.formats (Some item) rules.formats (dublin_core_offered config sets item (well item refl)))) (λ _. (tt, tt))

of_formats : (passes : List ℕ → Bool) (config : RepositoryConfig) (state : RepoState) (identifier : Option (List ℕ)) → Rules passes config → IsSound config state
    → IsGiven passes (formats_answer config state.holdings.items identifier)
of_formats passes config state None rules sound = (tt, some_offered config.formats None rules.formats refl)
of_formats passes config state (Some identifier) rules sound =
    of_item_formats passes config state.holdings.sets (item_named identifier state.holdings.items) rules
    (λ item found. of_named (is_well_kept config state.holdings.sets) identifier state.holdings.items item found sound.kept.well)

described_pass : (passes : List ℕ → Bool) (config : RepositoryConfig) (sets : List NamedSet) → Rules passes config
    → list_all (λ (set : DescribedSet). list_all (has_root_in passes) set.descriptions) (described_sets (map elements_alone config.set_descriptions) sets) ≡ true
described_pass passes config [] rules = refl
described_pass passes config (set ∷ sets) rules =
    and_from _ _ (found_alone (has_root_in passes) config.set_descriptions set.0 rules.set_descriptions) (described_pass passes config sets rules)

of_sets : (passes : List ℕ → Bool) (config : RepositoryConfig) (sets : List NamedSet) → Rules passes config → IsGiven passes (sets_answer config sets)
of_sets passes config [] rules = (tt, tt)
of_sets passes config (set ∷ sets) rules = (described_pass passes config (set ∷ sets) rules, tt)

done : (passes : List ℕ → Bool) (config : RepositoryConfig) (state : RepoState) (request : AskOrError) → Rules passes config → IsSound config state → IsDone passes (request_response config state request)
done passes config state bad_verb rules sound = (tt, tt)
done passes config state bad_argument rules sound = (tt, tt)
done passes config state (asks ask.Identify) rules sound = (all-filter (has_root_in passes) is_canonical config.descriptions rules.descriptions, rules.addresses)
done passes config state (asks (ask.Formats identifier)) rules sound = of_formats passes config state identifier rules sound
done passes config state (asks ask.Sets) rules sound = of_sets passes config state.holdings.sets rules
done passes config state (asks (ask.Get identifier prefix)) rules sound = of_record passes config prefix (item_named identifier state.holdings.items) rules
done passes config state (asks (ask.List verb prefix from until set)) rules sound =
    of_list passes config state.clock state.open_lists state.holdings.sets verb prefix set (selected (filter_of prefix from until set) state.holdings.items) rules
done passes config state (asks (ask.Resume verb token)) rules sound = of_token passes config state verb (token_of token) rules

-- ---- a command

abbrev IsGivenOutcome : (List ℕ → Bool) → Outcome → Type 0
IsGivenOutcome passes (documented document) = IsGiven passes document.answer
IsGivenOutcome passes (later seconds) = Unit {0}
IsGivenOutcome passes (accepted stamp) = Unit {0}
IsGivenOutcome passes (refused_with cause) = Unit {0}

of_said : (passes : List ℕ → Bool) (config : RepositoryConfig) (clock : ℤ) (asked : Attributes) (said : Response) → IsSaid passes said → IsGivenOutcome passes (outcome_of config clock asked said)
of_said passes config clock asked (with_answer answer) h = h
of_said passes config clock asked (retry_after seconds) h = tt

of_change : (passes : List ℕ → Bool) (config : RepositoryConfig) (state : RepoState) (stamp : ℤ) (change : Change) (refusal : Option ChangeRefusal)
    → IsGivenOutcome passes (act_on_change config state stamp change refusal).0
of_change passes config state stamp change (Some cause) = tt
of_change passes config state stamp change None = tt

of_act : (passes : List ℕ → Bool) (config : RepositoryConfig) (state : RepoState) (command : Command) → Rules passes config → IsSound config state → IsGivenOutcome passes (act config state command).0
unfolding act
of_act passes config state (requesting request) rules sound =
    of_said passes config state.clock (arguments_of_request request) (request_response config state request).0 (done passes config state request rules sound)
of_act passes config state (changing change) rules sound =
    of_change passes config state (stamp_at config state.clock) change (refusal_of config (stamp_at config state.clock) state.holdings change)
of_act passes config state (rejecting cause) rules sound = tt

-- a document that a repository may answer: its records are in formats of namespaces that pass the test, and no list of it is empty
pub record IsGivenDocument (passes : List ℕ → Bool) (d : Document) : Type 0 where
  pub regular : IsRegular d.answer
  pub own : HasNamespace passes d.answer
  pub filled : IsFilled d.answer

abbrev pub IsGivenBy : (List ℕ → Bool) → Outcome → Type 0
IsGivenBy passes (documented d) = IsGivenDocument passes d
IsGivenBy passes (later seconds) = Unit {0}
IsGivenBy passes (accepted stamp) = Unit {0}
IsGivenBy passes (refused_with cause) = Unit {0}

both_given : (passes : List ℕ → Bool) (outcome : Outcome) → IsRegularOutcome outcome → IsGivenOutcome passes outcome → IsGivenBy passes outcome
both_given passes (documented d) regular given = record { regular = regular; own = given.0; filled = given.1 }
both_given passes (later seconds) regular given = tt
both_given passes (accepted stamp) regular given = tt
both_given passes (refused_with cause) regular given = tt

pub given_act : (passes : List ℕ → Bool) (config : RepositoryConfig) (state : RepoState) (command : Command) → Rules passes config → IsSound config state → IsGivenBy passes (act config state command).0
given_act passes config state command rules sound =
    both_given passes (act config state command).0 (regular_act config state command rules.formats sound) (of_act passes config state command rules sound)

-- ---- a run

abbrev IsGivenExchange : (List ℕ → Bool) → Transition → Type 0
IsGivenExchange passes exchange = IsGivenBy passes exchange.outcome

given_part : (passes : List ℕ → Bool) (config : RepositoryConfig) (commands : List Timed) (state : RepoState) (some : List Transition) → Rules passes config → IsSound config state
    → IsPart some (run config state commands) → Throughout (IsGivenExchange passes) some
given_part passes config [] state some rules sound none = subst (Throughout (IsGivenExchange passes)) (sym none) tt
given_part passes config (timed ∷ commands) state some rules sound (inl part) =
    given_part passes config commands (performed config state timed).left some rules (sound_act config (moved timed.moment state) timed.command (sound_moved config timed.moment state sound)) part
given_part passes config (timed ∷ commands) state some rules sound (inr here) =
    let found = sound_moved config timed.moment state sound in
    subst (Throughout (IsGivenExchange passes)) (sym here.1) (
      given_act passes config (moved timed.moment state) timed.command rules found,
      given_part passes config commands (performed config state timed).left here.0 rules (sound_act config (moved timed.moment state) timed.command found) here.2,
    )

pub some_answer : (passes : List ℕ → Bool) (config : RepositoryConfig) (d : Document) → IsConfig config → IsSomeAnswer config d → have_namespaces passes config ≡ true → IsGivenDocument passes d
some_answer passes config d rules is all =
    subst (IsGivenBy passes) is.told (given_part passes config is.commands (empty_state config) (is.exchange ∷ []) (rules_of passes config rules is.formats all) (sound_empty config) is.among).0

-- ---- what is true of such documents

pub given_whole : (d : Document) → IsGivenDocument may_be_default d → HasFittingElements d.answer → is_whole (document_tree d) ≡ true
given_whole d given room = document_whole d given.regular given.own room

pub given_of_schema : (d : Document) → IsGivenDocument is_foreign d → HasAboutIn is_foreign d.answer → IsOfSchema (document_tree d)
given_of_schema d given about = document_is d given.regular given.filled given.own about
