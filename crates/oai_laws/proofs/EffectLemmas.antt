-- What a command does to a state is an effect that is possible, and each effect that is possible leaves a sound state sound.
use Rattle.std.proofs.Common.{◌≡◌, ◌≢◌, ◌∙◌, ℕ, ℤ, ◌+◌, ◌<◌, ◌≤◌, Bool, true, false, not, ◌&&◌, eqb, cond, List, [], ◌∷◌, ◌++◌, length, map, codes, Option, None, Some, is_some, is_none, refl, sym, ap, subst, arith}
use Rattle.std.specs.Prelude.{find, nat_le, nat_lt}
use Rattle.std.specs.List.{list_all}
use Rattle.std.specs.Str.{bytes_eq}
use Rattle.std.proofs.lemmas.Bool.{and_from, and_parts, cond_both}
use Rattle.std.proofs.lemmas.Bool.Decides.{nat_tests}
use Rattle.std.proofs.lemmas.List.Folds.{list_all-append}
use Rattle.std.proofs.lemmas.Slice.Eq.{bytes_eq-Decides}
use Rattle.oai_names.specs.declared.list_verbs.ListVerb.{ListVerb}
use Rattle.oai_lists.specs.declared.lists.TheConstants.{LAST_NUMBER}
use Rattle.oai_lists.specs.declared.tokens.Token.{Token}
use Rattle.oai_lists.specs.Tokens.{token_of}
use Rattle.oai_names.specs.Sets.{has_set}
use Rattle.oai_item.specs.Known.{has_format, has_known_fields}
use Rattle.oai_item.specs.Formats.{format_named}
use Rattle.oai_item.specs.Givens.{GivenRecord, kept as as_kept}
use Rattle.oai_item.specs.Item.{ItemState, Metadata, emptied, has_record, live_item, record_named, tombstone_of}
use Rattle.oai_item.specs.Items.{item_named, without}
use Rattle.oai_item.specs.Membership.{reduced}
use Rattle.oai_item.specs.Selection.{Filter, passes, selected}
use Rattle.oai_deposit.specs.declared.changes.Change.{Change}
use Rattle.oai_deposit.specs.declared.changes.Change.TheVariants as change
use Rattle.oai_item.specs.declared.formats.Format.{Format}
use Rattle.oai_item.specs.declared.refusals.ChangeRefusal.{ChangeRefusal}
use Rattle.oai_item.specs.declared.refusals.ChangeRefusal.TheVariants.{AlreadyDeleted, NotTransient, BadDate}
use Rattle.oai_item.proofs.Named.{found_name, of_found}
use Rattle.oai_names.proofs.Lists.{all-filter, all-weaker}
use Rattle.oai_item.proofs.OrderLemmas.{all-placed, in_order-changed, apart-changed}
use Rattle.oai_args.specs.Asks.{AskOrError, asks, bad_verb, bad_argument}
use Rattle.oai_args.specs.declared.requests.Ask.TheVariants as ask
use Rattle.oai_item.specs.declared.deleted_record.DeletedRecord.{DeletedRecord}
use Rattle.oai_item.specs.declared.deleted_record.DeletedRecord.TheVariants.{No, Transient, Persistent}
use Rattle.oai_repo.specs.Answers.{filter_of}
use Rattle.oai_holdings.specs.Changes.{after_deletion, after_purge, changed, dead_refusal, deposit_refusal, drops_format, is_held_so, is_one_too_many, is_transient, item_refusal, limit_of, missing_refusal, purge_refusal, purged, refusal_of, stamp_at, with_new, with_tombstone}
use Rattle.oai_settings.specs.Config.{RepositoryConfig}
use Rattle.oai_laws.specs.Effects.{Effect, is_formed, is_frozen_of_format, has_known_records, is_live, IsEffected, IsLeftOver, IsPossible, MayBePut, IsSound, effected, goes_below, holding, is_given, item_put, item_taken, items_purged, list_opened, list_carried_on, set_added, unchanged}
use Rattle.oai_holdings.specs.Kept.{AreKept, is_too_large, is_well_kept}
use Rattle.oai_repo.specs.Listing.{Response, request_response, opens_list, continued_response, has_no_sets, list_response, new_list, next_cursor, list_continued, carried_on, carried_on_at, format_response, selection_response, token_response, wait_at}
use Rattle.oai_repo.specs.Machine.{Command, act, act_on_change, requesting, changing, rejecting}
use Rattle.oai_holdings.specs.Holdings.{Holdings, NamedSet}
use Rattle.oai_repo.specs.State.{FrozenList, OpenLists, RepoState, empty_state, is_open_at, moved}
use Rattle.oai_holdings.proofs.KeptLemmas.{emptied-record, few-new, fits, kept-none, no_cause, purged_kept, set_kept, stands, taken, well-deposited, well-tombstone, well-without}

-- ---- a sound state stays sound

-- a repository that begins
pub sound_empty : (config : RepositoryConfig) → IsSound config (empty_state config)
sound_empty config = record { kept = kept-none config; live = λ _. refl; given = refl; formed = refl; known = refl; few = omega arith }

-- at a later clock fewer lists are open
pub sound_moved : (config : RepositoryConfig) (moment : ℤ) (state : RepoState) → IsSound config state → IsSound config (moved moment state)
sound_moved config moment state sound = record {
  kept = sound.kept;
  live = sound.live;
  given = all-filter (is_given state.open_lists.next) (is_open_at (moved moment state).clock) state.open_lists.lists sound.given;
  formed = all-filter (is_formed config) (is_open_at (moved moment state).clock) state.open_lists.lists sound.formed;
  known = all-filter (is_frozen_of_format config) (is_open_at (moved moment state).clock) state.open_lists.lists sound.known;
  few = sound.few;
}

-- an item that is put
put_kept : (config : RepositoryConfig) (state : RepoState) (item : ItemState) → MayBePut config state item → AreKept config state.holdings
    → AreKept config (record state.holdings { items = with_new item state.holdings.items })
put_kept config state item put kept =
    let items : List ItemState = state.holdings.items in
    record {
      ordered = in_order-changed item items kept.ordered;
      apart = apart-changed item items kept.apart;
      few = few-new config items item put.room kept.few;
      well = all-placed (is_well_kept config state.holdings.sets) item (without item.identifier items) put.well
          (well-without (is_well_kept config state.holdings.sets) item.identifier items kept.well);
    }

-- which is live where no deleted one is kept
put_live : (config : RepositoryConfig) (state : RepoState) (item : ItemState) → MayBePut config state item → config.deleted ≡ No → item.live ≡ true
put_live config state item put none = by_test item.live put.dead
  where
    by_test : (live : Bool) → (live ≡ false → IsLeftOver config state item) → live ≡ true
    by_test true dead = refl
    by_test false dead = absurd ((dead refl).policy none)

-- a list that stays open, or does not, has the number that it had
pub same_number : (config : RepositoryConfig) (clock : ℤ) (number : ℕ) (next : Option ℕ) (list : FrozenList) → (carried_on_at config clock number next list).number ≡ list.number
same_number config clock number next list = by_test (eqb list.number number)
  where
    by_test : (b : Bool) → (cond b (carried_on config clock next list) list).number ≡ list.number
    by_test true = refl
    by_test false = refl

-- a list that stays open keeps its number
carried_given : (config : RepositoryConfig) (clock : ℤ) (number : ℕ) (next : Option ℕ) (last : ℕ) (lists : List FrozenList) → list_all (is_given last) lists ≡ true
    → list_all (is_given last) (map (carried_on_at config clock number next) lists) ≡ true
carried_given config clock number next last [] h = refl
carried_given config clock number next last (x ∷ lists) h =
    let parts = and_parts (is_given last x) (list_all (is_given last) lists) h in
    and_from (is_given last (carried_on_at config clock number next x)) (list_all (is_given last) (map (carried_on_at config clock number next) lists))
    (ap (λ (n : ℕ). nat_lt n last) (same_number config clock number next x) ∙ parts.0)
    (carried_given config clock number next last lists parts.1)

-- and the items that it had
same_items : (config : RepositoryConfig) (clock : ℤ) (number : ℕ) (next : Option ℕ) (list : FrozenList) → (carried_on_at config clock number next list).items ≡ list.items
same_items config clock number next list = by_test (eqb list.number number)
  where
    by_test : (b : Bool) → (cond b (carried_on config clock next list) list).items ≡ list.items
    by_test true = refl
    by_test false = refl

carried_formed : (config : RepositoryConfig) (clock : ℤ) (number : ℕ) (next : Option ℕ) (lists : List FrozenList) → list_all (is_formed config) lists ≡ true
    → list_all (is_formed config) (map (carried_on_at config clock number next) lists) ≡ true
carried_formed config clock number next [] h = refl
carried_formed config clock number next (x ∷ lists) h =
    let parts = and_parts (is_formed config x) (list_all (is_formed config) lists) h in
    and_from (is_formed config (carried_on_at config clock number next x)) (list_all (is_formed config) (map (carried_on_at config clock number next) lists))
    (ap (λ (items : List ItemState). list_all (has_known_records config) items) (same_items config clock number next x) ∙ parts.0)
    (carried_formed config clock number next lists parts.1)

-- and the prefix that it had
same_prefix : (config : RepositoryConfig) (clock : ℤ) (number : ℕ) (next : Option ℕ) (list : FrozenList) → (carried_on_at config clock number next list).prefix ≡ list.prefix
same_prefix config clock number next list = by_test (eqb list.number number)
  where
    by_test : (b : Bool) → (cond b (carried_on config clock next list) list).prefix ≡ list.prefix
    by_test true = refl
    by_test false = refl

carried_known : (config : RepositoryConfig) (clock : ℤ) (number : ℕ) (next : Option ℕ) (lists : List FrozenList) → list_all (is_frozen_of_format config) lists ≡ true
    → list_all (is_frozen_of_format config) (map (carried_on_at config clock number next) lists) ≡ true
carried_known config clock number next [] h = refl
carried_known config clock number next (x ∷ lists) h =
    let parts = and_parts (is_frozen_of_format config x) (list_all (is_frozen_of_format config) lists) h in
    and_from (is_frozen_of_format config (carried_on_at config clock number next x)) (list_all (is_frozen_of_format config) (map (carried_on_at config clock number next) lists))
    (ap (λ (prefix : List ℕ). is_some (format_named prefix config.formats)) (same_prefix config clock number next x) ∙ parts.0)
    (carried_known config clock number next lists parts.1)

-- numbers that were given were given before the next one too
given_more : (next : ℕ) (lists : List FrozenList) → list_all (is_given next) lists ≡ true → list_all (is_given (next + 1)) lists ≡ true
given_more next [] h = refl
given_more next (x ∷ lists) h =
    let parts = and_parts (is_given next x) (list_all (is_given next) lists) h in
    and_from (is_given (next + 1) x) (list_all (is_given (next + 1)) lists) (above x.number parts.0) (given_more next lists parts.1)
  where
    above : (n : ℕ) → nat_lt n next ≡ true → nat_lt n (next + 1) ≡ true
    above n below = grind (arith, nat_tests)

-- nothing keeps a list waiting: there is room, and a number
pub passed : {A : Type 0} (test : Bool) (cause : A) (later : Option A) → cond test (Some cause) later ≡ None → (test ≡ false) × (later ≡ None)
passed true cause later h = cc
passed false cause later h = (refl, h)

pub number_left : (config : RepositoryConfig) (clock : ℤ) (open_lists : OpenLists) → wait_at config clock open_lists ≡ None → open_lists.next ≤ LAST_NUMBER → open_lists.next < LAST_NUMBER
unfolding wait_at
number_left config clock open_lists h few =
    let room = passed (nat_le config.lists (length open_lists.lists)) _ _ h in
    let number = passed (eqb open_lists.next LAST_NUMBER) _ _ room.1 in
    below open_lists.next LAST_NUMBER number.0 few
  where
    below : (n last : ℕ) → eqb n last ≡ false → n ≤ last → n < last
    below n last apart few = grind (arith, nat_tests)

opened_given : (next : ℕ) (list : FrozenList) (lists : List FrozenList) → list.number ≡ next → list_all (is_given next) lists ≡ true
    → list_all (is_given (next + 1)) (lists ++ list ∷ []) ≡ true
opened_given next list lists is h =
    let last : nat_lt list.number (next + 1) ≡ true = grind (arith, nat_tests) in
    list_all-append (is_given (next + 1)) lists (list ∷ []) ∙ and_from _ _ (given_more next lists h) (and_from (nat_lt list.number (next + 1)) true last refl)

-- after each effect that is possible
pub sound_effected : (config : RepositoryConfig) (state : RepoState) (effect : Effect) → IsPossible config state effect → IsSound config state → IsSound config (effected config state effect)
unfolding purged
sound_effected config state unchanged possible sound = sound
sound_effected config state (item_put item) possible sound = record {
  kept = put_kept config state item possible sound.kept;
  live = λ none. all-placed is_live item (without item.identifier state.holdings.items) (put_live config state item possible none)
      (well-without is_live item.identifier state.holdings.items (sound.live none));
  given = sound.given;
  formed = sound.formed;
  known = sound.known;
  few = sound.few;
}
sound_effected config state (item_taken identifier) possible sound = record {
  kept = taken config state.holdings identifier sound.kept;
  live = λ none. well-without is_live identifier state.holdings.items (sound.live none);
  given = sound.given;
  formed = sound.formed;
  known = sound.known;
  few = sound.few;
}
sound_effected config state (items_purged limit) possible sound = record {
  kept = purged_kept config state.holdings limit sound.kept;
  live = λ none. all-filter is_live (λ item. not (goes_below limit item)) state.holdings.items (sound.live none);
  given = sound.given;
  formed = sound.formed;
  known = sound.known;
  few = sound.few;
}
sound_effected config state (set_added set) possible sound = record { kept = set_kept config state.holdings set sound.kept; live = sound.live; given = sound.given; formed = sound.formed; known = sound.known; few = sound.few }
sound_effected config state (list_carried_on number next) possible sound = record {
  kept = sound.kept;
  live = sound.live;
  given = carried_given config state.clock number next state.open_lists.next state.open_lists.lists sound.given;
  formed = carried_formed config state.clock number next state.open_lists.lists sound.formed;
  known = carried_known config state.clock number next state.open_lists.lists sound.known;
  few = sound.few;
}
sound_effected config state (list_opened list) possible sound = record {
  kept = sound.kept;
  live = sound.live;
  given = opened_given state.open_lists.next list state.open_lists.lists possible.number sound.given;
  formed = list_all-append (is_formed config) state.open_lists.lists (list ∷ []) ∙ and_from (list_all (is_formed config) state.open_lists.lists) (is_formed config list && true) sound.formed (and_from (is_formed config list) true possible.formed refl);
  known = list_all-append (is_frozen_of_format config) state.open_lists.lists (list ∷ []) ∙ and_from (list_all (is_frozen_of_format config) state.open_lists.lists) (is_frozen_of_format config list && true) sound.known (and_from (is_frozen_of_format config list) true possible.known refl);
  few = let less = number_left config state.clock state.open_lists possible.admitted sound.few in omega (arith, less);
}

-- ---- what a command does

-- the open lists are others after a request, and nothing else is
abbrev pub asked_to : RepoState → OpenLists → RepoState
asked_to state open_lists = record state { open_lists = open_lists }

-- what was said, with the lists that are open then, is an effect
abbrev pub IsBegunBy : RepositoryConfig → RepoState → Response × OpenLists → Type 0
IsBegunBy config state done = IsEffected config state (asked_to state done.1)

nothing : (config : RepositoryConfig) (state : RepoState) → IsEffected config state state
nothing config state = record { effect = unchanged; possible = tt; done = refl }

-- what a repository keeps, it tells
pub kept_formed : (config : RepositoryConfig) (sets : List NamedSet) (item : ItemState) → is_well_kept config sets item ≡ true → has_known_records config item ≡ true
kept_formed config sets item h =
    let size = and_parts _ (not (is_too_large item)) h in
    let in_sets = and_parts _ (list_all (has_set sets) item.sets) size.0 in
    let fields = and_parts _ (list_all (has_known_fields config.formats) item.formats) in_sets.0 in
    let core = and_parts (has_record (codes "oai_dc") item.formats) (list_all (has_format config.formats) item.formats) fields.0 in
    and_from (list_all (has_format config.formats) item.formats) (list_all (has_known_fields config.formats) item.formats) core.1 fields.1

pub selected_formed : (config : RepositoryConfig) (holdings : Holdings) (asked : Filter) → AreKept config holdings → list_all (has_known_records config) (selected asked holdings.items) ≡ true
unfolding selected
selected_formed config holdings asked kept =
    all-filter (has_known_records config) (passes asked) holdings.items
    (all-weaker (is_well_kept config holdings.sets) (has_known_records config) (kept_formed config holdings.sets) holdings.items kept.well)

-- the format that is found has the prefix
pub named : (prefix : List ℕ) (formats : List Format) (format : Format) → format_named prefix formats ≡ Some format → format.prefix ≡ prefix
unfolding format_named
named prefix [] format h = cc
named prefix (x ∷ formats) format h = by_test (bytes_eq x.prefix prefix) ((bytes_eq-Decides x.prefix prefix).0) h (named prefix formats format)
  where
    by_test : (b : Bool) → (b ≡ true → x.prefix ≡ prefix) → cond b (Some x) (find (λ (f : Format). bytes_eq f.prefix prefix) formats) ≡ Some format
        → (find (λ (f : Format). bytes_eq f.prefix prefix) formats ≡ Some format → format.prefix ≡ prefix) → format.prefix ≡ prefix
    by_test true same found later = let e : x ≡ format = cc in ap (λ (f : Format). f.prefix) (sym e) ∙ same refl
    by_test false same found later = later found

-- and is found by its own
found_again : (prefix : List ℕ) (formats : List Format) (format : Format) → format_named prefix formats ≡ Some format → is_some (format_named format.prefix formats) ≡ true
found_again prefix formats format is = ap (λ (p : List ℕ). is_some (format_named p formats)) (named prefix formats format is) ∙ ap is_some is

begun_by : (config : RepositoryConfig) (state : RepoState) (verb : ListVerb) (format : Format) (items : List ItemState) (wait : Option ℤ) → list_all (has_known_records config) items ≡ true
    → is_some (format_named format.prefix config.formats) ≡ true → wait_at config state.clock state.open_lists ≡ wait
    → IsBegunBy config state (opens_list config state.open_lists format (new_list config state.clock state.open_lists verb format.prefix items) wait)
begun_by config state verb format items (Some seconds) formed known is = nothing config state
begun_by config state verb format items None formed known is = record {
  effect = list_opened (new_list config state.clock state.open_lists verb format.prefix items);
  possible = record { admitted = is; number = refl; lasting = refl; formed = formed; known = known };
  done = refl;
}

told_by_items : (config : RepositoryConfig) (state : RepoState) (verb : ListVerb) (format : Format) (items : List ItemState) → list_all (has_known_records config) items ≡ true
    → is_some (format_named format.prefix config.formats) ≡ true → IsBegunBy config state (selection_response config state.clock state.open_lists verb format items)
unfolding selection_response
told_by_items config state verb format items formed known =
    cond_both (nat_le (length items) config.chunk) _ _ (λ (done : Response × OpenLists). IsBegunBy config state done)
    (λ _. nothing config state)
    (λ _. begun_by config state verb format items (wait_at config state.clock state.open_lists) formed known refl)

told_by_format : (config : RepositoryConfig) (state : RepoState) (verb : ListVerb) (prefix : List ℕ) (format : Option Format) (items : List ItemState) → format_named prefix config.formats ≡ format → list_all (has_known_records config) items ≡ true
    → IsBegunBy config state (format_response config state.clock state.open_lists verb format items)
told_by_format config state verb prefix None items is formed = nothing config state
told_by_format config state verb prefix (Some format) items is formed = told_by_items config state verb format items formed (found_again prefix config.formats format is)

listed : (config : RepositoryConfig) (state : RepoState) (verb : ListVerb) (prefix : List ℕ) (set : Option (List ℕ)) (items : List ItemState) → list_all (has_known_records config) items ≡ true
    → IsBegunBy config state (list_response config state.clock state.open_lists state.holdings.sets verb prefix set items)
listed config state verb prefix set items formed =
    cond_both (is_some set && has_no_sets state.holdings.sets) _ _ (λ (done : Response × OpenLists). IsBegunBy config state done)
    (λ _. nothing config state)
    (λ _. told_by_format config state verb prefix (format_named prefix config.formats) items refl formed)

continued : (config : RepositoryConfig) (state : RepoState) (verb : ListVerb) (cursor : ℕ) (found : Option FrozenList)
    → IsBegunBy config state (continued_response config state.clock state.open_lists verb cursor found)
continued config state verb cursor None = nothing config state
continued config state verb cursor (Some list) = record { effect = list_carried_on list.number (next_cursor config list cursor); possible = tt; done = refl }

resumed : (config : RepositoryConfig) (state : RepoState) (verb : ListVerb) (token : Option Token) → IsBegunBy config state (token_response config state.clock state.open_lists verb token)
resumed config state verb None = nothing config state
resumed config state verb (Some token) = continued config state verb token.cursor (list_continued config state.open_lists verb token)

answered : (config : RepositoryConfig) (state : RepoState) (request : AskOrError) → IsSound config state → IsBegunBy config state (request_response config state request)
answered config state bad_verb sound = nothing config state
answered config state bad_argument sound = nothing config state
answered config state (asks ask.Identify) sound = nothing config state
answered config state (asks (ask.Formats identifier)) sound = nothing config state
answered config state (asks ask.Sets) sound = nothing config state
answered config state (asks (ask.Get identifier prefix)) sound = nothing config state
answered config state (asks (ask.List verb prefix from until set)) sound =
    listed config state verb prefix set (selected (filter_of prefix from until set) state.holdings.items) (selected_formed config state.holdings (filter_of prefix from until set) sound.kept)
answered config state (asks (ask.Resume verb token)) sound = resumed config state verb (token_of token)

-- ---- what a change does

-- records have one in the format of the first, and in each in which the others have one
first_record : (x : Metadata) (records : List Metadata) → has_record x.0 (x ∷ records) ≡ true
unfolding record_named
first_record x records = rw ((bytes_eq-Decides x.0 x.0).1 refl) refl

later_record : (x : Metadata) (prefix : List ℕ) (records : List Metadata) → has_record prefix records ≡ true → has_record prefix (x ∷ records) ≡ true
unfolding record_named
later_record x prefix records h = by_test (bytes_eq x.0 prefix) h
  where
    by_test : (b : Bool) → is_some (find (λ (f : Metadata). bytes_eq f.0 prefix) records) ≡ true
        → is_some (cond b (Some x) (find (λ (f : Metadata). bytes_eq f.0 prefix) records)) ≡ true
    by_test true h = refl
    by_test false h = h

later_records : (x : Metadata) (records some : List Metadata) → list_all (λ (metadata : Metadata). has_record metadata.0 records) some ≡ true
    → list_all (λ (metadata : Metadata). has_record metadata.0 (x ∷ records)) some ≡ true
later_records x records [] h = refl
later_records x records (y ∷ some) h =
    let parts = and_parts (has_record y.0 records) (list_all (λ (metadata : Metadata). has_record metadata.0 records) some) h in
    and_from _ _ (later_record x y.0 records parts.0) (later_records x records some parts.1)

-- so they have one in each of their formats
has_own : (records : List Metadata) → list_all (λ (metadata : Metadata). has_record metadata.0 records) records ≡ true
has_own [] = refl
has_own (x ∷ records) = and_from _ _ (first_record x records) (later_records x records records (has_own records))

-- what is left of an item has a record in each format of the item
none_dropped : (records kept : List Metadata) → list_all (λ (metadata : Metadata). has_record metadata.0 records) kept ≡ true
    → list_all (λ (metadata : Metadata). has_record metadata.0 (map emptied records)) kept ≡ true
none_dropped records [] h = refl
none_dropped records (x ∷ kept) h =
    let parts = and_parts (has_record x.0 records) (list_all (λ (metadata : Metadata). has_record metadata.0 records) kept) h in
    and_from _ _ (emptied-record x.0 records ∙ parts.0) (none_dropped records kept parts.1)

-- a deleted item takes the place of a live one that is there
tombstone_put : (config : RepositoryConfig) (state : RepoState) (identifier : List ℕ) (item : ItemState) → config.deleted ≢ No → item_named identifier state.holdings.items ≡ Some item → item.live ≡ true
    → AreKept config state.holdings → MayBePut config state (tombstone_of (stamp_at config state.clock) item)
unfolding is_one_too_many
tombstone_put config state identifier item policy is live kept =
    let found : item_named item.identifier state.holdings.items ≡ Some item = ap (λ (id : List ℕ). item_named id state.holdings.items) (found_name identifier state.holdings.items item is) ∙ is in
    record {
      dated = refl;
      well = well-tombstone config state.holdings.sets (stamp_at config state.clock) item (of_found (is_well_kept config state.holdings.sets) identifier state.holdings.items item is kept.well);
      formats = ap (λ (o : Option ItemState). drops_format o (map emptied item.formats)) found ∙ ap not (none_dropped item.formats item.formats (has_own item.formats));
      room = ap (λ (o : Option ItemState). is_none o && nat_le config.items (length state.holdings.items)) found;
      dead = λ _. record { policy = policy; before = item; there = found; lived = live; left = refl };
    }

-- the holdings are others after a change, and nothing else is
abbrev pub IsChangedBy : RepositoryConfig → RepoState → Holdings → Type 0
IsChangedBy config state holdings = IsEffected config state (record state { holdings = holdings })

pub was_live : {A : Type 0} (cause : A) (live : Bool) → cond live None (Some cause) ≡ None → live ≡ true
was_live cause true h = refl
was_live cause false h = cc

buried_by : (config : RepositoryConfig) (state : RepoState) (identifier : List ℕ) (found : Option ItemState) → config.deleted ≢ No → item_named identifier state.holdings.items ≡ found → dead_refusal found ≡ None → AreKept config state.holdings
    → IsEffected config state (holding state (with_tombstone (stamp_at config state.clock) found state.holdings.items))
buried_by config state identifier None policy is dead kept = nothing config state
buried_by config state identifier (Some item) policy is dead kept = record {
  effect = item_put (tombstone_of (stamp_at config state.clock) item);
  possible = tombstone_put config state identifier item policy is (was_live AlreadyDeleted item.live dead) kept;
  done = refl;
}

keeps_transient : Transient ≡ No → ⊥
keeps_transient same = cc

keeps_persistent : Persistent ≡ No → ⊥
keeps_persistent same = cc

deleted_by : (config : RepositoryConfig) (state : RepoState) (identifier : List ℕ) (policy : DeletedRecord) → config.deleted ≡ policy → dead_refusal (item_named identifier state.holdings.items) ≡ None → AreKept config state.holdings
    → IsEffected config state (holding state (after_deletion policy (stamp_at config state.clock) identifier state.holdings.items))
deleted_by config state identifier No is dead kept = record { effect = item_taken identifier; possible = is; done = refl }
deleted_by config state identifier Transient is dead kept = buried_by config state identifier (item_named identifier state.holdings.items) (λ none. keeps_transient (sym is ∙ none)) refl dead kept
deleted_by config state identifier Persistent is dead kept = buried_by config state identifier (item_named identifier state.holdings.items) (λ none. keeps_persistent (sym is ∙ none)) refl dead kept

deposited_by : (config : RepositoryConfig) (state : RepoState) (identifier : List ℕ) (sets : List (List ℕ)) (records : List GivenRecord)
    → deposit_refusal config state.holdings.sets sets records ≡ None
    → item_refusal config (item_named identifier state.holdings.items) (length state.holdings.items) (live_item identifier (stamp_at config state.clock) (reduced sets) (map as_kept records)) ≡ None
    → MayBePut config state (live_item identifier (stamp_at config state.clock) (reduced sets) (map as_kept records))
deposited_by config state identifier sets records first later =
    let stamp : ℤ = stamp_at config state.clock in
    let fit = fits config (item_named identifier state.holdings.items) (length state.holdings.items) (live_item identifier stamp (reduced sets) (map as_kept records)) later in
    record {
      dated = refl;
      well = well-deposited config state.holdings identifier stamp sets records (stands config state.holdings.sets sets records first) fit;
      formats = fit.formats;
      room = fit.room;
      dead = λ dead. cc;
    }

pub of_transient : (policy : DeletedRecord) → is_transient policy ≡ true → policy ≡ Transient
of_transient No h = cc
of_transient Transient h = refl
of_transient Persistent h = cc

pub not_not : (b : Bool) → not b ≡ false → b ≡ true
not_not true h = refl
not_not false h = cc

purged_by : (config : RepositoryConfig) (state : RepoState) (limit : Option ℤ) → config.deleted ≡ Transient → is_none limit ≡ false
    → IsEffected config state (holding state (after_purge limit state.holdings.items))
unfolding purged
purged_by config state None policy some = cc
purged_by config state (Some limit) policy some = record { effect = items_purged limit; possible = policy; done = refl }

purge_by : (config : RepositoryConfig) (state : RepoState) (before : List ℕ) → purge_refusal config before ≡ None
    → IsEffected config state (holding state (after_purge (limit_of config.granularity before) state.holdings.items))
unfolding purge_refusal
purge_by config state before none =
    let first = passed (not (is_transient config.deleted)) NotTransient _ none in
    let later = passed (is_none (limit_of config.granularity before)) BadDate _ first.1 in
    purged_by config state (limit_of config.granularity before) (of_transient config.deleted (not_not (is_transient config.deleted) first.0)) later.0

changed_by : (config : RepositoryConfig) (state : RepoState) (asked : Change) → refusal_of config (stamp_at config state.clock) state.holdings asked ≡ None → AreKept config state.holdings
    → IsChangedBy config state (changed config (stamp_at config state.clock) state.holdings asked)
unfolding refusal_of changed
changed_by config state (change.Deposit identifier sets records) none kept =
    let item : ItemState = live_item identifier (stamp_at config state.clock) (reduced sets) (map as_kept records) in
    let causes = no_cause (deposit_refusal config state.holdings.sets sets records) (item_refusal config (item_named identifier state.holdings.items) (length state.holdings.items) item) none in
    record { effect = item_put item; possible = deposited_by config state identifier sets records causes.0 causes.1; done = refl }
changed_by config state (change.Put identifier sets records) none kept = by_test (is_held_so item (item_named identifier state.holdings.items))
  where
    item : ItemState
    item = live_item identifier (stamp_at config state.clock) (reduced sets) (map as_kept records)

    by_test : (b : Bool) → IsChangedBy config state (record state.holdings { items = cond b state.holdings.items (with_new item state.holdings.items) })
    by_test true = record { effect = unchanged; possible = tt; done = refl }
    by_test false =
        let causes = no_cause (deposit_refusal config state.holdings.sets sets records) (item_refusal config (item_named identifier state.holdings.items) (length state.holdings.items) item) none in
        record { effect = item_put item; possible = deposited_by config state identifier sets records causes.0 causes.1; done = refl }
changed_by config state (change.Delete identifier) none kept =
    let found : Option ItemState = item_named identifier state.holdings.items in
    deleted_by config state identifier config.deleted refl (no_cause (missing_refusal found) (dead_refusal found) none).1 kept
changed_by config state (change.Purge before) none kept = purge_by config state before none
changed_by config state (change.AddSet spec name) none kept = record { effect = set_added (spec, name); possible = none; done = refl }

acted_by : (config : RepositoryConfig) (state : RepoState) (asked : Change) (refusal : Option ChangeRefusal) → refusal_of config (stamp_at config state.clock) state.holdings asked ≡ refusal → AreKept config state.holdings
    → IsEffected config state (act_on_change config state (stamp_at config state.clock) asked refusal).1
acted_by config state asked (Some cause) is kept = nothing config state
acted_by config state asked None is kept = changed_by config state asked is kept

-- each command does one of these to the state
pub effect_of : (config : RepositoryConfig) (state : RepoState) (command : Command) → IsSound config state → IsEffected config state (act config state command).1
unfolding act
effect_of config state (requesting request) sound = answered config state request sound
effect_of config state (changing asked) sound = acted_by config state asked (refusal_of config (stamp_at config state.clock) state.holdings asked) refl sound.kept
effect_of config state (rejecting cause) sound = nothing config state

-- so a command leaves a sound state
pub sound_act : (config : RepositoryConfig) (state : RepoState) (command : Command) → IsSound config state → IsSound config (act config state command).1
sound_act config state command sound =
    let done = effect_of config state command sound in
    subst (IsSound config) (sym done.done) (sound_effected config state done.effect done.possible sound)
