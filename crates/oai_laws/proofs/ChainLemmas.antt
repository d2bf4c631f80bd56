-- A chain from its first request on, among all that is asked of a repository.
use Rattle.std.proofs.Common.{◌≡◌, ◌≢◌, ◌∙◌, inl, inr, ℕ, ℤ, pos, ◌+ℤ◌, ◌<◌, ◌≤◌, ◌^◌, Bool, true, false, ◌&&◌, List, [], ◌∷◌, ◌++◌, length, append-nil, Option, None, Some, is_some, refl, sym, ap, subst, arith}
use Rattle.std.specs.Prelude.{nat_le}
use Rattle.std.specs.List.{list_all}
use Rattle.std.proofs.lemmas.Bool.{and_from, and_parts, cond-false, false≢true, lt-leb, true≢false}
use Rattle.std.proofs.lemmas.Bool.Decides.{nat_tests}
use Rattle.std.proofs.lemmas.List.Folds.{list_all-append}
use native.Mathlib.Nat.{zero-mod}
use Rattle.oai_names.specs.Sets.{HasSetsAbove, has_set}
use Rattle.oai_names.specs.declared.list_verbs.ListVerb.{ListVerb}
use Rattle.oai_item.specs.Formats.{format_named}
use Rattle.oai_item.specs.Item.{ItemState}
use Rattle.oai_item.specs.Items.{are_apart, is_apart}
use Rattle.oai_item.specs.Order.{are_in_order, precedes}
use Rattle.oai_item.specs.Selection.{Filter, passes, selected}
use Rattle.oai_item.specs.declared.formats.Format.{Format}
use Rattle.oai_item.proofs.OrderLemmas.{apart-filter}
use Rattle.oai_item.proofs.Selecting.{in_order-selected}
use Rattle.oai_args.specs.Asks.{asks}
use Rattle.oai_args.specs.declared.requests.Ask.TheVariants as ask
use Rattle.oai_answers.specs.Answers.{Page, fails}
use Rattle.oai_answers.specs.declared.errors.ErrorCode.TheVariants.{NoSetHierarchy}
use Rattle.oai_repo.specs.Answers.{filter_of}
use Rattle.oai_settings.specs.Config.{IsConfig, RepositoryConfig, are_limits, is_chunk, is_items, is_lifetime, is_lists}
use Rattle.oai_laws.specs.Effects.{IsSound}
use Rattle.oai_args.specs.Verbs.{is_of_records}
use Rattle.oai_laws.specs.Following.{AreNext, answer_in, IsChain, IsFollowedThrough, ListQuery, first_request, is_later, joined, selection_in}
use Rattle.oai_holdings.specs.Kept.{AreKept}
use Rattle.oai_repo.specs.Listing.{answer_by_verb, request_response, opens_list, has_no_sets, new_list, part_from, with_answer, format_response, selection_response, complete_answer, wait_at}
use Rattle.oai_repo.specs.Machine.{Command, act}
use Rattle.oai_laws.specs.Runs.{IsPart, Timed, Transition, performed, run}
use Rattle.oai_holdings.specs.Holdings.{Holdings, NamedSet}
use Rattle.oai_repo.specs.State.{FrozenList, OpenLists, RepoState, empty_state, moved}
use Rattle.oai_laws.proofs.EffectLemmas.{named, sound_act, sound_empty, sound_moved}
use Rattle.oai_laws.proofs.FollowLemmas.{Followed, IsGood, asked_page, first_given, follow, asked_later}
use Rattle.oai_holdings.proofs.KeptLemmas.{at_most}
use Rattle.oai_repo.proofs.SelectionLemmas.{unknown_format, unknown_set}
use Rattle.oai_laws.proofs.StandLemmas.{Stands, stands_opened}

-- ---- what is selected

-- where many are selected, some are
empty_few : (items : List ItemState) (chunk : ℕ) → chunk < length items → items ≡ [] → ⊥
empty_few items chunk many none = absurd (omega (arith, many, ap length none))

-- where records are selected in a set, there are sets
pub sets_there : (config : RepositoryConfig) (holdings : Holdings) (prefix : List ℕ) (from until set : Option (List ℕ)) (sets : List NamedSet) → holdings.sets ≡ sets → AreKept config holdings
    → selected (filter_of prefix from until set) holdings.items ≢ [] → (is_some set && has_no_sets sets) ≡ false
sets_there config holdings prefix from until None sets is kept some = refl
sets_there config holdings prefix from until (Some set) (x ∷ sets) is kept some = refl
sets_there config holdings prefix from until (Some set) [] is kept some =
    let none = unknown_set config holdings prefix from until set kept above (ap (λ (sets : List NamedSet). has_set sets set) is) in
    absurd (some none)
  where
    above : HasSetsAbove holdings.sets
    above a spec there lies = absurd (false≢true (sym (ap (λ (sets : List NamedSet). has_set sets spec) is) ∙ there))

-- where records are selected in a format, the repository has it
pub format_there : (config : RepositoryConfig) (holdings : Holdings) (prefix : List ℕ) (from until set : Option (List ℕ)) (format : Option Format) → format_named prefix config.formats ≡ format → AreKept config holdings
    → selected (filter_of prefix from until set) holdings.items ≢ [] → (f : Format) × (format_named prefix config.formats ≡ Some f)
format_there config holdings prefix from until set (Some format) is kept some = (format, is)
format_there config holdings prefix from until set None is kept some = absurd (some (unknown_format config holdings prefix from until set kept is))

-- no more are selected than a repository may hold
few_selected : (config : RepositoryConfig) (holdings : Holdings) (asked : Filter) → IsConfig config → AreKept config holdings → length (selected asked holdings.items) < 2 ^ 64
unfolding selected are_limits
few_selected config holdings asked good kept =
    let limits = and_parts (is_chunk config.chunk && is_lifetime config.lifetime && is_lists config.lists) (is_items config.items) good.limited in
    few (length (selected asked holdings.items)) (length holdings.items) config.items (at_most (passes asked) holdings.items) kept.few limits.1
  where
    few : (some all most : ℕ) → some ≤ all → all ≤ most → is_items most ≡ true → some < 2 ^ 64
    few some all most part within limit = grind (arith, nat_tests)

-- a part may have some records
pub some_in_part : (config : RepositoryConfig) → IsConfig config → 1 ≤ config.chunk
unfolding are_limits
some_in_part config good =
    let limits = and_parts (is_chunk config.chunk && is_lifetime config.lifetime && is_lists config.lists) (is_items config.items) good.limited in
    let fewer = and_parts (is_chunk config.chunk && is_lifetime config.lifetime) (is_lists config.lists) limits.0 in
    some config.chunk (and_parts (is_chunk config.chunk) (is_lifetime config.lifetime) fewer.0).0
  where
    some : (n : ℕ) → is_chunk n ≡ true → 1 ≤ n
    some n h = grind (arith, nat_tests)

-- ---- the first request

-- the list that a first request opens
record IsFirst (config : RepositoryConfig) (state : RepoState) (command : Command) (list_request : ListQuery) : Type 0 where
  pub list : FrozenList
  pub good : IsGood config list
  pub verb : list.verb ≡ list_request.verb
  pub items : list.items ≡ selection_in state list_request
  pub known : format_named list_request.prefix config.formats ≡ Some good.format
  pub told : answer_in (act config state command).0 ≡ Some (answer_by_verb list.verb good.format (part_from config list 0))
  pub stands : Stands config list (act config state command).1
  pub lasting : list.end ≡ state.clock +ℤ pos config.lifetime
  pub given : list.given ≡ config.chunk

-- it is told to wait, or opens the list
by_wait : (config : RepositoryConfig) (state : RepoState) (command : Command) (list_request : ListQuery) (format : Format) (wait : Option ℤ) → wait_at config state.clock state.open_lists ≡ wait
    → IsConfig config → IsSound config state → is_of_records list_request.verb ≡ true → format_named list_request.prefix config.formats ≡ Some format → command ≡ first_request list_request → is_later (act config state command).0 ≡ false
    → request_response config state (asks (ask.List list_request.verb list_request.prefix list_request.from list_request.until list_request.set))
    ≡ opens_list config state.open_lists format (new_list config state.clock state.open_lists list_request.verb format.prefix (selection_in state list_request)) wait
    → IsFirst config state command list_request
by_wait config state command list_request format (Some seconds) wait good sound verb known is answered said =
    absurd (true≢false (sym (asked_later config state command _ seconds state.open_lists is said) ∙ answered))
by_wait config state command list_request format None wait good sound verb known is answered said =
    let list : FrozenList = new_list config state.clock state.open_lists list_request.verb format.prefix (selection_in state list_request) in
    let done = asked_page config state command _ _ _ is said in
    record {
      list = list;
      good = record {
        format = format;
        verb = verb;
        known = ap (λ (p : List ℕ). format_named p config.formats) (named list_request.prefix config.formats format known) ∙ known;
        small = few_selected config state.holdings (filter_of list_request.prefix list_request.from list_request.until list_request.set) good sound.kept;
        part = some_in_part config good;
      };
      verb = refl;
      items = refl;
      known = known;
      told = done.0;
      stands = subst (Stands config list) (sym done.1) (stands_opened config state list sound refl refl);
      lasting = refl;
      given = refl;
    }

-- a list that is too long for one page begins, where it may
told_long : (config : RepositoryConfig) (clock : ℤ) (open_lists : OpenLists) (verb : ListVerb) (format : Format) (items : List ItemState) → config.chunk < length items
    → selection_response config clock open_lists verb format items ≡ opens_list config open_lists format (new_list config clock open_lists verb format.prefix items) (wait_at config clock open_lists)
unfolding selection_response
told_long config clock open_lists verb format items many =
    cond-false (nat_le (length items) config.chunk) (with_answer (complete_answer config verb format items), open_lists) (opens_list config open_lists format (new_list config clock open_lists verb format.prefix items) (wait_at config clock open_lists))
    (lt-leb (length items) config.chunk many)

first_turn : (config : RepositoryConfig) (state : RepoState) (command : Command) (list_request : ListQuery) → IsConfig config → IsSound config state → is_of_records list_request.verb ≡ true → command ≡ first_request list_request
    → config.chunk < length (selection_in state list_request) → is_later (act config state command).0 ≡ false → IsFirst config state command list_request
first_turn config state command list_request good sound verb is many answered =
    let items : List ItemState = selection_in state list_request in
    let some : items ≢ [] = λ none. empty_few items config.chunk many none in
    let format = format_there config state.holdings list_request.prefix list_request.from list_request.until list_request.set (format_named list_request.prefix config.formats) refl sound.kept some in
    by_wait config state command list_request format.0 (wait_at config state.clock state.open_lists) refl good sound verb format.1 is answered
    (
    cond-false (is_some list_request.set && has_no_sets state.holdings.sets) (with_answer (fails NoSetHierarchy), state.open_lists)
    (format_response config state.clock state.open_lists list_request.verb (format_named list_request.prefix config.formats) items)
    (sets_there config state.holdings list_request.prefix list_request.from list_request.until list_request.set state.holdings.sets refl sound.kept some)
    ∙ ap (λ (f : Option Format). format_response config state.clock state.open_lists list_request.verb f items) format.1
    ∙ told_long config state.clock state.open_lists list_request.verb format.0 items many
    )

-- ---- the whole chain

-- the front of a list in order is in order, and apart
front_all : (p : ItemState → Bool) (front others : List ItemState) → list_all p (front ++ others) ≡ true → list_all p front ≡ true
front_all p front others h = (and_parts (list_all p front) (list_all p others) (sym (list_all-append p front others) ∙ h)).0

front_ordered : (front others : List ItemState) → are_in_order (front ++ others) ≡ true → are_in_order front ≡ true
front_ordered [] others h = refl
front_ordered (x ∷ front) others h =
    let parts = and_parts (list_all (precedes x) (front ++ others)) (are_in_order (front ++ others)) h in
    and_from (list_all (precedes x) front) (are_in_order front) (front_all (precedes x) front others parts.0) (front_ordered front others parts.1)

front_apart : (front others : List ItemState) → are_apart (front ++ others) ≡ true → are_apart front ≡ true
front_apart [] others h = refl
front_apart (x ∷ front) others h =
    let parts = and_parts (list_all (is_apart x) (front ++ others)) (are_apart (front ++ others)) h in
    and_from (list_all (is_apart x) front) (are_apart front) (front_all (is_apart x) front others parts.0) (front_apart front others parts.1)

selected_apart : (asked : Filter) (items : List ItemState) → are_apart items ≡ true → are_apart (selected asked items) ≡ true
unfolding selected
selected_apart asked items h = apart-filter (passes asked) items h

-- what the pages of a list from its first record on are
whole_list : (config : RepositoryConfig) (state : RepoState) (list_request : ListQuery) (format : Format) (exchanges : List Transition) → AreKept config state.holdings → format_named list_request.prefix config.formats ≡ Some format
    → Followed config list_request.verb format (selection_in state list_request) 0 exchanges
    → (pages : List Page) × IsFollowedThrough config list_request (selection_in state list_request) exchanges pages
whole_list config state list_request format exchanges kept known followed =
    let asked : Filter = filter_of list_request.prefix list_request.from list_request.until list_request.set in
    let pages : List Page = followed.0 in
    let told = followed.1 in (
      pages,
      record {
        format = format;
        known = known;
        told = told.told;
        placed = told.placed;
        lasting = told.lasting;
        begun = (told.others, told.front);
        complete = λ ends. sym (append-nil (joined pages)) ∙ ap (λ ys. joined pages ++ ys) (sym (told.complete ends)) ∙ told.front;
        ordered = front_ordered (joined pages) told.others (ap are_in_order told.front ∙ in_order-selected asked state.holdings.items kept.ordered);
        apart = front_apart (joined pages) told.others (ap are_apart told.front ∙ selected_apart asked state.holdings.items kept.apart);
      },
    )

-- an exchange that begins a chain, and those behind it
chain_here : (config : RepositoryConfig) (state : RepoState) (timed : Timed) (commands : List Timed) (list_request : ListQuery) (others : List Transition) → IsConfig config → IsSound config state
    → IsPart others (run config (performed config state timed).left commands) → is_of_records list_request.verb ≡ true → timed.command ≡ first_request list_request
    → config.chunk < length (selection_in (moved timed.moment state) list_request) → is_later (performed config state timed).outcome ≡ false → AreNext list_request.verb (performed config state timed) others
    → (pages : List Page) × IsFollowedThrough config list_request (selection_in (moved timed.moment state) list_request) (performed config state timed ∷ others) pages
chain_here config state timed commands list_request others good sound part verb is many answered next =
    let found : RepoState = moved timed.moment state in
    let exchange : Transition = performed config state timed in
    let sound_found = sound_moved config timed.moment state sound in
    let begun = first_turn config found timed.command list_request good sound_found verb is many answered in
    let within : 0 < length begun.list.items = omega (arith, many, ap length begun.items) in
    let followed = follow config commands exchange.left begun.list 0 exchange others begun.good (sound_act config found timed.command sound_found) begun.stands within (zero-mod config.chunk) (λ _. first_given config begun.list begun.given) begun.told begun.lasting part
    (subst (λ (v : ListVerb). AreNext v exchange others) (sym begun.verb) next)
    in
    whole_list config found list_request begun.good.format (exchange ∷ others) sound_found.kept begun.known
    (subst (λ (items : List ItemState). Followed config list_request.verb begun.good.format items 0 (exchange ∷ others)) begun.items
    (subst (λ (v : ListVerb). Followed config v begun.good.format begun.list.items 0 (exchange ∷ others)) begun.verb followed))

chain_at : (config : RepositoryConfig) (state : RepoState) (timed : Timed) (commands : List Timed) (list_request : ListQuery) (first : Transition) (others : List Transition) → first ≡ performed config state timed
    → IsConfig config → IsSound config state → IsPart others (run config (performed config state timed).left commands) → is_of_records list_request.verb ≡ true → first.command ≡ first_request list_request
    → config.chunk < length (selection_in first.found list_request) → is_later first.outcome ≡ false → AreNext list_request.verb first others
    → (pages : List Page) × IsFollowedThrough config list_request (selection_in first.found list_request) (first ∷ others) pages
chain_at config state timed commands list_request first others is good sound part verb asked many answered next =
    let shown = chain_here config state timed commands list_request others good sound part verb
    (subst (λ (e : Transition). e.command ≡ first_request list_request) is asked)
    (subst (λ (e : Transition). config.chunk < length (selection_in e.found list_request)) is many)
    (subst (λ (e : Transition). is_later e.outcome ≡ false) is answered)
    (subst (λ (e : Transition). AreNext list_request.verb e others) is next)
    in
    subst (λ (e : Transition). (pages : List Page) × IsFollowedThrough config list_request (selection_in e.found list_request) (e ∷ others) pages) (sym is) shown

-- wherever it begins
chain_from : (config : RepositoryConfig) (commands : List Timed) (state : RepoState) (list_request : ListQuery) (first : Transition) (others : List Transition) → IsConfig config → IsSound config state
    → IsPart (first ∷ others) (run config state commands) → is_of_records list_request.verb ≡ true → first.command ≡ first_request list_request
    → config.chunk < length (selection_in first.found list_request) → is_later first.outcome ≡ false → AreNext list_request.verb first others
    → (pages : List Page) × IsFollowedThrough config list_request (selection_in first.found list_request) (first ∷ others) pages
chain_from config [] state list_request first others good sound none verb asked many answered next = cc
chain_from config (timed ∷ commands) state list_request first others good sound (inl part) verb asked many answered next =
    chain_from config commands (act config (moved timed.moment state) timed.command).1 list_request first others good
    (sound_act config (moved timed.moment state) timed.command (sound_moved config timed.moment state sound)) part verb asked many answered next
chain_from config (timed ∷ commands) state list_request first others good sound (inr here) verb asked many answered next =
    let later : RepoState = (performed config state timed).left in
    let is : first ∷ others ≡ performed config state timed ∷ here.0 = here.1 in
    let first_is : first ≡ performed config state timed = cc in
    let others_are : others ≡ here.0 = cc in
    let part : IsPart others (run config later commands) = subst (λ (es : List Transition). IsPart es (run config later commands)) (sym others_are) here.2 in
    chain_at config state timed commands list_request first others first_is good sound part verb asked many answered next

pub chain_followed : (config : RepositoryConfig) (commands : List Timed) (state : RepoState) (list_request : ListQuery) (first : Transition) (others : List Transition) → IsConfig config → IsSound config state
    → IsChain config (run config state commands) list_request first others → (pages : List Page) × IsFollowedThrough config list_request (selection_in first.found list_request) (first ∷ others) pages
chain_followed config commands state list_request first others good sound chain =
    chain_from config commands state list_request first others good sound chain.among chain.verb chain.asked chain.long chain.answered chain.next

-- and whatever was asked of a repository from its beginning on
pub following : (config : RepositoryConfig) (commands : List Timed) (list_request : ListQuery) (first : Transition) (others : List Transition) → IsConfig config
    → IsChain config (run config (empty_state config) commands) list_request first others → (pages : List Page) × IsFollowedThrough config list_request (selection_in first.found list_request) (first ∷ others) pages
following config commands list_request first others good chain = chain_followed config commands (empty_state config) list_request first others good (sound_empty config) chain
