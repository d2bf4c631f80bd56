-- A token that was handed out in one era is refused in every later one: the numbers of an era's lists are below those of the eras behind it.
use Rattle.std.proofs.Common.{◌≡◌, ◌∙◌, inl, inr, ℕ, ℤ, ◌+◌, ◌*◌, ◌<◌, ◌≤◌, ◌^◌, Bool, true, not, ◌&&◌, decimal, List, [], ◌∷◌, ◌++◌, length, take, map, Option, None, Some, is_some, refl, sym, ap, subst, arith}
use Rattle.std.specs.Prelude.{find, nat_le, nat_lt}
use Rattle.std.specs.List.{AllByRecursion, before_first, list_all, position_or_len}
use Rattle.std.specs.Str.Parse.{digits_value}
use Rattle.std.proofs.lemmas.Bool.{and_from, and_parts, cond_both, cond-true, leb-true, le-leb, ltb-true}
use Rattle.std.proofs.lemmas.Fmt.{decimal_is_IsNumeral}
use Rattle.std.proofs.lemmas.List.Folds.{list_all-append}
use Rattle.oai_names.proofs.Lists.{all-filter}
use Rattle.oai_names.specs.declared.list_verbs.ListVerb.{ListVerb}
use Rattle.oai_names.specs.declared.list_verbs.ListVerb.TheVariants as list
use Rattle.oai_item.specs.Formats.{format_named}
use Rattle.oai_item.specs.Item.{ItemState, has_record}
use Rattle.oai_item.specs.Items.{item_named}
use Rattle.oai_item.specs.Selection.{selected}
use Rattle.oai_item.specs.declared.formats.Format.{Format}
use Rattle.oai_item.specs.declared.refusals.ChangeRefusal.{ChangeRefusal}
use Rattle.oai_deposit.specs.declared.changes.Change.{Change}
use Rattle.oai_lists.specs.Tokens.{is_full_stop, token_numbers, token_of, token_text}
use Rattle.oai_lists.specs.declared.lists.TheConstants.{LAST_NUMBER}
use Rattle.oai_lists.specs.declared.tokens.Token.{Token}
use Rattle.oai_lists.proofs.Stops.{is_other, no_stop}
use Rattle.oai_args.specs.Asks.{AskOrError, asks, bad_verb, bad_argument}
use Rattle.oai_args.specs.declared.requests.Ask.TheVariants as ask
use Rattle.oai_answers.specs.Answers.{Attributes, Continuation, Page, VerbAnswer, completes, fails, remains}
use Rattle.oai_answers.specs.declared.errors.ErrorCode.TheVariants.{BadResumptionToken}
use Rattle.oai_settings.specs.Config.{IsConfig, RepositoryConfig}
use Rattle.oai_repo.specs.Answers.{arguments_of_request, disseminated, filter_of, formats_answer, item_formats_answer, record_answer, sets_answer}
use Rattle.oai_holdings.specs.Changes.{refusal_of, stamp_at}
use Rattle.oai_repo.specs.Listing.{Response, answer_by_verb, carried_on_at, complete_answer, continued_response, format_response, has_no_sets, is_continued, is_of_number, items_from, extent_at, new_list, opens_list, part_answer, part_from, prolonged, request_response, selection_response, token_response, wait_at, where_continued, with_answer}
use Rattle.oai_repo.specs.Machine.{Command, Outcome, act, act_on_change, changing, outcome_of, rejecting, requesting}
use Rattle.oai_repo.specs.Saved.{ended}
use Rattle.oai_repo.specs.State.{FrozenList, OpenLists, RepoState, is_open_at, moved}
use Rattle.oai_laws.specs.Effects.{Effect, IsPossible, IsSound, effected, is_given, item_put, item_taken, items_purged, list_carried_on, list_opened, set_added, unchanged}
use Rattle.oai_laws.specs.Eras.{AreEnded, AreOldTokensRefused, Era, HaveNumbers, left_behind, left_by_era, runs}
use Rattle.oai_laws.specs.Following.{IsOffered, TokenOffer, WasOffered, answer_in, next_request, offer_in, page_in, page_shown}
use Rattle.oai_laws.specs.Runs.{Throughout, Timed, Transition, performed, run}
use Rattle.oai_laws.proofs.EffectLemmas.{effect_of, same_number, sound_act, sound_moved}
use Rattle.oai_laws.proofs.EndedLemmas.{sound_ended}
use Rattle.oai_laws.proofs.OfferLemmas.{AreHanded, resumed_given, text_at}
use Rattle.oai_laws.proofs.StandLemmas.{of_found}
use Rattle.oai_laws.proofs.TokenLemmas.{tokens_shown}

-- ---- the number in a token

-- the number of a list with which the text of a token begins
abbrev number_in : List ℕ → ℕ
number_in text = (token_numbers text).list

first_stop : (front rest : List ℕ) → list_all is_other front ≡ true → position_or_len is_full_stop (front ++ 46 ∷ rest) ≡ length front
first_stop [] rest h = refl
first_stop (b ∷ front) rest h =
    let parts = and_parts (is_other b) (list_all is_other front) h in
    let n : ℕ = position_or_len is_full_stop (front ++ 46 ∷ rest) in
    cond-true (not (is_full_stop b)) (1 + n) 0 parts.0 ∙ ap (λ m. 1 + m) (first_stop front rest parts.1) ∙ omega arith

take_front : (front rest : List ℕ) → take (length front) (front ++ 46 ∷ rest) ≡ front
take_front [] rest = refl
take_front (b ∷ front) rest = ap (λ ys. b ∷ ys) (take_front front rest)

number_at : (number cursor : ℕ) → number < 2 ^ 64 → number_in (text_at number cursor) ≡ number
unfolding token_text
number_at number cursor small =
    let front : before_first is_full_stop (text_at number cursor) ≡ decimal number =
    ap (λ k. take k (text_at number cursor)) (first_stop (decimal number) (decimal cursor) (no_stop number small)) ∙ take_front (decimal number) (decimal cursor)
    in
    ap (digits_value 10) front ∙ (decimal_is_IsNumeral number small).1

-- ---- what is offered has a number that was given

-- the page offers no token but of a number below that one
abbrev OffersBelow : ℕ → Page → Type 0
OffersBelow next page = (offer : TokenOffer) → offer_in page.continuation ≡ Some offer → number_in offer.token < next

-- nor does what is answered with the page
abbrev ShowsBelow : ℕ → Outcome → Type 0
ShowsBelow next outcome = (page : Page) → page_shown outcome ≡ Some page → OffersBelow next page

-- below the number of the next list, once that is the response
abbrev HandsBelow : RepositoryConfig → ℤ → Attributes → Response × OpenLists → Type 0
HandsBelow config clock asked done = ShowsBelow done.1.next (outcome_of config clock asked done.0)

part_below : (config : RepositoryConfig) (list : FrozenList) (cursor next : ℕ) → list.number < 2 ^ 64 → list.number < next → OffersBelow next (part_from config list cursor)
unfolding part_from
part_below config list cursor next small below =
    let behind : ℕ = cursor + length (items_from config list cursor) in
    cond_both (nat_lt behind (length list.items)) (remains list.end (extent_at list cursor) (text_at list.number behind)) (completes (extent_at list cursor))
    (λ (c : Continuation). (offer : TokenOffer) → offer_in c ≡ Some offer → number_in offer.token < next)
    (λ _ offer offered.
    let own : TokenOffer = record { token = text_at list.number behind; expires = list.end } in
    let same : Some own ≡ Some offer = offered in
    let is : own ≡ offer = cc in
    subst (λ (n : ℕ). n < next) (sym (number_at list.number behind small) ∙ ap (λ (o : TokenOffer). number_in o.token) is) below)
    (λ _ offer offered. cc)

page_below : (config : RepositoryConfig) (clock : ℤ) (asked : Attributes) (verb : ListVerb) (format : Format) (page : Page) (next : ℕ) → OffersBelow next page
    → ShowsBelow next (outcome_of config clock asked (with_answer (answer_by_verb verb format page)))
page_below config clock asked list.Identifiers format page next below = λ its told. let is : page ≡ its = cc in subst (OffersBelow next) is below
page_below config clock asked list.Records format page next below = λ its told. let is : page ≡ its = cc in subst (OffersBelow next) is below
page_below config clock asked list.Sets format page next below = λ its told. cc

answered_below : (config : RepositoryConfig) (clock : ℤ) (asked : Attributes) (verb : ListVerb) (format : Option Format) (page : Page) (next : ℕ) → OffersBelow next page
    → ShowsBelow next (outcome_of config clock asked (with_answer (part_answer verb format page)))
answered_below config clock asked verb None page next below = λ its told. cc
answered_below config clock asked verb (Some format) page next below = page_below config clock asked verb format page next below

whole_below : (config : RepositoryConfig) (clock : ℤ) (asked : Attributes) (verb : ListVerb) (format : Format) (items : List ItemState) (next : ℕ)
    → ShowsBelow next (outcome_of config clock asked (with_answer (complete_answer config verb format items)))
whole_below config clock asked verb format [] next = λ its told. cc
whole_below config clock asked verb format (item ∷ items) next = page_below config clock asked verb format _ next (λ offer offered. cc)

begun_below : (config : RepositoryConfig) (clock : ℤ) (asked : Attributes) (open_lists : OpenLists) (format : Format) (list : FrozenList) (wait : Option ℤ) → open_lists.next ≤ LAST_NUMBER → list.number ≡ open_lists.next
    → HandsBelow config clock asked (opens_list config open_lists format list wait)
begun_below config clock asked open_lists format list (Some seconds) few is = λ its told. cc
begun_below config clock asked open_lists format list None few is =
    page_below config clock asked list.verb format (part_from config list 0) (open_lists.next + 1) (part_below config list 0 (open_lists.next + 1) (omega (arith, few, is)) (omega (arith, is)))

items_below : (config : RepositoryConfig) (clock : ℤ) (asked : Attributes) (open_lists : OpenLists) (verb : ListVerb) (format : Format) (items : List ItemState) → open_lists.next ≤ LAST_NUMBER
    → HandsBelow config clock asked (selection_response config clock open_lists verb format items)
unfolding selection_response
items_below config clock asked open_lists verb format items few =
    cond_both (nat_le (length items) config.chunk) _ _ (λ (done : Response × OpenLists). HandsBelow config clock asked done)
    (λ _. whole_below config clock asked verb format items open_lists.next)
    (λ _. begun_below config clock asked open_lists format (new_list config clock open_lists verb format.prefix items) (wait_at config clock open_lists) few refl)

format_below : (config : RepositoryConfig) (clock : ℤ) (asked : Attributes) (open_lists : OpenLists) (verb : ListVerb) (format : Option Format) (items : List ItemState) → open_lists.next ≤ LAST_NUMBER
    → HandsBelow config clock asked (format_response config clock open_lists verb format items)
format_below config clock asked open_lists verb None items few = λ its told. cc
format_below config clock asked open_lists verb (Some format) items few = items_below config clock asked open_lists verb format items few

found_below : (config : RepositoryConfig) (clock : ℤ) (asked : Attributes) (open_lists : OpenLists) (verb : ListVerb) (token : Token) (found : Option FrozenList) → open_lists.next ≤ LAST_NUMBER
    → ((list : FrozenList) → found ≡ Some list → is_given open_lists.next list ≡ true)
    → HandsBelow config clock asked (continued_response config clock open_lists verb token.cursor (where_continued config verb token found))
found_below config clock asked open_lists verb token None few given = λ its told. cc
found_below config clock asked open_lists verb token (Some list) few given =
    cond_both (is_continued config.chunk verb token list.verb (length list.items) list.given) (Some list) None (λ (o : Option FrozenList). HandsBelow config clock asked (continued_response config clock open_lists verb token.cursor o))
    (λ _.
    let below : list.number < open_lists.next = ltb-true list.number open_lists.next (given list refl) in
    answered_below config clock asked verb (format_named list.prefix config.formats) (part_from config (prolonged config clock list) token.cursor) open_lists.next
    (part_below config (prolonged config clock list) token.cursor open_lists.next (omega (arith, below, few)) below))
    (λ _ its told. cc)

token_below : (config : RepositoryConfig) (state : RepoState) (asked : Attributes) (verb : ListVerb) (token : Option Token) → IsSound config state
    → HandsBelow config state.clock asked (token_response config state.clock state.open_lists verb token)
token_below config state asked verb None sound = λ its told. cc
token_below config state asked verb (Some token) sound =
    found_below config state.clock asked state.open_lists verb token (find (is_of_number token.list) state.open_lists.lists) sound.few
    (λ list found. of_found (is_of_number token.list) (is_given state.open_lists.next) state.open_lists.lists list found sound.given)

-- no page is in these answers
no_sets_page : (config : RepositoryConfig) (sets : List _) → page_in (sets_answer config sets) ≡ None
no_sets_page config [] = refl
no_sets_page config (set ∷ sets) = refl

no_formats_page : (config : RepositoryConfig) (found : Option ItemState) → page_in (item_formats_answer config found) ≡ None
no_formats_page config None = refl
no_formats_page config (Some item) = cond_both item.live _ _ (λ (answer : VerbAnswer). page_in answer ≡ None) (λ _. refl) (λ _. refl)

no_asked_page : (config : RepositoryConfig) (items : List ItemState) (identifier : Option (List ℕ)) → page_in (formats_answer config items identifier) ≡ None
no_asked_page config items None = refl
no_asked_page config items (Some identifier) = no_formats_page config (item_named identifier items)

no_disseminated_page : (config : RepositoryConfig) (item : ItemState) (format : Option Format) → page_in (disseminated config item format) ≡ None
no_disseminated_page config item None = refl
no_disseminated_page config item (Some format) = cond_both (has_record format.prefix item.formats) _ _ (λ (answer : VerbAnswer). page_in answer ≡ None) (λ _. refl) (λ _. refl)

no_record_page : (config : RepositoryConfig) (found : Option ItemState) (prefix : List ℕ) → page_in (record_answer config found prefix) ≡ None
no_record_page config None prefix = refl
no_record_page config (Some item) prefix = no_disseminated_page config item (format_named prefix config.formats)

unshown : (config : RepositoryConfig) (clock : ℤ) (asked : Attributes) (open_lists : OpenLists) (answer : VerbAnswer) → page_in answer ≡ None → HandsBelow config clock asked (with_answer answer, open_lists)
unshown config clock asked open_lists answer none = λ page told. let clash : None ≡ Some page = sym none ∙ told in cc

request_below : (config : RepositoryConfig) (state : RepoState) (asked : Attributes) (request : AskOrError) → IsSound config state → HandsBelow config state.clock asked (request_response config state request)
request_below config state asked bad_verb sound = λ its told. cc
request_below config state asked bad_argument sound = λ its told. cc
request_below config state asked (asks ask.Identify) sound = λ its told. cc
request_below config state asked (asks (ask.Formats identifier)) sound = unshown config state.clock asked state.open_lists (formats_answer config state.holdings.items identifier) (no_asked_page config state.holdings.items identifier)
request_below config state asked (asks ask.Sets) sound = unshown config state.clock asked state.open_lists (sets_answer config state.holdings.sets) (no_sets_page config state.holdings.sets)
request_below config state asked (asks (ask.Get identifier prefix)) sound = unshown config state.clock asked state.open_lists (record_answer config (item_named identifier state.holdings.items) prefix) (no_record_page config (item_named identifier state.holdings.items) prefix)
request_below config state asked (asks (ask.List verb prefix from until set)) sound =
    cond_both (is_some set && has_no_sets state.holdings.sets) _ _ (λ (done : Response × OpenLists). HandsBelow config state.clock asked done)
    (λ _ its told. cc)
    (λ _. format_below config state.clock asked state.open_lists verb (format_named prefix config.formats) (selected (filter_of prefix from until set) state.holdings.items) sound.few)
request_below config state asked (asks (ask.Resume verb token)) sound = token_below config state asked verb (token_of token) sound

change_below : (config : RepositoryConfig) (state : RepoState) (stamp : ℤ) (change : Change) (refusal : Option ChangeRefusal) (next : ℕ) → ShowsBelow next (act_on_change config state stamp change refusal).0
change_below config state stamp change (Some cause) next = λ its told. cc
change_below config state stamp change None next = λ its told. cc

-- what a command is answered offers no token but of a number below that of the next list
command_below : (config : RepositoryConfig) (state : RepoState) (command : Command) → IsSound config state → ShowsBelow (act config state command).1.open_lists.next (act config state command).0
unfolding act
command_below config state (requesting request) sound = request_below config state (arguments_of_request request) request sound
command_below config state (changing change) sound =
    change_below config state (stamp_at config state.clock) change (refusal_of config (stamp_at config state.clock) state.holdings change) (act config state (changing change)).1.open_lists.next
command_below config state (rejecting cause) sound = λ its told. cc

offered_below : (next : ℕ) (token : List ℕ) (outcome : Outcome) → ShowsBelow next outcome → IsOffered token outcome → number_in token < next
offered_below next token outcome shows is = subst (λ (text : List ℕ). number_in text < next) is.same (shows is.page is.told is.offer is.offered)

-- ---- numbers do not fall

next_effected : (config : RepositoryConfig) (state : RepoState) (effect : Effect) → IsPossible config state effect → state.open_lists.next ≤ (effected config state effect).open_lists.next
next_effected config state unchanged possible = omega arith
next_effected config state (item_put item) possible = omega arith
next_effected config state (item_taken identifier) possible = omega arith
next_effected config state (items_purged limit) possible = omega arith
next_effected config state (set_added set) possible = omega arith
next_effected config state (list_carried_on number next) possible = omega arith
next_effected config state (list_opened list) possible = omega arith

-- the number of the list is not below that one
abbrev is_from : ℕ → FrozenList → Bool
is_from from list = nat_le from list.number

carried_from : (config : RepositoryConfig) (clock : ℤ) (number : ℕ) (next : Option ℕ) (from : ℕ) (lists : List FrozenList) → list_all (is_from from) lists ≡ true
    → list_all (is_from from) (map (carried_on_at config clock number next) lists) ≡ true
carried_from config clock number next from [] h = refl
carried_from config clock number next from (x ∷ lists) h =
    let parts = and_parts (is_from from x) (list_all (is_from from) lists) h in
    and_from (is_from from (carried_on_at config clock number next x)) (list_all (is_from from) (map (carried_on_at config clock number next) lists))
    (ap (λ (n : ℕ). nat_le from n) (same_number config clock number next x) ∙ parts.0)
    (carried_from config clock number next from lists parts.1)

-- no open list has a number below that one, nor will the next one
record IsFrom (from : ℕ) (open_lists : OpenLists) : Type 0 where
  pub numbers : list_all (is_from from) open_lists.lists ≡ true
  pub next : from ≤ open_lists.next

from_effected : (config : RepositoryConfig) (from : ℕ) (state : RepoState) (effect : Effect) → IsPossible config state effect → IsFrom from state.open_lists → IsFrom from (effected config state effect).open_lists
from_effected config from state unchanged possible h = h
from_effected config from state (item_put item) possible h = h
from_effected config from state (item_taken identifier) possible h = h
from_effected config from state (items_purged limit) possible h = h
from_effected config from state (set_added set) possible h = h
from_effected config from state (list_carried_on number next) possible h = record {
  numbers = carried_from config state.clock number next from state.open_lists.lists h.numbers;
  next = h.next;
}
from_effected config from state (list_opened list) possible h = record {
  numbers =
      list_all-append (is_from from) state.open_lists.lists (list ∷ [])
      ∙ and_from (list_all (is_from from) state.open_lists.lists) (is_from from list && true) h.numbers
      (and_from (is_from from list) true (le-leb from list.number (subst (λ (n : ℕ). from ≤ n) (sym possible.number) h.next)) refl);
  next = let low = h.next in omega (arith, low);
}

from_moved : (from : ℕ) (moment : ℤ) (state : RepoState) → IsFrom from state.open_lists → IsFrom from (moved moment state).open_lists
from_moved from moment state h = record { numbers = all-filter (is_from from) (is_open_at (moved moment state).clock) state.open_lists.lists h.numbers; next = h.next }

from_act : (config : RepositoryConfig) (from : ℕ) (state : RepoState) (command : Command) → IsSound config state → IsFrom from state.open_lists → IsFrom from (act config state command).1.open_lists
from_act config from state command sound h =
    let done = effect_of config state command sound in
    subst (λ (new : RepoState). IsFrom from new.open_lists) (sym done.done) (from_effected config from state done.effect done.possible h)

next_act : (config : RepositoryConfig) (state : RepoState) (command : Command) → IsSound config state → state.open_lists.next ≤ (act config state command).1.open_lists.next
next_act config state command sound =
    let done = effect_of config state command sound in
    subst (λ (new : RepoState). state.open_lists.next ≤ new.open_lists.next) (sym done.done) (next_effected config state done.effect done.possible)

-- ---- along a run

pub sound_left : (config : RepositoryConfig) (commands : List Timed) (state : RepoState) → IsSound config state → IsSound config (left_behind config state commands)
sound_left config [] state sound = sound
sound_left config (timed ∷ commands) state sound =
    sound_left config commands (performed config state timed).left (sound_act config (moved timed.moment state) timed.command (sound_moved config timed.moment state sound))

next_left : (config : RepositoryConfig) (commands : List Timed) (state : RepoState) → IsSound config state → state.open_lists.next ≤ (left_behind config state commands).open_lists.next
next_left config [] state sound = omega arith
next_left config (timed ∷ commands) state sound =
    let found : RepoState = moved timed.moment state in
    let sound_found = sound_moved config timed.moment state sound in
    let first : state.open_lists.next ≤ (act config found timed.command).1.open_lists.next = next_act config found timed.command sound_found in
    let others = next_left config commands (act config found timed.command).1 (sound_act config found timed.command sound_found) in
    omega (arith, first, others)

-- what was offered in a run has a number below that of the next list behind it
run_below : (config : RepositoryConfig) (commands : List Timed) (state : RepoState) (token : List ℕ) → IsSound config state → WasOffered token (run config state commands)
    → number_in token < (left_behind config state commands).open_lists.next
run_below config [] state token sound none = absurd none
run_below config (timed ∷ commands) state token sound (inl is) =
    let found : RepoState = moved timed.moment state in
    let sound_found = sound_moved config timed.moment state sound in
    let below = offered_below (act config found timed.command).1.open_lists.next token (act config found timed.command).0 (command_below config found timed.command sound_found) is in
    let others = next_left config commands (act config found timed.command).1 (sound_act config found timed.command sound_found) in
    omega (arith, below, others)
run_below config (timed ∷ commands) state token sound (inr later) =
    run_below config commands (performed config state timed).left token (sound_act config (moved timed.moment state) timed.command (sound_moved config timed.moment state sound)) later

-- ---- a token of an earlier number is refused

-- the number in each token of the list is not below that one
handed_from : (chunk from next : ℕ) (lists : List FrozenList) → next ≤ LAST_NUMBER → list_all (is_given next) lists ≡ true → list_all (is_from from) lists ≡ true
    → AreHanded (λ text. from ≤ number_in text) chunk lists
handed_from chunk from next [] few given h = tt
handed_from chunk from next (list ∷ lists) few given h =
    let its = and_parts (is_given next list) (list_all (is_given next) lists) given in
    let parts = and_parts (is_from from list) (list_all (is_from from) lists) h in
    let below : list.number < next = ltb-true list.number next its.0 in
    let above : from ≤ list.number = leb-true from list.number parts.0 in (
      λ verb k some within. subst (λ (n : ℕ). from ≤ n) (sym (number_at list.number (k * chunk) (omega (arith, below, few)))) above,
      handed_from chunk from next lists few its.1 parts.1,
    )

abbrev IsRefused : Outcome → Type 0
IsRefused outcome = answer_in outcome ≡ Some (fails BadResumptionToken)

refused_at : (config : RepositoryConfig) (from : ℕ) (state : RepoState) (verb : ListVerb) (token : List ℕ) → IsSound config state → IsFrom from state.open_lists → number_in token < from
    → IsRefused (act config state (next_request verb token)).0
refused_at config from state verb token sound h below = elim (tokens_shown config state verb token sound) [
  | inl refused ↦ refused
  | inr shown ↦
      let above : from ≤ number_in token =
      resumed_given (λ text. from ≤ number_in text) config state verb token shown.0
      (handed_from config.chunk from state.open_lists.next state.open_lists.lists sound.few sound.given h.numbers) shown.1
      in
      absurd (omega (arith, below, above))
]

refused_from : (config : RepositoryConfig) (from : ℕ) (verb : ListVerb) (token : List ℕ) (commands : List Timed) (state : RepoState) → number_in token < from → IsSound config state → IsFrom from state.open_lists
    → Throughout (λ (exchange : Transition). exchange.command ≡ next_request verb token → IsRefused exchange.outcome) (run config state commands)
refused_from config from verb token [] state below sound h = tt
refused_from config from verb token (timed ∷ commands) state below sound h =
    let found : RepoState = moved timed.moment state in
    let sound_found = sound_moved config timed.moment state sound in
    let from_found = from_moved from timed.moment state h in (
      λ asked. subst (λ (command : Command). IsRefused (act config found command).0) (sym asked) (refused_at config from found verb token sound_found from_found below),
      refused_from config from verb token commands (act config found timed.command).1 below (sound_act config found timed.command sound_found) (from_act config from found timed.command sound_found from_found),
    )

-- ---- over eras

-- tokens of numbers below that one are refused in all of these eras
all_refuse : (config : RepositoryConfig) (from : ℕ) (earlier : List Transition) (eras : List Era) (state : RepoState) → ((token : List ℕ) → WasOffered token earlier → number_in token < from)
    → IsSound config state → HaveNumbers config state eras → from ≤ state.open_lists.next → AllByRecursion (AreOldTokensRefused earlier) (runs config state eras)
all_refuse config from earlier [] state below sound numbers low = tt
all_refuse config from earlier (era ∷ eras) state below sound numbers low =
    let begun : RepoState = ended era.raise state in
    let sound_era = sound_ended config era.raise state numbers.0 sound in
    let low_begun : from ≤ begun.open_lists.next = omega (arith, low) in
    let low_left = next_left config era.commands begun sound_era in (
      λ verb token offered. refused_from config from verb token era.commands begun (below token offered) sound_era (record { numbers = refl; next = low_begun }),
      all_refuse config from earlier eras (left_by_era config state era) below (sound_left config era.commands begun sound_era) numbers.1 (omega (arith, low_begun, low_left)),
    )

-- a token that was handed out in an era is refused in each later one
pub era_tokens_refused : (config : RepositoryConfig) (eras : List Era) (state : RepoState) → IsConfig config → IsSound config state → HaveNumbers config state eras → AreEnded (runs config state eras)
era_tokens_refused config [] state good sound numbers = tt
era_tokens_refused config (era ∷ eras) state good sound numbers =
    let begun : RepoState = ended era.raise state in
    let left : RepoState = left_by_era config state era in
    let sound_era = sound_ended config era.raise state numbers.0 sound in
    let sound_behind = sound_left config era.commands begun sound_era in (
      all_refuse config left.open_lists.next (run config begun era.commands) eras left (λ token offered. run_below config era.commands begun token sound_era offered) sound_behind numbers.1 (omega arith),
      era_tokens_refused config eras left good sound_behind numbers.1,
    )
