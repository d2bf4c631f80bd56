-- A token that is answered with a page was offered before: of each open list, every cursor up to the highest that was given stood in a token.
use Rattle.std.proofs.Common.{◌≡◌, ◌∙◌, ◌⊎◌, inl, inr, ℕ, ℤ, max, ◌+◌, ◌*◌, ◌/◌, ◌%◌, ◌<◌, ◌≤◌, Bool, true, false, ◌&&◌, eqb, cond, List, [], ◌∷◌, ◌++◌, ◌^◌, length, take, drop, map, suc, zero, Option, None, Some, is_some, refl, sym, ap, subst, arith}
use Rattle.std.specs.Prelude.{filter, find, nat_le, nat_lt}
use Rattle.std.specs.List.{list_all}
use Rattle.std.specs.Str.{bytes_eq}
use Rattle.std.proofs.lemmas.Bool.{and_parts, cases_Bool, cond_both, cond-true, cond-false, eqb-true, lt-ltb, leb-false, leb-true, ltb-true}
use Rattle.std.proofs.lemmas.List.{length-take}
use Rattle.std.proofs.lemmas.Slice.Eq.{bytes_eq-Decides}
use native.Mathlib.Nat.{add-mul, div-add-mod', mul-le-mul_right, one-mul}
use Rattle.oai_names.specs.declared.list_verbs.ListVerb.{ListVerb}
use Rattle.oai_names.specs.declared.list_verbs.ListVerb.TheVariants as list
use Rattle.oai_item.specs.Formats.{format_named}
use Rattle.oai_item.specs.Item.{ItemState}
use Rattle.oai_item.specs.Items.{item_named}
use Rattle.oai_item.specs.Selection.{selected}
use Rattle.oai_item.specs.declared.formats.Format.{Format}
use Rattle.oai_lists.specs.Tokens.{token_numbers, token_of, token_text}
use Rattle.oai_lists.specs.declared.tokens.Token.{Token}
use Rattle.oai_args.specs.Asks.{AskOrError, asks, bad_verb, bad_argument}
use Rattle.oai_args.specs.declared.requests.Ask.TheVariants as ask
use Rattle.oai_answers.specs.Answers.{Attributes, Page, fails, identifies}
use Rattle.oai_answers.specs.declared.errors.ErrorCode.TheVariants.{BadArgument, BadResumptionToken, BadVerb, CannotDisseminateFormat, NoSetHierarchy}
use Rattle.oai_settings.specs.Config.{IsConfig, RepositoryConfig}
use Rattle.oai_lists.specs.OpenLists.{highest_given}
use Rattle.oai_repo.specs.Answers.{arguments_of_request, description, filter_of, formats_answer, record_answer, sets_answer}
use Rattle.oai_repo.specs.Listing.{Response, answer_by_verb, carried_on, carried_on_at, continued_response, complete_answer, format_response, has_no_sets, is_continued, is_handed_out, is_of_number, is_same_verb, is_valid_cursor, new_list, next_cursor, opens_list, part_answer, part_from, prolonged, request_response, retry_after, selection_response, token_response, wait_at, where_continued, with_answer}
use Rattle.oai_repo.specs.Machine.{Command, Outcome, act, changing, outcome_of, rejecting, requesting}
use Rattle.oai_repo.specs.State.{FrozenList, OpenLists, RepoState, empty_state, is_open_at, moved}
use Rattle.oai_laws.specs.Effects.{IsSound, is_frozen_of_format}
use Rattle.oai_args.specs.Verbs.{is_of_records}
use Rattle.oai_laws.specs.Following.{IsOffered, WasOffered, next_request, page_shown}
use Rattle.oai_laws.specs.Runs.{Timed, Transition, performed, run}
use Rattle.oai_laws.proofs.ChainLemmas.{some_in_part}
use Rattle.oai_laws.proofs.EffectLemmas.{sound_act, sound_empty, sound_moved}
use Rattle.oai_laws.proofs.FollowLemmas.{next_at, next_behind, part_offers, remain, told_page}
use Rattle.oai_laws.proofs.SameLemmas.{changes_keep}
use Rattle.oai_laws.proofs.StandLemmas.{of_found}
use Rattle.oai_laws.proofs.TokenLemmas.{part_shown}

-- ---- what is true of an open list

-- the text of the token
abbrev pub text_at : ℕ → ℕ → List ℕ
text_at number cursor = token_text (record { list = number; cursor = cursor })

-- each multiple of `chunk` up to the cursor stood in a token of the list of that number
abbrev pub IsHandedTo : (List ℕ → Type 0) → ℕ → ℕ → ℕ → Type 0
IsHandedTo P chunk number cursor = (k : ℕ) → 1 ≤ k → k * chunk ≤ cursor → P (text_at number (k * chunk))

-- so it is up to the highest cursor of the list. No token continues a list of sets
abbrev pub IsHanded : (List ℕ → Type 0) → ℕ → FrozenList → Type 0
IsHanded P chunk list = is_of_records list.verb ≡ true → IsHandedTo P chunk list.number list.given

abbrev pub AreHanded : (List ℕ → Type 0) → ℕ → List FrozenList → Type 0
AreHanded P chunk [] = Unit {0}
AreHanded P chunk (list ∷ lists) = IsHanded P chunk list × AreHanded P chunk lists

weaker : (P Q : List ℕ → Type 0) (chunk : ℕ) → ((text : List ℕ) → P text → Q text) → (lists : List FrozenList) → AreHanded P chunk lists → AreHanded Q chunk lists
weaker P Q chunk more [] h = tt
weaker P Q chunk more (list ∷ lists) h = (λ verb k some below. more (text_at list.number (k * chunk)) (h.0 verb k some below), weaker P Q chunk more lists h.1)

filtered : (P : List ℕ → Type 0) (chunk : ℕ) (q : FrozenList → Bool) (lists : List FrozenList) → AreHanded P chunk lists → AreHanded P chunk (filter q lists)
filtered P chunk q [] h = tt
filtered P chunk q (list ∷ lists) h =
    let rest = filtered P chunk q lists h.1 in
    cond_both (q list) (list ∷ filter q lists) (filter q lists) (λ (ls : List FrozenList). AreHanded P chunk ls) (λ _. (h.0, rest)) (λ _. rest)

appended : (P : List ℕ → Type 0) (chunk : ℕ) (lists : List FrozenList) (list : FrozenList) → AreHanded P chunk lists → IsHanded P chunk list → AreHanded P chunk (lists ++ list ∷ [])
appended P chunk [] list h own = (own, tt)
appended P chunk (x ∷ lists) list h own = (h.0, appended P chunk lists list h.1 own)

found_handed : (P : List ℕ → Type 0) (chunk : ℕ) (p : FrozenList → Bool) (lists : List FrozenList) (list : FrozenList) → find p lists ≡ Some list → AreHanded P chunk lists → (p list ≡ true) × IsHanded P chunk list
found_handed P chunk p [] list found h = cc
found_handed P chunk p (x ∷ lists) list found h = elim (cases_Bool (p x)) [
  | inl here ↦
      let is : Some x ≡ Some list = sym (cond-true (p x) (Some x) (find p lists) here) ∙ found in
      let same : x ≡ list = cc in
      subst (λ (l : FrozenList). (p l ≡ true) × IsHanded P chunk l) same (here, h.0)
  | inr other ↦ found_handed P chunk p lists list (sym (cond-false (p x) (Some x) (find p lists) other) ∙ found) h.1
]

-- the token of one part more
abbrev MayGive : (List ℕ → Type 0) → ℕ → ℕ → Option ℕ → Type 0
MayGive P chunk number None = Unit {0}
MayGive P chunk number (Some cursor) = IsHandedTo P chunk number cursor

upto_either : (a b c : ℕ) → c ≤ max a b → (c ≤ a) ⊎ (c ≤ b)
upto_either a b c h = elim (cases_Bool (nat_le c a)) [
  | inl low ↦ inl (leb-true c a low)
  | inr high ↦ let above : a < c = leb-false c a high in inr (omega (arith, h, above))
]

raised : (P : List ℕ → Type 0) (chunk number given : ℕ) (next : Option ℕ) → MayGive P chunk number next → IsHandedTo P chunk number given → IsHandedTo P chunk number (highest_given next given)
raised P chunk number given None more h = h
raised P chunk number given (Some cursor) more h = λ k some below. elim (upto_either given cursor (k * chunk) below) [
  | inl low ↦ h k some low
  | inr high ↦ more k some high
]

carried : (P : List ℕ → Type 0) (config : RepositoryConfig) (clock : ℤ) (number : ℕ) (next : Option ℕ) (lists : List FrozenList) → MayGive P config.chunk number next → AreHanded P config.chunk lists
    → AreHanded P config.chunk (map (carried_on_at config clock number next) lists)
carried P config clock number next [] more h = tt
carried P config clock number next (x ∷ lists) more h = (
  cond_both (is_of_number number x) (carried_on config clock next x) x (λ (list : FrozenList). IsHanded P config.chunk list)
      (λ is. λ verb. raised P config.chunk x.number x.given next (subst (λ (n : ℕ). MayGive P config.chunk n next) (sym (eqb-true x.number number is)) more) (h.0 verb)) (λ _. h.0),
  carried P config clock number next lists more h.1,
)

-- ---- multiples

-- up to one part more there is one multiple more
one_more : (k chunk cursor : ℕ) → 1 ≤ chunk → cursor % chunk ≡ 0 → k * chunk ≤ cursor + chunk → (k * chunk ≤ cursor) ⊎ (k * chunk ≡ cursor + chunk)
one_more k chunk cursor some multiple below =
    let j : ℕ = cursor / chunk in
    let at : j * chunk + cursor % chunk ≡ cursor = div-add-mod' cursor chunk in
    let same : j * chunk ≡ cursor = omega (arith, at, multiple) in
    elim (cases_Bool (nat_le k j)) [
      | inl low ↦ inl (let less = mul-le-mul_right {m = k} {n = j} chunk (leb-true k j low) in omega (arith, less, same))
      | inr high ↦
          let above : j < k = leb-false k j high in
          let next : (j + 1) * chunk ≡ j * chunk + 1 * chunk = add-mul j 1 chunk in
          let one : 1 * chunk ≡ chunk = one-mul chunk in
          let reached = mul-le-mul_right {m = j + 1} {n = k} chunk (omega (arith, above)) in
          inr (omega (arith, next, one, reached, same, below))
    ]

-- the first multiple
first_one : (k chunk : ℕ) → 1 ≤ k → 1 ≤ chunk → k * chunk ≤ chunk → k * chunk ≡ chunk
first_one k chunk some part below =
    let one : 1 * chunk ≡ chunk = one-mul chunk in
    let reached = mul-le-mul_right {m = 1} {n = k} chunk some in
    omega (arith, one, reached, below)

-- a cursor that was handed out is a multiple
record IsMultiple (chunk given cursor : ℕ) : Type 0 where
  pub times : ℕ
  pub some : 1 ≤ times
  pub is : times * chunk ≡ cursor
  pub whole : cursor % chunk ≡ 0
  pub below : cursor ≤ given

handed_multiple : (chunk given cursor : ℕ) → is_handed_out chunk given cursor ≡ true → IsMultiple chunk given cursor
handed_multiple chunk given cursor h =
    let parts = and_parts (nat_lt 0 cursor && eqb (cursor % chunk) 0) (nat_le cursor given) h in
    let front = and_parts (nat_lt 0 cursor) (eqb (cursor % chunk) 0) parts.0 in
    let some : 0 < cursor = ltb-true 0 cursor front.0 in
    let whole : cursor % chunk ≡ 0 = eqb-true (cursor % chunk) 0 front.1 in
    let at : cursor / chunk * chunk + cursor % chunk ≡ cursor = div-add-mod' cursor chunk in
    let is : cursor / chunk * chunk ≡ cursor = omega (arith, at, whole) in
    record { times = cursor / chunk; some = not_none (cursor / chunk) is some; is = is; whole = whole; below = leb-true cursor given parts.1 }
  where
    not_none : (n : ℕ) → n * chunk ≡ cursor → 0 < cursor → 1 ≤ n
    not_none zero is some = absurd (omega (arith, is, some))
    not_none (suc n) is some = omega arith

-- ---- what a response hands out

-- what is said hands the token out
abbrev pub OrOffered : (List ℕ → Type 0) → Outcome → List ℕ → Type 0
OrOffered P outcome text = P text ⊎ IsOffered text outcome

abbrev pub HandsOut : (List ℕ → Type 0) → RepositoryConfig → ℤ → Attributes → Response × OpenLists → Type 0
HandsOut P config clock asked done = AreHanded (OrOffered P (outcome_of config clock asked done.0)) config.chunk done.1.lists

same_lists : (P : List ℕ → Type 0) (config : RepositoryConfig) (clock : ℤ) (asked : Attributes) (response : Response) (open_lists : OpenLists) → AreHanded P config.chunk open_lists.lists → HandsOut P config clock asked (response, open_lists)
same_lists P config clock asked response open_lists h = weaker P (OrOffered P (outcome_of config clock asked response)) config.chunk (λ text was. inl was) open_lists.lists h

-- a page of a list behind which records remain
page_offers : (config : RepositoryConfig) (outcome : Outcome) (list : FrozenList) (cursor : ℕ) → page_shown outcome ≡ Some (part_from config list cursor) → remain config list cursor ≡ true
    → IsOffered (text_at list.number (next_at config list cursor)) outcome
page_offers config outcome list cursor told more = record {
  page = part_from config list cursor;
  offer = record { token = text_at list.number (next_at config list cursor); expires = list.end };
  told = told;
  offered = part_offers config list cursor more;
  same = refl;
}

-- the first part of a list that is longer
first_next : (config : RepositoryConfig) (list : FrozenList) → config.chunk < length list.items → remain config list 0 ≡ true
unfolding remain next_at
first_next config list many = let few = length-take config.chunk list.items in lt-ltb (0 + length (take config.chunk list.items)) (length list.items) (omega (arith, few, many))

begun_hands : (P : List ℕ → Type 0) (config : RepositoryConfig) (clock : ℤ) (asked : Attributes) (open_lists : OpenLists) (format : Format) (list : FrozenList) (wait : Option ℤ) → 1 ≤ config.chunk → config.chunk < length list.items → list.given ≡ config.chunk
    → AreHanded P config.chunk open_lists.lists → HandsOut P config clock asked (opens_list config open_lists format list wait)
begun_hands P config clock asked open_lists format list (Some seconds) part many given h = same_lists P config clock asked (retry_after seconds) open_lists h
begun_hands P config clock asked open_lists format list None part many given h =
    let outcome : Outcome = outcome_of config clock asked (with_answer (answer_by_verb list.verb format (part_from config list 0))) in
    let more = first_next config list many in
    let next : next_at config list 0 ≡ 0 + config.chunk = next_behind config list 0 more in
    appended (OrOffered P outcome) config.chunk open_lists.lists list (weaker P (OrOffered P outcome) config.chunk (λ text was. inl was) open_lists.lists h)
    (λ verb k some below.
    let is : k * config.chunk ≡ config.chunk = first_one k config.chunk some part (omega (arith, below, given)) in
    let at : next_at config list 0 ≡ k * config.chunk = omega (arith, is, next) in
    inr (subst (λ (n : ℕ). IsOffered (text_at list.number n) outcome) at (page_offers config outcome list 0 (told_page list.verb format (part_from config list 0) verb) more)))

items_hand : (P : List ℕ → Type 0) (config : RepositoryConfig) (clock : ℤ) (asked : Attributes) (open_lists : OpenLists) (verb : ListVerb) (format : Format) (items : List ItemState) → 1 ≤ config.chunk
    → AreHanded P config.chunk open_lists.lists → HandsOut P config clock asked (selection_response config clock open_lists verb format items)
unfolding selection_response
items_hand P config clock asked open_lists verb format items part h =
    cond_both (nat_le (length items) config.chunk) _ _ (λ (done : Response × OpenLists). HandsOut P config clock asked done)
    (λ _. same_lists P config clock asked (with_answer (complete_answer config verb format items)) open_lists h)
    (λ many. begun_hands P config clock asked open_lists format (new_list config clock open_lists verb format.prefix items) (wait_at config clock open_lists) part (leb-false (length items) config.chunk many) refl h)

format_hands : (P : List ℕ → Type 0) (config : RepositoryConfig) (clock : ℤ) (asked : Attributes) (open_lists : OpenLists) (verb : ListVerb) (format : Option Format) (items : List ItemState) → 1 ≤ config.chunk
    → AreHanded P config.chunk open_lists.lists → HandsOut P config clock asked (format_response config clock open_lists verb format items)
format_hands P config clock asked open_lists verb None items part h = same_lists P config clock asked (with_answer (fails CannotDisseminateFormat)) open_lists h
format_hands P config clock asked open_lists verb (Some format) items part h = items_hand P config clock asked open_lists verb format items part h

-- a list that is continued: the parts before are those that were handed out, and this one's token is behind the last of them
next_given_out : (P : List ℕ → Type 0) (config : RepositoryConfig) (outcome : Outcome) (list : FrozenList) (cursor : ℕ) → 1 ≤ config.chunk → IsMultiple config.chunk list.given cursor → IsHandedTo P config.chunk list.number list.given
    → page_shown outcome ≡ Some (part_from config list cursor) → MayGive (OrOffered P outcome) config.chunk list.number (next_cursor config list cursor)
unfolding remain next_at
next_given_out P config outcome list cursor part multiple handed told =
    let next : ℕ = cursor + length (take config.chunk (drop cursor list.items)) in
    cond_both (nat_lt next (length list.items)) (Some next) None (λ (o : Option ℕ). MayGive (OrOffered P outcome) config.chunk list.number o)
    (λ more k some below.
    let at : next ≡ cursor + config.chunk = next_behind config list cursor more in
    let low = multiple.below in
    elim (one_more k config.chunk cursor part multiple.whole (omega (arith, below, at))) [
      | inl before ↦ inl (handed k some (omega (arith, before, low)))
      | inr here ↦
          let is : next ≡ k * config.chunk = omega (arith, at, here) in
          inr (subst (λ (n : ℕ). IsOffered (text_at list.number n) outcome) is (page_offers config outcome list cursor told more))
    ])
    (λ _. tt)

same_records : (its verb : ListVerb) → is_same_verb its verb ≡ true → is_of_records its ≡ true
same_records list.Identifiers verb h = refl
same_records list.Records verb h = refl
same_records list.Sets list.Identifiers h = cc
same_records list.Sets list.Records h = cc
same_records list.Sets list.Sets h = cc

found_hands : (P : List ℕ → Type 0) (config : RepositoryConfig) (clock : ℤ) (asked : Attributes) (open_lists : OpenLists) (verb : ListVerb) (token : Token) (found : Option FrozenList) → 1 ≤ config.chunk
    → ((list : FrozenList) → found ≡ Some list → (is_frozen_of_format config list ≡ true) × IsHanded P config.chunk list) → AreHanded P config.chunk open_lists.lists
    → HandsOut P config clock asked (continued_response config clock open_lists verb token.cursor (where_continued config verb token found))
found_hands P config clock asked open_lists verb token None part known h = same_lists P config clock asked (with_answer (fails BadResumptionToken)) open_lists h
found_hands P config clock asked open_lists verb token (Some list) part known h =
    cond_both (is_continued config.chunk verb token list.verb (length list.items) list.given) (Some list) None (λ (o : Option FrozenList). HandsOut P config clock asked (continued_response config clock open_lists verb token.cursor o))
    (λ fits.
    let page : Page = part_from config (prolonged config clock list) token.cursor in
    let outcome : Outcome = outcome_of config clock asked (with_answer (part_answer verb (format_named list.prefix config.formats) page)) in
    let own = known list refl in
    let parts = and_parts (is_same_verb list.verb verb) (is_valid_cursor config.chunk (length list.items) list.given token.cursor) fits in
    let valid = and_parts (nat_lt token.cursor (length list.items)) (is_handed_out config.chunk list.given token.cursor) parts.1 in
    let multiple = handed_multiple config.chunk list.given token.cursor valid.1 in
    let told : page_shown outcome ≡ Some page = part_shown config clock asked list.verb verb (format_named list.prefix config.formats) page own.0 parts.0 in
    let next = next_given_out P config outcome (prolonged config clock list) token.cursor part
    (record { times = multiple.times; some = multiple.some; is = multiple.is; whole = multiple.whole; below = multiple.below }) (own.1 (same_records list.verb verb parts.0)) told
    in
    carried (OrOffered P outcome) config clock list.number (next_cursor config list token.cursor) open_lists.lists next (weaker P (OrOffered P outcome) config.chunk (λ text was. inl was) open_lists.lists h))
    (λ _. same_lists P config clock asked (with_answer (fails BadResumptionToken)) open_lists h)

-- what is known of the list that is found
found_known : (P : List ℕ → Type 0) (config : RepositoryConfig) (open_lists : OpenLists) (number : ℕ) → list_all (is_frozen_of_format config) open_lists.lists ≡ true → AreHanded P config.chunk open_lists.lists
    → (list : FrozenList) → find (is_of_number number) open_lists.lists ≡ Some list → (is_frozen_of_format config list ≡ true) × IsHanded P config.chunk list
found_known P config open_lists number known h = λ list found.
    (of_found (is_of_number number) (is_frozen_of_format config) open_lists.lists list found known, (found_handed P config.chunk (is_of_number number) open_lists.lists list found h).1)

token_hands : (P : List ℕ → Type 0) (config : RepositoryConfig) (clock : ℤ) (asked : Attributes) (open_lists : OpenLists) (verb : ListVerb) (token : Option Token) → 1 ≤ config.chunk → list_all (is_frozen_of_format config) open_lists.lists ≡ true
    → AreHanded P config.chunk open_lists.lists → HandsOut P config clock asked (token_response config clock open_lists verb token)
token_hands P config clock asked open_lists verb None part known h = same_lists P config clock asked (with_answer (fails BadResumptionToken)) open_lists h
token_hands P config clock asked open_lists verb (Some token) part known h =
    found_hands P config clock asked open_lists verb token (find (is_of_number token.list) open_lists.lists) part (found_known P config open_lists token.list known h) h

request_hands : (P : List ℕ → Type 0) (config : RepositoryConfig) (state : RepoState) (asked : Attributes) (request : AskOrError) → 1 ≤ config.chunk → IsSound config state → AreHanded P config.chunk state.open_lists.lists
    → HandsOut P config state.clock asked (request_response config state request)
request_hands P config state asked bad_verb part sound h = same_lists P config state.clock asked (with_answer (fails BadVerb)) state.open_lists h
request_hands P config state asked bad_argument part sound h = same_lists P config state.clock asked (with_answer (fails BadArgument)) state.open_lists h
request_hands P config state asked (asks ask.Identify) part sound h = same_lists P config state.clock asked (with_answer (identifies (description config))) state.open_lists h
request_hands P config state asked (asks (ask.Formats identifier)) part sound h = same_lists P config state.clock asked (with_answer (formats_answer config state.holdings.items identifier)) state.open_lists h
request_hands P config state asked (asks ask.Sets) part sound h = same_lists P config state.clock asked (with_answer (sets_answer config state.holdings.sets)) state.open_lists h
request_hands P config state asked (asks (ask.Get identifier prefix)) part sound h = same_lists P config state.clock asked (with_answer (record_answer config (item_named identifier state.holdings.items) prefix)) state.open_lists h
request_hands P config state asked (asks (ask.List verb prefix from until set)) part sound h =
    cond_both (is_some set && has_no_sets state.holdings.sets) _ _ (λ (done : Response × OpenLists). HandsOut P config state.clock asked done)
    (λ _. same_lists P config state.clock asked (with_answer (fails NoSetHierarchy)) state.open_lists h)
    (λ _. format_hands P config state.clock asked state.open_lists verb (format_named prefix config.formats) (selected (filter_of prefix from until set) state.holdings.items) part h)
request_hands P config state asked (asks (ask.Resume verb token)) part sound h = token_hands P config state.clock asked state.open_lists verb (token_of token) part sound.known h

-- ---- what a command hands out

pub command_hands : (P : List ℕ → Type 0) (config : RepositoryConfig) (state : RepoState) (command : Command) → 1 ≤ config.chunk → IsSound config state → AreHanded P config.chunk state.open_lists.lists
    → AreHanded (OrOffered P (act config state command).0) config.chunk (act config state command).1.open_lists.lists
unfolding act
command_hands P config state (requesting request) part sound h = request_hands P config state (arguments_of_request request) request part sound h
command_hands P config state (changing change) part sound h =
    let outcome : Outcome = (act config state (changing change)).0 in
    subst (λ (open_lists : OpenLists). AreHanded (OrOffered P outcome) config.chunk open_lists.lists) (sym (changes_keep config state change))
    (weaker P (OrOffered P outcome) config.chunk (λ text was. inl was) state.open_lists.lists h)
command_hands P config state (rejecting cause) part sound h = weaker P (OrOffered P (act config state (rejecting cause)).0) config.chunk (λ text was. inl was) state.open_lists.lists h

-- ---- a token that is answered

-- the text is that of its token
read_text : (text : List ℕ) (token : Token) → token_of text ≡ Some token → token_text token ≡ text
unfolding token_of
read_text text token h =
    let its : Token = token_numbers text in
    by_test (bytes_eq (token_text its) text && nat_lt its.list (2 ^ 64) && nat_lt its.cursor (2 ^ 64)) its
    (λ passes. (bytes_eq-Decides (token_text its) text).0 (and_parts (bytes_eq (token_text its) text) (nat_lt its.list (2 ^ 64)) (and_parts (bytes_eq (token_text its) text && nat_lt its.list (2 ^ 64)) (nat_lt its.cursor (2 ^ 64)) passes).0).0)
    h
  where
    by_test : (test : Bool) (its : Token) → (test ≡ true → token_text its ≡ text) → cond test (Some its) None ≡ Some token → token_text token ≡ text
    by_test true its same h = let is : its ≡ token = cc in ap token_text (sym is) ∙ same refl
    by_test false its same h = cc

found_given : (P : List ℕ → Type 0) (config : RepositoryConfig) (clock : ℤ) (asked : Attributes) (open_lists : OpenLists) (verb : ListVerb) (token : Token) (page : Page) (found : Option FrozenList)
    → ((list : FrozenList) → found ≡ Some list → (list.number ≡ token.list) × IsHanded P config.chunk list)
    → page_shown (outcome_of config clock asked (continued_response config clock open_lists verb token.cursor (where_continued config verb token found)).0) ≡ Some page → P (token_text token)
found_given P config clock asked open_lists verb token page None own told = cc
found_given P config clock asked open_lists verb token page (Some list) own told =
    cond_both (is_continued config.chunk verb token list.verb (length list.items) list.given) (Some list) None
    (λ (o : Option FrozenList). page_shown (outcome_of config clock asked (continued_response config clock open_lists verb token.cursor o).0) ≡ Some page → P (token_text token))
    (λ fits _.
    let parts = and_parts (is_same_verb list.verb verb) (is_valid_cursor config.chunk (length list.items) list.given token.cursor) fits in
    let valid = and_parts (nat_lt token.cursor (length list.items)) (is_handed_out config.chunk list.given token.cursor) parts.1 in
    let multiple = handed_multiple config.chunk list.given token.cursor valid.1 in
    let mine = own list refl in
    let low = multiple.below in
    let is = multiple.is in
    let text : text_at list.number (multiple.times * config.chunk) ≡ token_text token = ap (text_at list.number) multiple.is ∙ ap (λ (n : ℕ). text_at n token.cursor) mine.0 in
    subst P text (mine.1 (same_records list.verb verb parts.0) multiple.times multiple.some (omega (arith, is, low))))
    (λ _ told. cc)
    told

token_given : (P : List ℕ → Type 0) (config : RepositoryConfig) (clock : ℤ) (asked : Attributes) (open_lists : OpenLists) (verb : ListVerb) (text : List ℕ) (token : Option Token) (page : Page) → token_of text ≡ token
    → AreHanded P config.chunk open_lists.lists → page_shown (outcome_of config clock asked (token_response config clock open_lists verb token).0) ≡ Some page → P text
token_given P config clock asked open_lists verb text None page is h told = cc
token_given P config clock asked open_lists verb text (Some token) page is h told =
    subst P (read_text text token is)
    (found_given P config clock asked open_lists verb token page (find (is_of_number token.list) open_lists.lists)
    (λ list found.
    let both = found_handed P config.chunk (is_of_number token.list) open_lists.lists list found h in
    (eqb-true list.number token.list both.0, both.1))
    told)

pub resumed_given : (P : List ℕ → Type 0) (config : RepositoryConfig) (state : RepoState) (verb : ListVerb) (text : List ℕ) (page : Page) → AreHanded P config.chunk state.open_lists.lists
    → page_shown (act config state (next_request verb text)).0 ≡ Some page → P text
unfolding act
resumed_given P config state verb text page h told = token_given P config state.clock (arguments_of_request (asks (ask.Resume verb text))) state.open_lists verb text (token_of text) page refl h told

-- ---- along a run

either_way : (A B C : Type 0) → (A ⊎ B) ⊎ C → A ⊎ (B ⊎ C)
either_way A B C (inl (inl a)) = inl a
either_way A B C (inl (inr b)) = inr (inl b)
either_way A B C (inr c) = inr (inr c)

offered_from : (P : List ℕ → Type 0) (config : RepositoryConfig) (commands : List Timed) (state : RepoState) (before after : List Transition) (exchange : Transition) (verb : ListVerb) (token : List ℕ) (page : Page) → 1 ≤ config.chunk → IsSound config state
    → AreHanded P config.chunk state.open_lists.lists → before ++ exchange ∷ after ≡ run config state commands → exchange.command ≡ next_request verb token → page_shown exchange.outcome ≡ Some page
    → P token ⊎ WasOffered token before
offered_from P config [] state [] after exchange verb token page part sound h is asked told = cc
offered_from P config [] state (x ∷ before) after exchange verb token page part sound h is asked told = cc
offered_from P config (timed ∷ commands) state [] after exchange verb token page part sound h is asked told =
    let found : RepoState = moved timed.moment state in
    let whole : exchange ∷ after ≡ performed config state timed ∷ run config (performed config state timed).left commands = is in
    let here : exchange ≡ performed config state timed = cc in
    let command : timed.command ≡ next_request verb token = ap (λ (e : Transition). e.command) (sym here) ∙ asked in
    let outcome : page_shown (act config found (next_request verb token)).0 ≡ Some page =
    ap (λ (c : Command). page_shown (act config found c).0) (sym command) ∙ ap (λ (e : Transition). page_shown e.outcome) (sym here) ∙ told
    in
    inl (resumed_given P config found verb token page (filtered P config.chunk (is_open_at found.clock) state.open_lists.lists h) outcome)
offered_from P config (timed ∷ commands) state (x ∷ before) after exchange verb token page part sound h is asked told =
    let found : RepoState = moved timed.moment state in
    let whole : x ∷ (before ++ exchange ∷ after) ≡ performed config state timed ∷ run config (performed config state timed).left commands = is in
    let here : x ≡ performed config state timed = cc in
    let rest : before ++ exchange ∷ after ≡ run config (performed config state timed).left commands = cc in
    let outcome : Outcome = (act config found timed.command).0 in
    let sound_found = sound_moved config timed.moment state sound in
    let later = offered_from (OrOffered P outcome) config commands (act config found timed.command).1 before after exchange verb token page part (sound_act config found timed.command sound_found)
    (command_hands P config found timed.command part sound_found (filtered P config.chunk (is_open_at found.clock) state.open_lists.lists h)) rest asked told
    in
    either_way (P token) (IsOffered token x.outcome) (WasOffered token before)
    (subst (λ (e : Transition). (P token ⊎ IsOffered token e.outcome) ⊎ WasOffered token before) (sym here) later)

pub answered_offered : (config : RepositoryConfig) (commands : List Timed) (before after : List Transition) (exchange : Transition) (verb : ListVerb) (token : List ℕ) (page : Page) → IsConfig config
    → before ++ exchange ∷ after ≡ run config (empty_state config) commands → exchange.command ≡ next_request verb token → page_shown exchange.outcome ≡ Some page → WasOffered token before
answered_offered config commands before after exchange verb token page good is asked told =
    elim (offered_from (λ _. ⊥) config commands (empty_state config) before after exchange verb token page (some_in_part config good) (sound_empty config) tt is asked told) [
      | inl none ↦ absurd none
      | inr offered ↦ offered
    ]
