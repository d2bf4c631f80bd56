-- The pages of a chain are, joined, the records that were selected at its first request.
use Rattle.std.proofs.Common.{◌≡◌, ◌∙◌, inl, inr, ℕ, ℤ, pos, max, ◌+◌, ◌%◌, ◌&&◌, eqb, ◌+ℤ◌, ◌<◌, ◌≤◌, ◌^◌, Bool, true, false, not, ◌||◌, cond, List, [], ◌∷◌, ◌++◌, length, append-nil, append_assoc, suc, zero, take, drop, map, Option, None, Some, is_none, refl, sym, ap, subst, arith}
use Rattle.std.specs.Prelude.{option_and_then, int_lt, nat_le, nat_lt}
use Rattle.std.proofs.Math.Nat.{add-mod, le-max_right}
use native.Mathlib.Nat.{mod_self, zero-mod}
use Rattle.std.proofs.lemmas.Bool.{and_from, cond-true, eq-eqb, le-leb, lt-ltb, ltb-true}
use Rattle.std.proofs.lemmas.Bool.Decides.{nat_tests}
use Rattle.std.proofs.lemmas.List.{drop-drop, length-drop, length-take}
use Rattle.oai_names.specs.declared.list_verbs.ListVerb.{ListVerb}
use Rattle.oai_names.specs.declared.list_verbs.ListVerb.TheVariants as list
use Rattle.oai_lists.specs.Tokens.{token_of, token_text}
use Rattle.oai_lists.specs.declared.lists.TheConstants.{LAST_NUMBER}
use Rattle.oai_lists.specs.declared.tokens.Token.{Token}
use Rattle.oai_lists.proofs.TokensRead.{token_of-is}
use Rattle.oai_item.specs.Formats.{format_named}
use Rattle.oai_item.specs.Item.{ItemState}
use Rattle.oai_item.specs.declared.formats.Format.{Format}
use Rattle.oai_args.specs.Asks.{AskOrError, asks}
use Rattle.oai_args.specs.declared.requests.Ask.TheVariants as ask
use Rattle.oai_answers.specs.Answers.{Attributes, Continuation, Page, VerbAnswer, completes, remains}
use Rattle.oai_lists.specs.OpenLists.{highest_given}
use Rattle.oai_repo.specs.Answers.{arguments_of_request}
use Rattle.oai_settings.specs.Config.{RepositoryConfig}
use Rattle.oai_laws.specs.Effects.{IsSound, is_given}
use Rattle.oai_args.specs.Verbs.{is_of_records}
use Rattle.oai_laws.specs.Following.{AreLasting, ArePagesAt, AreNext, IsLasting, IsNextRequest, IsPageAt, TokenOffer, answer_in, are_complete, extent_in, is_later, joined, next_request, offer_in, page_in}
use Rattle.oai_repo.specs.Listing.{Response, request_response, continued_response, carried_on, extent_at, is_of_number, is_continued, is_handed_out, is_same_verb, is_valid_cursor, items_from, next_cursor, part_from, part_answer, prolonged, with_answer, answer_by_verb, token_response, retry_after, where_continued, with_carried_on}
use Rattle.oai_repo.specs.Machine.{Command, act, requesting, outcome_of}
use Rattle.oai_laws.specs.Runs.{IsPart, Timed, Transition, performed, run}
use Rattle.oai_repo.specs.State.{FrozenList, OpenLists, RepoState, moved}
use Rattle.oai_laws.proofs.EffectLemmas.{effect_of, sound_act, sound_moved}
use Rattle.oai_laws.proofs.StandLemmas.{IsThere, Stands, list_there, of_found, stands_carried_on, stands_effected, stands_moved}

-- ---- the parts of a list

-- a part and what is behind it
cut : {A : Type 0} (n : ℕ) (xs : List A) → take n xs ++ drop (length (take n xs)) xs ≡ xs
cut zero xs = refl
cut (suc n) [] = refl
cut (suc n) (x ∷ xs) = ap (λ ys. x ∷ ys) (cut n xs)

-- a part behind which something is left is full
full_part : {A : Type 0} (n : ℕ) (xs : List A) → length (take n xs) < length xs → length (take n xs) ≡ n
full_part zero xs h = refl
full_part (suc n) [] h = absurd (omega (arith, h))
full_part (suc n) (x ∷ xs) h = let rest = full_part n xs (omega (arith, h)) in omega (arith, rest)

-- of some records a part has some
some_taken : {A : Type 0} (n : ℕ) (xs : List A) → 1 ≤ n → 1 ≤ length xs → take n xs ≡ [] → ⊥
some_taken zero xs part some h = absurd (omega (arith, part))
some_taken (suc n) [] part some h = absurd (omega (arith, some))
some_taken (suc n) (x ∷ xs) part some h = cc

none_behind : {A : Type 0} (n : ℕ) (xs : List A) → length xs ≤ n → drop n xs ≡ []
none_behind zero [] h = refl
none_behind zero (x ∷ xs) h = absurd (omega (arith, h))
none_behind (suc n) [] h = refl
none_behind (suc n) (x ∷ xs) h = none_behind n xs (omega (arith, h))

-- how many records stand before the next part
unfoldable pub next_at : RepositoryConfig → FrozenList → ℕ → ℕ
next_at config list cursor = cursor + length (items_from config list cursor)

-- the two ways in which a part ends
abbrev by_rest : FrozenList → ℕ → ℕ → Bool → Continuation
by_rest list cursor next test = cond test (remains list.end (extent_at list cursor) (token_text (record { list = list.number; cursor = next }))) (completes (extent_at list cursor))

-- what a part offers: where records remain, a token that tells how many came before
offered_where : (list : FrozenList) (cursor next : ℕ) (test : Bool) (offer : TokenOffer) → offer_in (by_rest list cursor next test) ≡ Some offer
    → (test ≡ true) × (offer ≡ record { token = token_text (record { list = list.number; cursor = next }); expires = list.end })
offered_where list cursor next true offer h = (refl, cc)
offered_where list cursor next false offer h = cc

not_offered : (list : FrozenList) (cursor next : ℕ) (test : Bool) → is_none (offer_in (by_rest list cursor next test)) ≡ not test
not_offered list cursor next true = refl
not_offered list cursor next false = refl

extent_told : (list : FrozenList) (cursor next : ℕ) (test : Bool) → extent_in (by_rest list cursor next test) ≡ Some (extent_at list cursor)
extent_told list cursor next true = refl
extent_told list cursor next false = refl

pub part_items : (config : RepositoryConfig) (list : FrozenList) (cursor : ℕ) → (part_from config list cursor).items ≡ items_from config list cursor
unfolding part_from
part_items config list cursor = refl

part_ends : (config : RepositoryConfig) (list : FrozenList) (cursor : ℕ)
    → (part_from config list cursor).continuation ≡ by_rest list cursor (next_at config list cursor) (nat_lt (next_at config list cursor) (length list.items))
unfolding part_from next_at
part_ends config list cursor = refl

-- whether records remain behind a part
unfoldable pub remain : RepositoryConfig → FrozenList → ℕ → Bool
remain config list cursor = nat_lt (next_at config list cursor) (length list.items)

part_offer : (config : RepositoryConfig) (list : FrozenList) (cursor : ℕ) → is_none (offer_in (part_from config list cursor).continuation) ≡ not (remain config list cursor)
unfolding remain
part_offer config list cursor =
    ap (λ c. is_none (offer_in c)) (part_ends config list cursor) ∙ not_offered list cursor (next_at config list cursor) (nat_lt (next_at config list cursor) (length list.items))

is_left : (k n : ℕ) → not (nat_lt k n) ≡ false → k < n
is_left k n h = grind (arith, nat_tests)

part_dated : (config : RepositoryConfig) (list : FrozenList) (cursor : ℕ) → (part_from config list cursor).granularity ≡ config.granularity
unfolding part_from
part_dated config list cursor = refl

part_placed : (config : RepositoryConfig) (list : FrozenList) (cursor : ℕ) → 1 ≤ config.chunk → cursor < length list.items → IsPageAt config (length list.items) cursor (part_from config list cursor)
unfolding remain next_at
part_placed config list cursor some within = record {
  extent = ap extent_in (part_ends config list cursor) ∙ extent_told list cursor (next_at config list cursor) (nat_lt (next_at config list cursor) (length list.items));
  some = λ none.
      let size = length-drop cursor list.items in
      let left : 1 ≤ length (drop cursor list.items) = omega (arith, within, size) in
      some_taken config.chunk (drop cursor list.items) some left (sym (part_items config list cursor) ∙ none);
  full = λ offers.
      let more : cursor + length (items_from config list cursor) < length list.items =
      is_left (cursor + length (items_from config list cursor)) (length list.items) (sym (part_offer config list cursor) ∙ offers)
      in
      let size = length-drop cursor list.items in
      let within : length (take config.chunk (drop cursor list.items)) < length (drop cursor list.items) = omega (arith, more, size) in
      ap length (part_items config list cursor) ∙ full_part config.chunk (drop cursor list.items) within;
  dated = part_dated config list cursor;
}

-- the next part begins behind a multiple of `chunk` records, where this one does
pub next_behind : (config : RepositoryConfig) (list : FrozenList) (cursor : ℕ) → remain config list cursor ≡ true → next_at config list cursor ≡ cursor + config.chunk
unfolding remain next_at
next_behind config list cursor more =
    let within : cursor + length (items_from config list cursor) < length list.items = ltb-true (cursor + length (items_from config list cursor)) (length list.items) more in
    let size = length-drop cursor list.items in
    let full = full_part config.chunk (drop cursor list.items) (omega (arith, within, size)) in
    omega (arith, full)

next_multiple : (chunk cursor : ℕ) → cursor % chunk ≡ 0 → (cursor + chunk) % chunk ≡ 0
next_multiple chunk cursor multiple =
    add-mod cursor chunk chunk ∙ ap (λ n. (n + chunk % chunk) % chunk) multiple ∙ ap (λ n. (0 + n) % chunk) (mod_self chunk) ∙ zero-mod chunk

-- a cursor that was handed out
is_given_out : (chunk given cursor : ℕ) → 1 ≤ cursor → cursor % chunk ≡ 0 → cursor ≤ given → is_handed_out chunk given cursor ≡ true
is_given_out chunk given cursor some multiple below =
    and_from (nat_lt 0 cursor && eqb (cursor % chunk) 0) (nat_le cursor given)
    (and_from (nat_lt 0 cursor) (eqb (cursor % chunk) 0) (lt-ltb 0 cursor (omega (arith, some))) (eq-eqb (cursor % chunk) 0 multiple)) (le-leb cursor given below)

-- the token of a part is handed out once the part is answered
next_given : (config : RepositoryConfig) (clock : ℤ) (list : FrozenList) (cursor : ℕ) → remain config list cursor ≡ true → next_at config list cursor ≤ (carried_on config clock (next_cursor config list cursor) list).given
unfolding remain next_at
next_given config clock list cursor more =
    let next : ℕ = cursor + length (items_from config list cursor) in
    let there : highest_given (next_cursor config list cursor) list.given ≡ max list.given next =
    ap (λ (o : Option ℕ). highest_given o list.given) (cond-true (nat_lt next (length list.items)) (Some next) None more)
    in
    subst (λ (n : ℕ). next ≤ n) (sym there) (le-max_right list.given next)

-- the first token of a list
pub first_given : (config : RepositoryConfig) (list : FrozenList) → list.given ≡ config.chunk → next_at config list 0 ≤ list.given
unfolding next_at
first_given config list is = let few = length-take config.chunk list.items in omega (arith, few, is)

-- what a part offers behind which records remain
pub part_offers : (config : RepositoryConfig) (list : FrozenList) (cursor : ℕ) → remain config list cursor ≡ true
    → offer_in (part_from config list cursor).continuation ≡ Some (record { token = token_text (record { list = list.number; cursor = next_at config list cursor }); expires = list.end })
unfolding remain
part_offers config list cursor more =
    ap offer_in (part_ends config list cursor)
    ∙ ap (λ (b : Bool). offer_in (by_rest list cursor (next_at config list cursor) b)) more

-- a token lasts as long as its list
part_lasting : (config : RepositoryConfig) (list : FrozenList) (cursor : ℕ) (exchange : Transition) → list.end ≡ exchange.found.clock +ℤ pos config.lifetime → IsLasting config exchange (part_from config list cursor)
part_lasting config list cursor exchange lasting = λ offer offers.
    let is = offered_where list cursor (next_at config list cursor) (nat_lt (next_at config list cursor) (length list.items)) offer (ap offer_in (sym (part_ends config list cursor)) ∙ offers) in
    ap (λ (o : TokenOffer). o.expires) is.1 ∙ lasting

-- ---- the pages so far

-- what a front of a chain that begins behind so many records is answered
pub record IsTold (config : RepositoryConfig) (verb : ListVerb) (format : Format) (items : List ItemState) (cursor : ℕ) (exchanges : List Transition) (pages : List Page) : Type 0 where
  pub told : map (λ (exchange : Transition). answer_in exchange.outcome) exchanges ≡ map (λ (page : Page). Some (answer_by_verb verb format page)) pages
  pub placed : ArePagesAt config (length items) cursor pages
  pub lasting : AreLasting config exchanges pages
  pub others : List ItemState
  pub front : joined pages ++ others ≡ drop cursor items
  pub complete : are_complete pages ≡ true → others ≡ []

nothing_left : (k n : ℕ) → (not (nat_lt k n) || false) ≡ true → n ≤ k
nothing_left k n h = grind (arith, nat_tests)

-- one page, and what is behind it
one_page : (config : RepositoryConfig) (list : FrozenList) (format : Format) (cursor : ℕ) (exchange : Transition) → answer_in exchange.outcome ≡ Some (answer_by_verb list.verb format (part_from config list cursor))
    → list.end ≡ exchange.found.clock +ℤ pos config.lifetime → 1 ≤ config.chunk → cursor < length list.items
    → IsTold config list.verb format list.items cursor (exchange ∷ []) (part_from config list cursor ∷ [])
unfolding remain next_at
one_page config list format cursor exchange told lasting some within =
    let items : List ItemState = items_from config list cursor in
    let behind : List ItemState = drop (length items) (drop cursor list.items) in
    record {
      told = ap (λ (a : Option VerbAnswer). a ∷ []) told;
      placed = (part_placed config list cursor some within, tt);
      lasting = (part_lasting config list cursor exchange lasting, tt);
      others = behind;
      front = ap (λ (xs : List ItemState). (xs ++ []) ++ behind) (part_items config list cursor) ∙ ap (λ (xs : List ItemState). xs ++ behind) (append-nil items) ∙ cut config.chunk (drop cursor list.items);
      complete = λ ends.
          drop-drop (length items) cursor list.items
          ∙ none_behind (cursor + length items) list.items (nothing_left (cursor + length items) (length list.items) (ap (λ b. b || false) (sym (part_offer config list cursor)) ∙ ends));
    }

-- one page more, before others
more_pages : (config : RepositoryConfig) (list : FrozenList) (format : Format) (cursor : ℕ) (exchange : Transition) (exchanges : List Transition) (pages : List Page)
    → answer_in exchange.outcome ≡ Some (answer_by_verb list.verb format (part_from config list cursor)) → list.end ≡ exchange.found.clock +ℤ pos config.lifetime → remain config list cursor ≡ true
    → 1 ≤ config.chunk → cursor < length list.items → IsTold config list.verb format list.items (next_at config list cursor) exchanges pages
    → IsTold config list.verb format list.items cursor (exchange ∷ exchanges) (part_from config list cursor ∷ pages)
unfolding next_at
more_pages config list format cursor exchange exchanges pages told lasting more some within later =
    let items : List ItemState = items_from config list cursor in
    let placed_later : ArePagesAt config (length list.items) (cursor + length (part_from config list cursor).items) pages =
    subst (λ (xs : List ItemState). ArePagesAt config (length list.items) (cursor + length xs) pages) (sym (part_items config list cursor)) later.placed
    in
    record {
      told =
          ap (λ (o : Option VerbAnswer). o ∷ map (λ (e : Transition). answer_in e.outcome) exchanges) told
          ∙ ap (λ ps. Some (answer_by_verb list.verb format (part_from config list cursor)) ∷ ps) later.told;
      placed = (part_placed config list cursor some within, placed_later);
      lasting = (part_lasting config list cursor exchange lasting, later.lasting);
      others = later.others;
      front =
          ap (λ (xs : List ItemState). (xs ++ joined pages) ++ later.others) (part_items config list cursor)
          ∙ append_assoc items (joined pages) later.others
          ∙ ap (λ ys. items ++ ys) (later.front ∙ sym (drop-drop (length items) cursor list.items))
          ∙ cut config.chunk (drop cursor list.items);
      complete = λ ends. later.complete (ap (λ b. b || are_complete pages) (sym (part_offer config list cursor ∙ ap not more)) ∙ ends);
    }

-- ---- a token is answered

-- the verb of records is its own
same_verb : (verb : ListVerb) → is_of_records verb ≡ true → is_same_verb verb verb ≡ true
same_verb list.Identifiers h = refl
same_verb list.Records h = refl
same_verb list.Sets h = cc

pub told_page : (verb : ListVerb) (format : Format) (page : Page) → is_of_records verb ≡ true → page_in (answer_by_verb verb format page) ≡ Some page
told_page list.Identifiers format page h = refl
told_page list.Records format page h = refl
told_page list.Sets format page h = cc

-- what is needed of a list beside that it stands: its verb is one of records, its format is one of the repository, its size is a number of
-- 64 bits, and a part may have some of its records
pub record IsGood (config : RepositoryConfig) (list : FrozenList) : Type 0 where
  pub format : Format
  pub verb : is_of_records list.verb ≡ true
  pub known : format_named list.prefix config.formats ≡ Some format
  pub small : length list.items < 2 ^ 64
  pub part : 1 ≤ config.chunk

numbered : (number next last : ℕ) → nat_lt number next ≡ true → next ≤ last → number < last + 1
numbered number next last below few = grind (arith, nat_tests)

small_number : (config : RepositoryConfig) (state : RepoState) (list : FrozenList) → IsSound config state → IsThere list state.open_lists → list.number < 2 ^ 64
small_number config state list sound there =
    numbered list.number state.open_lists.next LAST_NUMBER
    (of_found (is_of_number list.number) (is_given state.open_lists.next) state.open_lists.lists (list_there list state.open_lists there) there.4 sound.given) sound.few

abbrev pub asked_next : FrozenList → ℕ → List ℕ
asked_next list cursor = token_text (record { list = list.number; cursor = cursor })

token_read : (list : FrozenList) (cursor : ℕ) → list.number < 2 ^ 64 → cursor < 2 ^ 64 → token_of (asked_next list cursor) ≡ Some (record { list = list.number; cursor = cursor })
token_read list cursor small within =
    token_of-is (asked_next list cursor) (record { list = list.number; cursor = cursor }) (record { list = small; cursor = within; spelled = refl })

-- a part of a list does not depend on its end before, nor on what was handed out
part_found : (config : RepositoryConfig) (clock : ℤ) (list : FrozenList) (cursor : ℕ) (end : ℤ) (given : ℕ)
    → part_from config (prolonged config clock (record list { end = end; given = given })) cursor ≡ part_from config (prolonged config clock list) cursor
unfolding part_from
part_found config clock list cursor end given = refl

part_carried : (config : RepositoryConfig) (clock : ℤ) (next : Option ℕ) (list : FrozenList) (cursor : ℕ) → part_from config (prolonged config clock list) cursor ≡ part_from config (carried_on config clock next list) cursor
unfolding part_from
part_carried config clock next list cursor = refl

-- the token of a list that is there, by its verb, of a record that it has, and with a cursor that was handed out
answered_next : (config : RepositoryConfig) (state : RepoState) (list : FrozenList) (cursor : ℕ) (good : IsGood config list) → IsSound config state → IsThere list state.open_lists → cursor < length list.items
    → 1 ≤ cursor → cursor % config.chunk ≡ 0 → cursor ≤ list.given
    → request_response config state (asks (ask.Resume list.verb (asked_next list cursor)))
    ≡ (with_answer (answer_by_verb list.verb good.format (part_from config (prolonged config state.clock list) cursor)), with_carried_on config state.clock list.number (next_cursor config list cursor) state.open_lists)
answered_next config state list cursor good sound there within some multiple below =
    let found : FrozenList = list_there list state.open_lists there in
    let token : Token = record { list = list.number; cursor = cursor } in
    let from : Option FrozenList → Response × OpenLists = λ o. continued_response config state.clock state.open_lists list.verb cursor (where_continued config list.verb token o) in
    let higher = there.3 in
    let valid : is_valid_cursor config.chunk (length list.items) there.1 cursor ≡ true =
    and_from (nat_lt cursor (length list.items)) (is_handed_out config.chunk there.1 cursor) (lt-ltb cursor (length list.items) within)
    (is_given_out config.chunk there.1 cursor some multiple (omega (arith, below, higher)))
    in
    let right : is_continued config.chunk list.verb token found.verb (length found.items) found.given ≡ true =
    and_from (is_same_verb list.verb list.verb) (is_valid_cursor config.chunk (length list.items) there.1 cursor) (same_verb list.verb good.verb) valid
    in
    ap (token_response config state.clock state.open_lists list.verb) (token_read list cursor (small_number config state list sound there) (omega (arith, within, good.small)))
    ∙ ap from there.4
    ∙ ap (continued_response config state.clock state.open_lists list.verb cursor) (cond-true (is_continued config.chunk list.verb token found.verb (length found.items) found.given) (Some found) None right)
    ∙ ap (λ (p : Page). (with_answer (part_answer list.verb (format_named list.prefix config.formats) p), with_carried_on config state.clock list.number (next_cursor config list cursor) state.open_lists)) (part_found config state.clock list cursor there.0 there.1)
    ∙ ap (λ (f : Option Format). (with_answer (part_answer list.verb f (part_from config (prolonged config state.clock list) cursor)), with_carried_on config state.clock list.number (next_cursor config list cursor) state.open_lists)) good.known

-- ---- one request of a chain

-- the answer of what is said, if it is one
abbrev pub answer_said : Response → Option VerbAnswer
answer_said (with_answer answer) = Some answer
answer_said (retry_after seconds) = None

said_answer : (config : RepositoryConfig) (clock : ℤ) (asked : Attributes) (said : Response) → answer_in (outcome_of config clock asked said) ≡ answer_said said
said_answer config clock asked (with_answer answer) = refl
said_answer config clock asked (retry_after seconds) = refl

said_later : (config : RepositoryConfig) (clock : ℤ) (asked : Attributes) (seconds : ℤ) → is_later (outcome_of config clock asked (retry_after seconds)) ≡ true
said_later config clock asked seconds = refl

-- a request that is answered so, and with these lists open then
pub asked_page : (config : RepositoryConfig) (state : RepoState) (command : Command) (request : AskOrError) (said : Response) (open_lists : OpenLists) → command ≡ requesting request → request_response config state request ≡ (said, open_lists)
    → (answer_in (act config state command).0 ≡ answer_said said) × ((act config state command).1 ≡ record state { open_lists = open_lists })
unfolding act
asked_page config state command request said open_lists is answer =
    let told : answer_in (act config state (requesting request)).0 ≡ answer_said said =
    said_answer config state.clock (arguments_of_request request) (request_response config state request).0 ∙ ap (λ (done : Response × OpenLists). answer_said done.0) answer
    in
    let left : (act config state (requesting request)).1 ≡ record state { open_lists = open_lists } = ap (λ (done : Response × OpenLists). record state { open_lists = done.1 }) answer in
    (ap (λ (c : Command). answer_in (act config state c).0) is ∙ told, ap (λ (c : Command). (act config state c).1) is ∙ left)

-- one that is told to wait is
pub asked_later : (config : RepositoryConfig) (state : RepoState) (command : Command) (request : AskOrError) (seconds : ℤ) (open_lists : OpenLists) → command ≡ requesting request
    → request_response config state request ≡ (retry_after seconds, open_lists) → is_later (act config state command).0 ≡ true
unfolding act
asked_later config state command request seconds open_lists is answer =
    ap (λ (c : Command). is_later (act config state c).0) is
    ∙ ap (λ (done : Response × OpenLists). is_later (outcome_of config state.clock (arguments_of_request request) done.0)) answer

-- the next request of a chain, by the token of the page before it
turned : (config : RepositoryConfig) (state : RepoState) (command : Command) (list : FrozenList) (cursor : ℕ) (good : IsGood config list) → IsSound config state → Stands config list state
    → command ≡ next_request list.verb (asked_next list cursor) → cursor < length list.items → int_lt state.clock list.end ≡ true → 1 ≤ cursor → cursor % config.chunk ≡ 0 → cursor ≤ list.given
    → (let after = carried_on config state.clock (next_cursor config list cursor) list in
    (answer_in (act config state command).0 ≡ Some (answer_by_verb list.verb good.format (part_from config after cursor))) × Stands config after (act config state command).1)
turned config state command list cursor good sound stands is within before some multiple below =
    let there = stands.there before in
    let next : Option ℕ = next_cursor config list cursor in
    let done = asked_page config state command _ _ _ is (answered_next config state list cursor good sound there within some multiple below) in (
      done.0 ∙ ap (λ (p : Page). Some (answer_by_verb list.verb good.format p)) (part_carried config state.clock next list cursor),
      subst (Stands config (carried_on config state.clock next list)) (sym done.1) (stands_carried_on config state next list there),
    )

-- the list goes on standing where another command comes
stands_on : (config : RepositoryConfig) (state : RepoState) (command : Command) (list : FrozenList) → IsSound config state → Stands config list state → Stands config list (act config state command).1
stands_on config state command list sound stands =
    let done = effect_of config state command sound in
    subst (Stands config list) (sym done.done) (stands_effected config list state done.effect stands)

-- ---- a chain behind a page

-- what the exchange after a page asks for
next_asked : (config : RepositoryConfig) (list : FrozenList) (good : IsGood config list) (cursor : ℕ) (before after : Transition)
    → answer_in before.outcome ≡ Some (answer_by_verb list.verb good.format (part_from config list cursor)) → IsNextRequest list.verb before after
    → (remain config list cursor ≡ true) × (after.command ≡ next_request list.verb (asked_next list (next_at config list cursor))) × (int_lt after.found.clock list.end ≡ true)
unfolding remain
next_asked config list good cursor before after told next =
    let pages : Some next.page ≡ Some (part_from config list cursor) =
    sym next.told ∙ ap (option_and_then page_in) told ∙ told_page list.verb good.format (part_from config list cursor) good.verb
    in
    let page : next.page ≡ part_from config list cursor = cc in
    let offered : offer_in (by_rest list cursor (next_at config list cursor) (nat_lt (next_at config list cursor) (length list.items))) ≡ Some next.offer =
    ap offer_in (sym (part_ends config list cursor)) ∙ ap (λ (p : Page). offer_in p.continuation) (sym page) ∙ next.offered
    in
    let is = offered_where list cursor (next_at config list cursor) (nat_lt (next_at config list cursor) (length list.items)) next.offer offered in (
      is.0,
      next.asked ∙ ap (λ (o : TokenOffer). next_request list.verb o.token) is.1,
      ap (λ (o : TokenOffer). int_lt after.found.clock o.expires) (sym is.1) ∙ next.unexpired,
    )

remains_within : (config : RepositoryConfig) (list : FrozenList) (cursor : ℕ) → remain config list cursor ≡ true → nat_lt (next_at config list cursor) (length list.items) ≡ true
unfolding remain
remains_within config list cursor h = h

-- the same of the list as it is then
next_given' : (config : RepositoryConfig) (clock : ℤ) (list : FrozenList) (cursor : ℕ)
    → (let after = carried_on config clock (next_cursor config list cursor) list in remain config after cursor ≡ true → next_at config after cursor ≤ after.given)
unfolding remain next_at
next_given' config clock list cursor more = next_given config clock list cursor more

-- the pages of those that follow a page, and of it
abbrev pub Followed : RepositoryConfig → ListVerb → Format → List ItemState → ℕ → List Transition → Type 0
Followed config verb format items cursor exchanges = (pages : List Page) × IsTold config verb format items cursor exchanges pages

pub follow : (config : RepositoryConfig) (commands : List Timed) (state : RepoState) (list : FrozenList) (cursor : ℕ) (before : Transition) (others : List Transition)
    (good : IsGood config list) → IsSound config state → Stands config list state → cursor < length list.items → cursor % config.chunk ≡ 0 → (remain config list cursor ≡ true → next_at config list cursor ≤ list.given)
    → answer_in before.outcome ≡ Some (answer_by_verb list.verb good.format (part_from config list cursor)) → list.end ≡ before.found.clock +ℤ pos config.lifetime → IsPart others (run config state commands) → AreNext list.verb before others → Followed config list.verb good.format list.items cursor (before ∷ others)
follow config [] state list cursor before others good sound stands within multiple given told lasting none next =
    subst (λ (es : List Transition). Followed config list.verb good.format list.items cursor (before ∷ es)) (sym none) (part_from config list cursor ∷ [], one_page config list good.format cursor before told lasting good.part within)
follow config (timed ∷ commands) state list cursor before others good sound stands within multiple given told lasting (inl part) next =
    let found : RepoState = moved timed.moment state in
    let sound_found = sound_moved config timed.moment state sound in
    let stands_found = stands_moved config list timed.moment state stands in
    follow config commands (act config found timed.command).1 list cursor before others good (sound_act config found timed.command sound_found)
    (stands_on config found timed.command list sound_found stands_found) within multiple given told lasting part next
follow config (timed ∷ commands) state list cursor before others good sound stands within multiple given told lasting (inr here) next =
    let found : RepoState = moved timed.moment state in
    let exchange : Transition = performed config state timed in
    let sound_found = sound_moved config timed.moment state sound in
    let stands_found = stands_moved config list timed.moment state stands in
    let nexts : AreNext list.verb before (exchange ∷ here.0) = subst (AreNext list.verb before) here.1 next in
    let asked = next_asked config list good cursor before exchange told nexts.0 in
    let next' : ℕ = next_at config list cursor in
    let more : next' < length list.items = ltb-true next' (length list.items) (remains_within config list cursor asked.0) in
    let behind : next' ≡ cursor + config.chunk = next_behind config list cursor asked.0 in
    let part = good.part in
    let some : 1 ≤ next' = omega (arith, behind, part) in
    let multiple' : next' % config.chunk ≡ 0 = ap (λ n. n % config.chunk) behind ∙ next_multiple config.chunk cursor multiple in
    let turn = turned config found timed.command list next' good sound_found stands_found asked.1 more asked.2 some multiple' (given asked.0) in
    let list' : FrozenList = carried_on config found.clock (next_cursor config list next') list in
    let later = follow config commands exchange.left list' next' exchange here.0 (record { format = good.format; verb = good.verb; known = good.known; small = good.small; part = good.part })
    (sound_act config found timed.command sound_found) turn.1 more multiple' (λ left. next_given' config found.clock list next' left) turn.0 refl here.2 nexts.1
    in
    subst (λ (es : List Transition). Followed config list.verb good.format list.items cursor (before ∷ es)) (sym here.1)
    (part_from config list cursor ∷ later.0, more_pages config list good.format cursor before (exchange ∷ here.0) later.0 told lasting asked.0 good.part within later.1)
