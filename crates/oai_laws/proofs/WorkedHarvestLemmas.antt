-- The worked run is computed, and three harvests are found in it.
use Rattle.std.proofs.Common.{◌≡◌, ◌≢◌, ◌∙◌, inl, inr, ℕ, ℤ, pos, ◌+◌, ◌<◌, ◌≤◌, true, false, ◌||◌, List, [], ◌∷◌, ◌++◌, length, codes, Option, None, Some, refl, sym, ap, subst, arith}
use Rattle.oai_names.specs.declared.list_verbs.ListVerb.TheVariants as list
use Rattle.oai_time.specs.Bound.{IsBound, bound_of}
use Rattle.oai_time.specs.declared.bound.Bound.{Bound}
use Rattle.oai_time.specs.declared.bound.Bound.TheVariants.{Second as OneSecond}
use Rattle.oai_time.proofs.ReadingLemmas.{bound_of_found}
use Rattle.oai_item.specs.Formats.{dublin_core, format_named}
use Rattle.oai_item.specs.Items.{item_named, without, placed}
use Rattle.oai_item.specs.Item.{ItemState, live_item, record_named, tombstone_of}
use Rattle.oai_item.specs.Membership.{reduced, distinct}
use Rattle.oai_item.specs.Selection.{Filter, selected}
use Rattle.oai_item.specs.Encoding.{encoded}
use Rattle.oai_item.specs.Encoding as encoding
use Rattle.std.specs.Fmt as fmt
use Rattle.std.specs.Str as str
use Rattle.oai_names.specs.Characters.{is_xml_text}
use Rattle.oai_item.specs.ShortTexts.{is_short_text}
use Rattle.oai_settings.specs.Config.{IsConfig, are_limits, is_date, is_described}
use Rattle.oai_lists.specs.Tokens.{token_of, token_text}
use Rattle.oai_args.specs.Asks.{asks}
use Rattle.oai_args.specs.declared.requests.Ask.TheVariants as ask
use Rattle.oai_answers.specs.Answers.{Page, fails}
use Rattle.oai_answers.specs.declared.errors.ErrorCode.TheVariants.{NoRecordsMatch}
use Rattle.std.specs.Prelude.{option_and_then}
use Rattle.std.proofs.lemmas.List.{append-nil}
use Rattle.oai_repo.proofs.ClockLemmas.{writable}
use Rattle.oai_repo.specs.Answers.{lower_given, upper_given}
use Rattle.oai_holdings.specs.Changes.{changed, deposit_refusal, is_one_too_many, item_refusal, refusal_of}
use Rattle.oai_repo.specs.Listing.{list_response, part_from, selection_response, wait_at, with_answer}
use Rattle.oai_repo.specs.Machine.{act}
use Rattle.oai_repo.specs.State.{FrozenList, RepoState, empty_state, moved}
use Rattle.oai_laws.specs.Effects.{IsSound}
use Rattle.oai_laws.specs.Eras.{left_behind}
use Rattle.oai_laws.specs.Following.{IsAnsweredWhole, IsChain, ListQuery, TokenOffer, answer_in, first_request, is_later, next_request, offer_in, page_in, page_shown, selection_in}
use Rattle.oai_laws.specs.Runs.{IsPart, Timed, Transition, performed, run}
use Rattle.oai_laws.specs.Shown.{is_followed_to_its_end, is_last_page}
use Rattle.oai_laws.specs.Worked.{after, delete, deposit}
use Rattle.oai_laws.proofs.EffectLemmas.{sound_act, sound_empty, sound_moved}
use Rattle.oai_laws.proofs.FollowLemmas.{asked_page}
use Rattle.oai_laws.proofs.WholeLemmas.{whole_told}
use Rattle.oai_copy.specs.Copies.{caught_up_with}
use Rattle.oai_laws.specs.Harvests.{AreSuccessive, Harvest, harvested, items_told, records_since}
use Rattle.oai_laws.specs.WorkedHarvests.{AreWorkedHarvests, archive_b, datestamp, harvest_commands, prefix, told, harvest_run}

-- ---- the states that the run goes through

abbrev pub second : ℕ → ℤ
second n = pos (1_704_067_200 + n)

-- an item as it was deposited
abbrev pub item : List ℕ → ℕ → ItemState
item identifier n = live_item identifier (second n) [] ((codes "oai_dc", []) ∷ [])

abbrev pub item_1 : ItemState
item_1 = item (codes "oai:b:1") 0

abbrev pub item_2 : ItemState
item_2 = item (codes "oai:b:2") 0

abbrev pub item_3 : ItemState
item_3 = item (codes "oai:b:3") 0

abbrev pub item_4 : ItemState
item_4 = item (codes "oai:b:4") 6

abbrev pub left_2 : ItemState
left_2 = tombstone_of (second 5) item_2

abbrev pub three : List ItemState
three = item_1 ∷ item_2 ∷ item_3 ∷ []

abbrev pub list_until : ℕ → FrozenList
list_until end = record { number = 1; verb = list.Records; prefix = codes "oai_dc"; items = three; end = second end; given = 2 }

abbrev pub state_at : ℕ → List ItemState → List FrozenList → ℕ → RepoState
state_at n items lists next = record { clock = second n; holdings = record { items = items; sets = [] }; open_lists = record { lists = lists; next = next } }

abbrev pub s1 : RepoState
s1 = state_at 0 (item_1 ∷ []) [] 1

abbrev pub s2 : RepoState
s2 = state_at 0 (item_1 ∷ item_2 ∷ []) [] 1

abbrev pub s3 : RepoState
s3 = state_at 0 three [] 1

abbrev pub s4 : RepoState
s4 = state_at 5 three (list_until 65 ∷ []) 2

abbrev pub s5 : RepoState
s5 = state_at 5 (item_1 ∷ item_3 ∷ left_2 ∷ []) (list_until 65 ∷ []) 2

abbrev pub s6 : RepoState
s6 = state_at 6 (item_1 ∷ item_3 ∷ left_2 ∷ []) (list_until 66 ∷ []) 2

abbrev pub four : List ItemState
four = item_1 ∷ item_3 ∷ left_2 ∷ item_4 ∷ []

abbrev pub s7 : RepoState
s7 = state_at 6 four (list_until 66 ∷ []) 2

abbrev pub s8 : RepoState
s8 = state_at 7 four (list_until 66 ∷ []) 2

abbrev pub s9 : RepoState
s9 = state_at 8 four (list_until 66 ∷ []) 2

-- a command leads from one of them to the next
abbrev pub Leads : RepoState → Timed → RepoState → Type 0
Leads old timed new = (performed archive_b old timed).left ≡ new

led_1 : Leads (empty_state archive_b) (after 0 (deposit (codes "oai:b:1"))) s1
unfolding act refusal_of changed deposit_refusal item_refusal is_one_too_many item_named without placed record_named reduced distinct format_named dublin_core encoded encoding.encoded_stamp encoding.encoded_text encoding.encoded_count encoding.encoded_list encoding.encoded_record
led_1 = refl

led_2 : Leads s1 (after 0 (deposit (codes "oai:b:2"))) s2
unfolding act refusal_of changed deposit_refusal item_refusal is_one_too_many item_named without placed record_named reduced distinct format_named dublin_core encoded encoding.encoded_stamp encoding.encoded_text encoding.encoded_count encoding.encoded_list encoding.encoded_record
led_2 = refl

led_3 : Leads s2 (after 0 (deposit (codes "oai:b:3"))) s3
unfolding act refusal_of changed deposit_refusal item_refusal is_one_too_many item_named without placed record_named reduced distinct format_named dublin_core encoded encoding.encoded_stamp encoding.encoded_text encoding.encoded_count encoding.encoded_list encoding.encoded_record
led_3 = refl

pub led_4 : Leads s3 (after 5 (first_request (records_since prefix None))) s4
unfolding act selected selection_response part_from wait_at record_named format_named dublin_core token_text token_of fmt.digits
led_4 = refl

pub led_5 : Leads s4 (after 5 (delete (codes "oai:b:2"))) s5
unfolding act refusal_of changed deposit_refusal item_refusal is_one_too_many item_named without placed record_named reduced distinct format_named dublin_core encoded encoding.encoded_stamp encoding.encoded_text encoding.encoded_count encoding.encoded_list encoding.encoded_record
led_5 = refl

pub led_6 : Leads s5 (after 6 (next_request list.Records (codes "1.2"))) s6
unfolding act selected selection_response part_from wait_at record_named format_named dublin_core token_text token_of fmt.digits
led_6 = refl

pub led_7 : Leads s6 (after 6 (deposit (codes "oai:b:4"))) s7
unfolding act refusal_of changed deposit_refusal item_refusal is_one_too_many item_named without placed record_named reduced distinct format_named dublin_core encoded encoding.encoded_stamp encoding.encoded_text encoding.encoded_count encoding.encoded_list encoding.encoded_record
led_7 = refl

-- ---- the first harvest, over two pages

abbrev pub page_1 : Transition
page_1 = performed archive_b s3 (after 5 (first_request (records_since prefix None)))

abbrev pub page_2 : Transition
page_2 = performed archive_b s5 (after 6 (next_request list.Records (codes "1.2")))

abbrev pub harvest_1 : Harvest
harvest_1 = record { first = page_1; others = page_2 ∷ [] }

abbrev pub shown_page_1 : Page
shown_page_1 = part_from archive_b (list_until 65) 0

abbrev shown_page_2 : Page
shown_page_2 = part_from archive_b (list_until 66) 2

pub told_1 : page_shown page_1.outcome ≡ Some shown_page_1
unfolding act selected selection_response part_from wait_at record_named format_named dublin_core token_text token_of fmt.digits
told_1 = refl

told_2 : page_shown page_2.outcome ≡ Some shown_page_2
unfolding act selected selection_response part_from wait_at record_named format_named dublin_core token_text token_of fmt.digits
told_2 = refl

abbrev pub offer_1 : TokenOffer
offer_1 = record { token = codes "1.2"; expires = second 65 }

pub offered_1 : offer_in shown_page_1.continuation ≡ Some offer_1
unfolding part_from token_text fmt.digits
offered_1 = refl

first_not_last : is_last_page (Some shown_page_1) ≡ false
unfolding part_from token_text fmt.digits
first_not_last = refl

second_last : is_last_page (Some shown_page_2) ≡ true
unfolding part_from token_text fmt.digits
second_last = refl

long : archive_b.chunk < length (selection_in page_1.found (records_since prefix None))
unfolding selected record_named
long = omega arith

not_later : is_later page_1.outcome ≡ false
unfolding act selected selection_response part_from wait_at record_named format_named dublin_core token_text token_of fmt.digits
not_later = refl

items_1 : shown_page_1.items ≡ item_1 ∷ item_2 ∷ []
unfolding part_from
items_1 = refl

items_2 : shown_page_2.items ≡ item_3 ∷ []
unfolding part_from
items_2 = refl

pub harvested_1 : harvested harvest_1 ≡ three
harvested_1 =
    ap (λ o. items_told o ++ (items_told (page_shown page_2.outcome) ++ [])) told_1 ∙ ap (λ o. shown_page_1.items ++ (items_told o ++ [])) told_2
    ∙ ap (λ (xs : List ItemState). xs ++ (shown_page_2.items ++ [])) items_1 ∙ ap (λ (xs : List ItemState). (item_1 ∷ item_2 ∷ []) ++ (xs ++ [])) items_2

-- ---- the second harvest, told at once

-- a datestamp, as it is written, stands for its second
pub stamped : (n : ℕ) → IsBound (datestamp n) (OneSecond (second n)) → bound_of (datestamp n) ≡ Some (OneSecond (second n))
stamped n is = bound_of_found (datestamp n) (OneSecond (second n)) is

pub bound_5 : IsBound (datestamp 5) (OneSecond (second 5))
bound_5 = record { in_range = writable (second 5) refl; written = refl }

pub bound_7 : IsBound (datestamp 7) (OneSecond (second 7))
bound_7 = record { in_range = writable (second 7) refl; written = refl }

-- a filter from that second on
abbrev pub filter_from : Option Bound → Filter
filter_from bound = record { prefix = prefix; lower = lower_given bound; upper = upper_given None; set = None }

abbrev pub request_2 : ListQuery
request_2 = records_since prefix (Some (datestamp 5))

abbrev pub request_3 : ListQuery
request_3 = records_since prefix (Some (datestamp 7))

four_from_5 : selected (filter_from (Some (OneSecond (second 5)))) four ≡ left_2 ∷ item_4 ∷ []
unfolding selected record_named
four_from_5 = refl

four_from_7 : selected (filter_from (Some (OneSecond (second 7)))) four ≡ []
unfolding selected record_named
four_from_7 = refl

selected_2 : selection_in s8 request_2 ≡ left_2 ∷ item_4 ∷ []
selected_2 = ap (λ (b : Option Bound). selected (filter_from b) four) (stamped 5 bound_5) ∙ four_from_5

selected_3 : selection_in s9 request_3 ≡ []
selected_3 = ap (λ (b : Option Bound). selected (filter_from b) four) (stamped 7 bound_7) ∙ four_from_7

-- each of these states is sound
pub sound_led : (old new : RepoState) (timed : Timed) → Leads old timed new → IsSound archive_b old → IsSound archive_b new
sound_led old new timed leads sound =
    subst (IsSound archive_b) leads (sound_act archive_b (moved timed.moment old) timed.command (sound_moved archive_b timed.moment old sound))

pub sound_7 : IsSound archive_b s7
sound_7 =
    sound_led s6 s7 (after 6 (deposit (codes "oai:b:4"))) led_7
    (sound_led s5 s6 (after 6 (next_request list.Records (codes "1.2"))) led_6
    (sound_led s4 s5 (after 5 (delete (codes "oai:b:2"))) led_5
    (sound_led s3 s4 (after 5 (first_request (records_since prefix None))) led_4
    (sound_led s2 s3 (after 0 (deposit (codes "oai:b:3"))) led_3
    (sound_led s1 s2 (after 0 (deposit (codes "oai:b:2"))) led_2
    (sound_led (empty_state archive_b) s1 (after 0 (deposit (codes "oai:b:1"))) led_1 (sound_empty archive_b)))))))

pub sound_8 : IsSound archive_b s8
sound_8 = sound_moved archive_b (second 7) s7 sound_7

some_selected : (xs : List ItemState) → xs ≡ left_2 ∷ item_4 ∷ [] → xs ≢ []
some_selected xs is none = cc

few_selected : (xs : List ItemState) → xs ≡ left_2 ∷ item_4 ∷ [] → length xs ≤ archive_b.chunk
few_selected xs is = rw is (omega arith)

answered_2 : IsAnsweredWhole archive_b s8 request_2
answered_2 = whole_told archive_b s8 request_2 sound_8 refl (some_selected (selection_in s8 request_2) selected_2) (few_selected (selection_in s8 request_2) selected_2)

abbrev pub exchange_2 : Transition
exchange_2 = performed archive_b s7 (after 7 (first_request request_2))

abbrev pub harvest_2 : Harvest
harvest_2 = record { first = exchange_2; others = [] }

pub led_8 : Leads s7 (after 7 (first_request request_2)) s8
led_8 = answered_2.left

shown_2 : page_shown exchange_2.outcome ≡ Some answered_2.page
shown_2 = ap (option_and_then page_in) answered_2.told

pub harvested_2 : harvested harvest_2 ≡ left_2 ∷ item_4 ∷ []
harvested_2 = ap (λ o. items_told o ++ []) shown_2 ∙ append-nil answered_2.page.items ∙ answered_2.items ∙ selected_2

-- ---- the third harvest, of nothing

abbrev pub exchange_3 : Transition
exchange_3 = performed archive_b s8 (after 8 (first_request request_3))

abbrev pub harvest_3 : Harvest
harvest_3 = record { first = exchange_3; others = [] }

nothing_said : list_response archive_b s9.clock s9.open_lists s9.holdings.sets list.Records prefix None [] ≡ (with_answer (fails NoRecordsMatch), s9.open_lists)
unfolding selection_response format_named dublin_core
nothing_said = refl

answered_3 : (answer_in exchange_3.outcome ≡ Some (fails NoRecordsMatch)) × (exchange_3.left ≡ s9)
answered_3 =
    asked_page archive_b s9 (first_request request_3) (asks (ask.List list.Records prefix (Some (datestamp 7)) None None)) (with_answer (fails NoRecordsMatch)) s9.open_lists refl
    (ap (list_response archive_b s9.clock s9.open_lists s9.holdings.sets list.Records prefix None) selected_3 ∙ nothing_said)

pub harvested_3 : harvested harvest_3 ≡ []
harvested_3 = ap (λ o. items_told o ++ []) (ap (option_and_then page_in) answered_3.0)

-- ---- all of them

-- a run passes over a command, or takes it up
pub passes_over : (old new : RepoState) (timed : Timed) (commands : List Timed) (some : List Transition) → Leads old timed new → IsPart some (run archive_b new commands)
    → IsPart some (run archive_b old (timed ∷ commands))
passes_over old new timed commands some leads part = inl (subst (λ (state : RepoState). IsPart some (run archive_b state commands)) (sym leads) part)

pub takes_up : (old new : RepoState) (timed : Timed) (commands : List Timed) (some : List Transition) → Leads old timed new → IsPart some (run archive_b new commands)
    → IsPart (performed archive_b old timed ∷ some) (run archive_b old (timed ∷ commands))
takes_up old new timed commands some leads part = inr (some, refl, subst (λ (state : RepoState). IsPart some (run archive_b state commands)) (sym leads) part)

abbrev from_9 : List Timed
from_9 = after 8 (first_request request_3) ∷ []

abbrev from_8 : List Timed
from_8 = after 7 (first_request request_2) ∷ from_9

abbrev from_7 : List Timed
from_7 = after 6 (deposit (codes "oai:b:4")) ∷ from_8

abbrev from_6 : List Timed
from_6 = after 6 (next_request list.Records (codes "1.2")) ∷ from_7

abbrev from_5 : List Timed
from_5 = after 5 (delete (codes "oai:b:2")) ∷ from_6

abbrev from_4 : List Timed
from_4 = after 5 (first_request (records_since prefix None)) ∷ from_5

abbrev from_3 : List Timed
from_3 = after 0 (deposit (codes "oai:b:3")) ∷ from_4

abbrev from_2 : List Timed
from_2 = after 0 (deposit (codes "oai:b:2")) ∷ from_3

-- what is found behind three deposits is found in the run
in_run : (some : List Transition) → IsPart some (run archive_b s3 from_4) → IsPart some harvest_run
in_run some part =
    passes_over (empty_state archive_b) s1 (after 0 (deposit (codes "oai:b:1"))) from_2 some led_1
    (passes_over s1 s2 (after 0 (deposit (codes "oai:b:2"))) from_3 some led_2
    (passes_over s2 s3 (after 0 (deposit (codes "oai:b:3"))) from_4 some led_3 part))

last_two : IsPart (exchange_2 ∷ exchange_3 ∷ []) (run archive_b s7 from_8)
last_two = takes_up s7 s8 (after 7 (first_request request_2)) from_9 (exchange_3 ∷ []) led_8 (inr ([], refl, refl))

pub begun : IsPart (page_1 ∷ exchange_2 ∷ exchange_3 ∷ []) harvest_run
begun =
    in_run (page_1 ∷ exchange_2 ∷ exchange_3 ∷ [])
    (takes_up s3 s4 (after 5 (first_request (records_since prefix None))) from_5 (exchange_2 ∷ exchange_3 ∷ []) led_4
    (passes_over s4 s5 (after 5 (delete (codes "oai:b:2"))) from_6 (exchange_2 ∷ exchange_3 ∷ []) led_5
    (passes_over s5 s6 (after 6 (next_request list.Records (codes "1.2"))) from_7 (exchange_2 ∷ exchange_3 ∷ []) led_6
    (passes_over s6 s7 (after 6 (deposit (codes "oai:b:4"))) from_8 (exchange_2 ∷ exchange_3 ∷ []) led_7 last_two))))

pub none_behind : (commands : List Transition) → IsPart [] commands
none_behind [] = refl
none_behind (x ∷ commands) = inl (none_behind commands)

pages_among : IsPart (page_1 ∷ page_2 ∷ []) harvest_run
pages_among =
    in_run (page_1 ∷ page_2 ∷ [])
    (takes_up s3 s4 (after 5 (first_request (records_since prefix None))) from_5 (page_2 ∷ []) led_4
    (passes_over s4 s5 (after 5 (delete (codes "oai:b:2"))) from_6 (page_2 ∷ []) led_5
    (takes_up s5 s6 (after 6 (next_request list.Records (codes "1.2"))) from_7 [] led_6 (none_behind (run archive_b s6 from_7)))))

pub chain : IsChain archive_b harvest_run (records_since prefix None) page_1 (page_2 ∷ [])
chain = record {
  among = pages_among;
  verb = refl;
  asked = refl;
  long = long;
  answered = not_later;
  next = (record { page = shown_page_1; offer = offer_1; told = told_1; offered = offered_1; asked = refl; unexpired = refl }, tt);
}

ended : is_followed_to_its_end (page_1 ∷ page_2 ∷ []) ≡ true
ended = ap (λ o. is_last_page o || (is_last_page (page_shown page_2.outcome) || false)) told_1 ∙ ap (λ o. is_last_page (Some shown_page_1) || (is_last_page o || false)) told_2
    ∙ ap (λ b. b || (is_last_page (Some shown_page_2) || false)) first_not_last ∙ ap (λ b. false || (b || false)) second_last

pub successive : AreSuccessive archive_b harvest_run prefix harvest_1 (harvest_2 ∷ harvest_3 ∷ [])
successive = record {
  begun = begun;
  harvests = (
    record { asked = refl; answered = inr (inr (record { chain = chain; ended = ended })) },
    (
      record { asked = refl; answered = inr (inl (record { page = answered_2.page; told = shown_2; tokenless = answered_2.tokenless; only = refl })) },
      (record { asked = refl; answered = inl (record { told = answered_3.0; only = refl }) }, tt),
    ),
  );
}

pub worked : (first : Harvest) × (second : Harvest) × (third : Harvest) × AreWorkedHarvests first second third
worked = (
  harvest_1,
  harvest_2,
  harvest_3,
  record {
    successive = successive;
    by_pages = ap told harvested_1;
    at_once = ap told harvested_2;
    nothing = harvested_3;
    copied =
        ap (λ (xs : List ItemState). told (caught_up_with [] (xs ∷ harvested harvest_2 ∷ harvested harvest_3 ∷ []))) harvested_1
        ∙ ap (λ (xs : List ItemState). told (caught_up_with [] (three ∷ xs ∷ harvested harvest_3 ∷ []))) harvested_2
        ∙ ap (λ (xs : List ItemState). told (caught_up_with [] (three ∷ (left_2 ∷ item_4 ∷ []) ∷ xs ∷ []))) harvested_3;
  },
)

-- the archive is one that can be configured
pub configured : IsConfig archive_b
unfolding is_described is_date are_limits is_xml_text is_short_text str.chars
configured = record { based = refl; described = refl; dated = refl; limited = refl; containing = refl; set_containing = refl }

-- ---- what the run leaves

leaves_on : (old new end : RepoState) (timed : Timed) (commands : List Timed) → Leads old timed new → left_behind archive_b new commands ≡ end → left_behind archive_b old (timed ∷ commands) ≡ end
leaves_on old new end timed commands leads rest = ap (λ (state : RepoState). left_behind archive_b state commands) leads ∙ rest

pub left_all : left_behind archive_b (empty_state archive_b) harvest_commands ≡ s9
left_all =
    leaves_on (empty_state archive_b) s1 s9 (after 0 (deposit (codes "oai:b:1"))) from_2 led_1
    (leaves_on s1 s2 s9 (after 0 (deposit (codes "oai:b:2"))) from_3 led_2
    (leaves_on s2 s3 s9 (after 0 (deposit (codes "oai:b:3"))) from_4 led_3
    (leaves_on s3 s4 s9 (after 5 (first_request (records_since prefix None))) from_5 led_4
    (leaves_on s4 s5 s9 (after 5 (delete (codes "oai:b:2"))) from_6 led_5
    (leaves_on s5 s6 s9 (after 6 (next_request list.Records (codes "1.2"))) from_7 led_6
    (leaves_on s6 s7 s9 (after 6 (deposit (codes "oai:b:4"))) from_8 led_7
    (leaves_on s7 s8 s9 (after 7 (first_request request_2)) from_9 led_8 answered_3.1)))))))
