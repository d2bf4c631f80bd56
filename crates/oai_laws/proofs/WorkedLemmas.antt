-- The worked run is computed, and a chain of three pages is found in it.
use Rattle.std.proofs.Common.{◌≡◌, ◌∙◌, inl, inr, ℕ, ℤ, pos, ◌+◌, ◌<◌, false, List, [], ◌∷◌, ◌++◌, length, codes, Option, Some, refl, sym, ap, subst, arith}
use Rattle.oai_names.specs.declared.list_verbs.ListVerb.{ListVerb}
use Rattle.oai_names.specs.declared.list_verbs.ListVerb.TheVariants as list
use Rattle.oai_item.specs.Formats.{dublin_core, format_named}
use Rattle.oai_item.specs.Items.{item_named, without, placed}
use Rattle.oai_item.specs.Item.{ItemState, live_item, record_named, tombstone_of}
use Rattle.oai_item.specs.Membership.{reduced, distinct}
use Rattle.oai_item.specs.Selection.{selected}
use Rattle.oai_item.specs.Encoding.{encoded}
use Rattle.oai_item.specs.Encoding as encoding
use Rattle.std.specs.Fmt as fmt
use Rattle.std.specs.Str as str
use Rattle.oai_names.specs.Characters.{is_xml_text}
use Rattle.oai_item.specs.ShortTexts.{is_short_text}
use Rattle.oai_lists.specs.Tokens.{token_of, token_text}
use Rattle.oai_answers.specs.Answers.{Page}
use Rattle.oai_holdings.specs.Changes.{changed, deposit_refusal, is_one_too_many, item_refusal, refusal_of}
use Rattle.oai_settings.specs.Config.{IsConfig, are_limits, is_date, is_described}
use Rattle.oai_laws.specs.Following.{IsChain, IsNextRequest, TokenOffer, first_request, is_later, joined, next_request, offer_in, page_shown, selection_in}
use Rattle.oai_repo.specs.Listing.{part_from, selection_response, wait_at}
use Rattle.oai_repo.specs.Machine.{act}
use Rattle.oai_laws.specs.Runs.{IsPart, Timed, Transition, performed, run}
use Rattle.oai_repo.specs.State.{FrozenList, RepoState, empty_state}
use Rattle.oai_laws.specs.Worked.{IsWorked, after, all_headers, all_records, delete, deposit, identifiers, worked_config, worked_run}

-- ---- the states that the run goes through

abbrev pub second : ℕ → ℤ
second n = pos (1_704_067_200 + n)

-- an item as it was deposited
abbrev pub item : List ℕ → ℕ → ItemState
item identifier n = live_item identifier (second n) [] ((codes "oai_dc", []) ∷ [])

abbrev pub first_items : List ItemState
first_items = item (codes "oai:a:1") 0 ∷ item (codes "oai:a:2") 0 ∷ item (codes "oai:a:3") 0 ∷ []

abbrev pub fourth : ItemState
fourth = item (codes "oai:a:4") 0

abbrev pub fifth : ItemState
fifth = item (codes "oai:a:5") 0

-- what both lists of the run select
abbrev pub five : List ItemState
five = first_items ++ fourth ∷ fifth ∷ []

abbrev pub list_of : ℕ → ListVerb → ℕ → ℕ → FrozenList
list_of number verb end given = record { number = number; verb = verb; prefix = codes "oai_dc"; items = five; end = second end; given = given }

abbrev pub state_at : ℕ → List ItemState → List FrozenList → ℕ → RepoState
state_at n items lists next = record { clock = second n; holdings = record { items = items; sets = [] }; open_lists = record { lists = lists; next = next } }

abbrev pub s1 : RepoState
s1 = state_at 0 (item (codes "oai:a:1") 0 ∷ []) [] 1

abbrev pub s2 : RepoState
s2 = state_at 0 (item (codes "oai:a:1") 0 ∷ item (codes "oai:a:2") 0 ∷ []) [] 1

abbrev pub s3 : RepoState
s3 = state_at 0 first_items [] 1

abbrev pub s4 : RepoState
s4 = state_at 0 (first_items ++ fourth ∷ []) [] 1

abbrev pub s5 : RepoState
s5 = state_at 0 five [] 1

abbrev pub s6 : RepoState
s6 = state_at 0 five (list_of 1 list.Identifiers 60 2 ∷ []) 2

abbrev pub s7 : RepoState
s7 = state_at 60 five (list_of 2 list.Records 120 2 ∷ []) 3

abbrev pub six : List ItemState
six = five ++ item (codes "oai:a:6") 61 ∷ []

abbrev pub s9 : RepoState
s9 = state_at 61 six (list_of 2 list.Records 120 2 ∷ []) 3

abbrev pub without_fourth : List ItemState
without_fourth = first_items ++ fifth ∷ item (codes "oai:a:6") 61 ∷ tombstone_of (second 62) fourth ∷ []

abbrev pub s10 : RepoState
s10 = state_at 62 without_fourth (list_of 2 list.Records 120 2 ∷ []) 3

abbrev pub s12 : RepoState
s12 = state_at 63 without_fourth (list_of 2 list.Records 120 2 ∷ []) 3

abbrev pub s13 : RepoState
s13 = state_at 64 without_fourth (list_of 2 list.Records 124 4 ∷ []) 3

abbrev pub s14 : RepoState
s14 = state_at 70 (first_items ++ item (codes "oai:a:6") 61 ∷ tombstone_of (second 62) fourth ∷ item (codes "oai:a:5") 70 ∷ []) (list_of 2 list.Records 124 4 ∷ []) 3

-- a command leads from one of them to the next
abbrev pub Leads : RepoState → Timed → RepoState → Type 0
Leads old timed new = (performed worked_config old timed).left ≡ new

pub led_1 : Leads (empty_state worked_config) (after 0 (deposit (codes "oai:a:1"))) s1
unfolding act refusal_of changed deposit_refusal item_refusal is_one_too_many item_named without placed record_named reduced distinct format_named dublin_core encoded encoding.encoded_stamp encoding.encoded_text encoding.encoded_count encoding.encoded_list encoding.encoded_record
led_1 = refl

pub led_2 : Leads s1 (after 0 (deposit (codes "oai:a:2"))) s2
unfolding act refusal_of changed deposit_refusal item_refusal is_one_too_many item_named without placed record_named reduced distinct format_named dublin_core encoded encoding.encoded_stamp encoding.encoded_text encoding.encoded_count encoding.encoded_list encoding.encoded_record
led_2 = refl

pub led_3 : Leads s2 (after 0 (deposit (codes "oai:a:3"))) s3
unfolding act refusal_of changed deposit_refusal item_refusal is_one_too_many item_named without placed record_named reduced distinct format_named dublin_core encoded encoding.encoded_stamp encoding.encoded_text encoding.encoded_count encoding.encoded_list encoding.encoded_record
led_3 = refl

pub led_4 : Leads s3 (after 0 (deposit (codes "oai:a:4"))) s4
unfolding act refusal_of changed deposit_refusal item_refusal is_one_too_many item_named without placed record_named reduced distinct format_named dublin_core encoded encoding.encoded_stamp encoding.encoded_text encoding.encoded_count encoding.encoded_list encoding.encoded_record
led_4 = refl

pub led_5 : Leads s4 (after 0 (deposit (codes "oai:a:5"))) s5
unfolding act refusal_of changed deposit_refusal item_refusal is_one_too_many item_named without placed record_named reduced distinct format_named dublin_core encoded encoding.encoded_stamp encoding.encoded_text encoding.encoded_count encoding.encoded_list encoding.encoded_record
led_5 = refl

pub led_6 : Leads s5 (after 0 (first_request all_headers)) s6
unfolding act selected selection_response part_from wait_at record_named format_named dublin_core token_text token_of fmt.digits
led_6 = refl

pub led_7 : Leads s6 (after 60 (first_request all_records)) s7
unfolding act selected selection_response part_from wait_at record_named format_named dublin_core token_text token_of fmt.digits
led_7 = refl

pub led_8 : Leads s7 (after 60 (next_request list.Identifiers (codes "1.2"))) s7
unfolding act selected selection_response part_from wait_at record_named format_named dublin_core token_text token_of fmt.digits
led_8 = refl

pub led_9 : Leads s7 (after 61 (deposit (codes "oai:a:6"))) s9
unfolding act refusal_of changed deposit_refusal item_refusal is_one_too_many item_named without placed record_named reduced distinct format_named dublin_core encoded encoding.encoded_stamp encoding.encoded_text encoding.encoded_count encoding.encoded_list encoding.encoded_record
led_9 = refl

pub led_10 : Leads s9 (after 62 (delete (codes "oai:a:4"))) s10
unfolding act refusal_of changed deposit_refusal item_refusal is_one_too_many item_named without placed record_named reduced distinct format_named dublin_core encoded encoding.encoded_stamp encoding.encoded_text encoding.encoded_count encoding.encoded_list encoding.encoded_record
led_10 = refl

pub led_11 : Leads s10 (after 30 (first_request all_headers)) s10
unfolding act selected selection_response part_from wait_at record_named format_named dublin_core token_text token_of fmt.digits
led_11 = refl

pub led_12 : Leads s10 (after 63 (next_request list.Identifiers (codes "2.2"))) s12
unfolding act selected selection_response part_from wait_at record_named format_named dublin_core token_text token_of fmt.digits
led_12 = refl

pub led_13 : Leads s12 (after 64 (next_request list.Records (codes "2.2"))) s13
unfolding act selected selection_response part_from wait_at record_named format_named dublin_core token_text token_of fmt.digits
led_13 = refl

pub led_14 : Leads s13 (after 70 (deposit (codes "oai:a:5"))) s14
unfolding act refusal_of changed deposit_refusal item_refusal is_one_too_many item_named without placed record_named reduced distinct format_named dublin_core encoded encoding.encoded_stamp encoding.encoded_text encoding.encoded_count encoding.encoded_list encoding.encoded_record
led_14 = refl

-- ---- the chain

-- the exchanges of the chain: the first page, the second, and the last
abbrev pub opens : Transition
opens = performed worked_config s6 (after 60 (first_request all_records))

abbrev pub second_page : Transition
second_page = performed worked_config s12 (after 64 (next_request list.Records (codes "2.2")))

abbrev pub last_page : Transition
last_page = performed worked_config s14 (after 123 (next_request list.Records (codes "2.4")))

-- a run passes over a command, or takes it up
pub passes_over : (old new : RepoState) (timed : Timed) (commands : List Timed) (some : List Transition) → Leads old timed new → IsPart some (run worked_config new commands)
    → IsPart some (run worked_config old (timed ∷ commands))
passes_over old new timed commands some leads part = inl (subst (λ (state : RepoState). IsPart some (run worked_config state commands)) (sym leads) part)

pub takes_up : (old new : RepoState) (timed : Timed) (commands : List Timed) (some : List Transition) → Leads old timed new → IsPart some (run worked_config new commands)
    → IsPart (performed worked_config old timed ∷ some) (run worked_config old (timed ∷ commands))
takes_up old new timed commands some leads part = inr (some, refl, subst (λ (state : RepoState). IsPart some (run worked_config state commands)) (sym leads) part)

-- what is left of the commands behind each
abbrev pub from_15 : List Timed
from_15 = after 123 (next_request list.Records (codes "2.4")) ∷ []

abbrev pub from_14 : List Timed
from_14 = after 70 (deposit (codes "oai:a:5")) ∷ from_15

abbrev pub from_13 : List Timed
from_13 = after 64 (next_request list.Records (codes "2.2")) ∷ from_14

abbrev pub from_12 : List Timed
from_12 = after 63 (next_request list.Identifiers (codes "2.2")) ∷ from_13

abbrev pub from_11 : List Timed
from_11 = after 30 (first_request all_headers) ∷ from_12

abbrev pub from_10 : List Timed
from_10 = after 62 (delete (codes "oai:a:4")) ∷ from_11

abbrev pub from_9 : List Timed
from_9 = after 61 (deposit (codes "oai:a:6")) ∷ from_10

abbrev pub from_8 : List Timed
from_8 = after 60 (next_request list.Identifiers (codes "1.2")) ∷ from_9

abbrev pub from_7 : List Timed
from_7 = after 60 (first_request all_records) ∷ from_8

abbrev pub from_6 : List Timed
from_6 = after 0 (first_request all_headers) ∷ from_7

abbrev pub from_5 : List Timed
from_5 = after 0 (deposit (codes "oai:a:5")) ∷ from_6

abbrev pub from_4 : List Timed
from_4 = after 0 (deposit (codes "oai:a:4")) ∷ from_5

abbrev pub from_3 : List Timed
from_3 = after 0 (deposit (codes "oai:a:3")) ∷ from_4

abbrev pub from_2 : List Timed
from_2 = after 0 (deposit (codes "oai:a:2")) ∷ from_3

pub among : IsPart (opens ∷ second_page ∷ last_page ∷ []) worked_run
among =
    let chain_15 : List Transition = last_page ∷ [] in
    let chain_13 : List Transition = second_page ∷ chain_15 in
    let chain : List Transition = opens ∷ chain_13 in
    let part_15 : IsPart chain_15 (run worked_config s14 from_15) = inr ([], refl, refl) in
    let part_14 : IsPart chain_15 (run worked_config s13 from_14) = passes_over s13 s14 (after 70 (deposit (codes "oai:a:5"))) from_15 chain_15 led_14 part_15 in
    let part_13 : IsPart chain_13 (run worked_config s12 from_13) = takes_up s12 s13 (after 64 (next_request list.Records (codes "2.2"))) from_14 chain_15 led_13 part_14 in
    let part_12 : IsPart chain_13 (run worked_config s10 from_12) = passes_over s10 s12 (after 63 (next_request list.Identifiers (codes "2.2"))) from_13 chain_13 led_12 part_13 in
    let part_11 : IsPart chain_13 (run worked_config s10 from_11) = passes_over s10 s10 (after 30 (first_request all_headers)) from_12 chain_13 led_11 part_12 in
    let part_10 : IsPart chain_13 (run worked_config s9 from_10) = passes_over s9 s10 (after 62 (delete (codes "oai:a:4"))) from_11 chain_13 led_10 part_11 in
    let part_9 : IsPart chain_13 (run worked_config s7 from_9) = passes_over s7 s9 (after 61 (deposit (codes "oai:a:6"))) from_10 chain_13 led_9 part_10 in
    let part_8 : IsPart chain_13 (run worked_config s7 from_8) = passes_over s7 s7 (after 60 (next_request list.Identifiers (codes "1.2"))) from_9 chain_13 led_8 part_9 in
    let part_7 : IsPart chain (run worked_config s6 from_7) = takes_up s6 s7 (after 60 (first_request all_records)) from_8 chain_13 led_7 part_8 in
    let part_6 : IsPart chain (run worked_config s5 from_6) = passes_over s5 s6 (after 0 (first_request all_headers)) from_7 chain led_6 part_7 in
    let part_5 : IsPart chain (run worked_config s4 from_5) = passes_over s4 s5 (after 0 (deposit (codes "oai:a:5"))) from_6 chain led_5 part_6 in
    let part_4 : IsPart chain (run worked_config s3 from_4) = passes_over s3 s4 (after 0 (deposit (codes "oai:a:4"))) from_5 chain led_4 part_5 in
    let part_3 : IsPart chain (run worked_config s2 from_3) = passes_over s2 s3 (after 0 (deposit (codes "oai:a:3"))) from_4 chain led_3 part_4 in
    let part_2 : IsPart chain (run worked_config s1 from_2) = passes_over s1 s2 (after 0 (deposit (codes "oai:a:2"))) from_3 chain led_2 part_3 in
    passes_over (empty_state worked_config) s1 (after 0 (deposit (codes "oai:a:1"))) from_2 chain led_1 part_2

-- the list, as each page found it, and the page
abbrev pub page_1 : Page
page_1 = part_from worked_config (list_of 2 list.Records 120 2) 0

abbrev pub page_2 : Page
page_2 = part_from worked_config (list_of 2 list.Records 124 4) 2

abbrev pub page_3 : Page
page_3 = part_from worked_config (list_of 2 list.Records 183 4) 4

pub told_1 : page_shown opens.outcome ≡ Some page_1
unfolding act selected selection_response part_from wait_at record_named format_named dublin_core token_text token_of fmt.digits
told_1 = refl

pub told_2 : page_shown second_page.outcome ≡ Some page_2
unfolding act selected selection_response part_from wait_at record_named format_named dublin_core token_text token_of fmt.digits
told_2 = refl

pub told_3 : page_shown last_page.outcome ≡ Some page_3
unfolding act selected selection_response part_from wait_at record_named format_named dublin_core token_text token_of fmt.digits
told_3 = refl

abbrev pub offer_1 : TokenOffer
offer_1 = record { token = codes "2.2"; expires = second 120 }

abbrev pub offer_2 : TokenOffer
offer_2 = record { token = codes "2.4"; expires = second 124 }

pub offered_1 : offer_in page_1.continuation ≡ Some offer_1
unfolding part_from token_text fmt.digits
offered_1 = refl

pub offered_2 : offer_in page_2.continuation ≡ Some offer_2
unfolding part_from token_text fmt.digits
offered_2 = refl

next_1 : IsNextRequest list.Records opens second_page
next_1 = record { page = page_1; offer = offer_1; told = told_1; offered = offered_1; asked = refl; unexpired = refl }

next_2 : IsNextRequest list.Records second_page last_page
next_2 = record { page = page_2; offer = offer_2; told = told_2; offered = offered_2; asked = refl; unexpired = refl }

long : worked_config.chunk < length (selection_in opens.found all_records)
unfolding selected record_named
long = omega arith

not_later : is_later opens.outcome ≡ false
unfolding act selected selection_response part_from wait_at record_named format_named dublin_core token_text token_of fmt.digits
not_later = refl

pub chain : IsChain worked_config worked_run all_records opens (second_page ∷ last_page ∷ [])
chain = record { among = among; verb = refl; asked = refl; long = long; answered = not_later; next = (next_1, (next_2, tt)) }

pub records_told : identifiers (joined (page_1 ∷ page_2 ∷ page_3 ∷ [])) ≡ codes "oai:a:1" ∷ codes "oai:a:2" ∷ codes "oai:a:3" ∷ codes "oai:a:4" ∷ codes "oai:a:5" ∷ []
unfolding part_from
records_told = refl

pub worked : (first : Transition) × (others : List Transition) × IsWorked first others
worked = (
  opens,
  second_page ∷ last_page ∷ [],
  record {
    chain = chain;
    pages = page_1 ∷ page_2 ∷ page_3 ∷ [];
    told =
        ap (λ (p : Option Page). p ∷ page_shown second_page.outcome ∷ page_shown last_page.outcome ∷ []) told_1
        ∙ ap (λ (p : Option Page). Some page_1 ∷ p ∷ page_shown last_page.outcome ∷ []) told_2
        ∙ ap (λ (p : Option Page). Some page_1 ∷ Some page_2 ∷ p ∷ []) told_3;
    three = refl;
    records = records_told;
  },
)

-- the archive is one that can be configured
pub configured : IsConfig worked_config
unfolding is_described is_date are_limits is_xml_text is_short_text str.chars
configured = record { based = refl; described = refl; dated = refl; limited = refl; containing = refl; set_containing = refl }
