-- What the worked runs leave; and an era after them, in which a token of the run of harvests comes again, and one more harvest is made.
use Rattle.std.proofs.Common.{◌≡◌, ◌≢◌, ◌∙◌, inl, inr, ℕ, ℤ, pos, ◌≤◌, true, false, List, [], ◌∷◌, ◌++◌, length, codes, Option, None, Some, refl, sym, ap, subst, arith}
use Rattle.std.specs.Fmt as fmt
use Rattle.std.specs.Prelude.{option_and_then}
use Rattle.std.proofs.lemmas.List.{append-nil}
use Rattle.oai_names.specs.declared.list_verbs.ListVerb.TheVariants as list
use Rattle.oai_time.specs.Bound.{IsBound}
use Rattle.oai_time.specs.declared.bound.Bound.{Bound}
use Rattle.oai_time.specs.declared.bound.Bound.TheVariants.{Second as OneSecond}
use Rattle.oai_item.specs.Formats.{dublin_core, format_named}
use Rattle.oai_item.specs.Items.{item_named, without, placed}
use Rattle.oai_item.specs.Item.{ItemState, record_named, tombstone_of}
use Rattle.oai_item.specs.Membership.{reduced, distinct}
use Rattle.oai_item.specs.Selection.{selected}
use Rattle.oai_item.specs.Encoding.{encoded}
use Rattle.oai_item.specs.Encoding as encoding
use Rattle.oai_lists.specs.Tokens.{token_of, token_text}
use Rattle.oai_answers.specs.Answers.{fails}
use Rattle.oai_answers.specs.declared.errors.ErrorCode.TheVariants.{BadResumptionToken}
use Rattle.oai_repo.proofs.ClockLemmas.{writable}
use Rattle.oai_holdings.specs.Changes.{changed, deposit_refusal, is_one_too_many, item_refusal, refusal_of}
use Rattle.oai_repo.specs.Listing.{part_from, selection_response, wait_at}
use Rattle.oai_repo.specs.Machine.{act}
use Rattle.oai_repo.specs.Saved.{ended}
use Rattle.oai_repo.specs.State.{RepoState, empty_state}
use Rattle.oai_laws.specs.Effects.{IsSound}
use Rattle.oai_laws.specs.Eras.{AreSuccessiveWithin, left_behind}
use Rattle.oai_laws.specs.Following.{IsAnsweredWhole, ListQuery, answer_in, first_request, next_request, page_in, page_shown, selection_in}
use Rattle.oai_laws.specs.Harvests.{Harvest, IsHarvest, harvested, items_told, records_since}
use Rattle.oai_laws.specs.Runs.{IsPart, Timed, Transition, performed, run}
use Rattle.oai_laws.specs.Worked.{after, all_headers, all_records, delete, deposit, worked_commands, worked_config}
use Rattle.oai_laws.specs.WorkedHarvests.{archive_b, datestamp, harvest_run, prefix, told}
use Rattle.oai_laws.proofs.EffectLemmas.{sound_moved}
use Rattle.oai_laws.proofs.EndedLemmas.{sound_ended}
use Rattle.oai_laws.proofs.HarvestLemmas.{part_behind, part_first}
use Rattle.oai_laws.proofs.WholeLemmas.{whole_told}
use Rattle.oai_laws.proofs.WorkedLemmas.{Leads, first_items, fourth, from_2, from_3, from_4, from_5, from_6, from_7, from_8, from_9, from_10, from_11, from_12, from_13, from_14, from_15, item, led_1, led_2, led_3, led_4, led_5, led_6, led_7, led_8, led_9, led_10, led_11, led_12, led_13, led_14, list_of, s1, s2, s3, s4, s5, s6, s7, s9, s10, s12, s13, s14, second, state_at}
use Rattle.oai_laws.proofs.WorkedHarvestLemmas as beside

-- ---- what the run of the list leaves

abbrev s15 : RepoState
s15 = state_at 123 (first_items ++ item (codes "oai:a:6") 61 ∷ tombstone_of (second 62) fourth ∷ item (codes "oai:a:5") 70 ∷ []) (list_of 2 list.Records 183 4 ∷ []) 3

abbrev s16 : RepoState
s16 = state_at 124 (first_items ++ tombstone_of (second 62) fourth ∷ item (codes "oai:a:5") 70 ∷ item (codes "oai:a:6") 124 ∷ []) (list_of 2 list.Records 183 4 ∷ []) 3

abbrev pub s17 : RepoState
s17 = state_at 124 (first_items ++ tombstone_of (second 62) fourth ∷ item (codes "oai:a:5") 70 ∷ item (codes "oai:a:6") 124 ∷ item (codes "oai:a:7") 124 ∷ [])
    (list_of 2 list.Records 183 4 ∷ []) 3

led_15 : Leads s14 (after 123 (next_request list.Records (codes "2.4"))) s15
unfolding act selected selection_response part_from wait_at record_named format_named dublin_core token_text token_of fmt.digits
led_15 = refl

led_16 : Leads s15 (after 124 (deposit (codes "oai:a:6"))) s16
unfolding act refusal_of changed deposit_refusal item_refusal is_one_too_many item_named without placed record_named reduced distinct format_named dublin_core encoded encoding.encoded_stamp encoding.encoded_text encoding.encoded_count encoding.encoded_list encoding.encoded_record
led_16 = refl

led_17 : Leads s16 (after 124 (deposit (codes "oai:a:7"))) s17
unfolding act refusal_of changed deposit_refusal item_refusal is_one_too_many item_named without placed record_named reduced distinct format_named dublin_core encoded encoding.encoded_stamp encoding.encoded_text encoding.encoded_count encoding.encoded_list encoding.encoded_record
led_17 = refl

-- an item is deposited once more after it, and another one
abbrev pub last_commands : List Timed
last_commands = after 124 (deposit (codes "oai:a:6")) ∷ after 124 (deposit (codes "oai:a:7")) ∷ []

leaves_on : (old new end : RepoState) (timed : Timed) (commands : List Timed) → Leads old timed new → left_behind worked_config new commands ≡ end → left_behind worked_config old (timed ∷ commands) ≡ end
leaves_on old new end timed commands leads rest = ap (λ (state : RepoState). left_behind worked_config state commands) leads ∙ rest

pub list_left : left_behind worked_config (empty_state worked_config) (worked_commands ++ last_commands) ≡ s17
list_left =
    leaves_on (empty_state worked_config) s1 s17 (after 0 (deposit (codes "oai:a:1"))) (from_2 ++ last_commands) led_1
    (leaves_on s1 s2 s17 (after 0 (deposit (codes "oai:a:2"))) (from_3 ++ last_commands) led_2
    (leaves_on s2 s3 s17 (after 0 (deposit (codes "oai:a:3"))) (from_4 ++ last_commands) led_3
    (leaves_on s3 s4 s17 (after 0 (deposit (codes "oai:a:4"))) (from_5 ++ last_commands) led_4
    (leaves_on s4 s5 s17 (after 0 (deposit (codes "oai:a:5"))) (from_6 ++ last_commands) led_5
    (leaves_on s5 s6 s17 (after 0 (first_request all_headers)) (from_7 ++ last_commands) led_6
    (leaves_on s6 s7 s17 (after 60 (first_request all_records)) (from_8 ++ last_commands) led_7
    (leaves_on s7 s7 s17 (after 60 (next_request list.Identifiers (codes "1.2"))) (from_9 ++ last_commands) led_8
    (leaves_on s7 s9 s17 (after 61 (deposit (codes "oai:a:6"))) (from_10 ++ last_commands) led_9
    (leaves_on s9 s10 s17 (after 62 (delete (codes "oai:a:4"))) (from_11 ++ last_commands) led_10
    (leaves_on s10 s10 s17 (after 30 (first_request all_headers)) (from_12 ++ last_commands) led_11
    (leaves_on s10 s12 s17 (after 63 (next_request list.Identifiers (codes "2.2"))) (from_13 ++ last_commands) led_12
    (leaves_on s12 s13 s17 (after 64 (next_request list.Records (codes "2.2"))) (from_14 ++ last_commands) led_13
    (leaves_on s13 s14 s17 (after 70 (deposit (codes "oai:a:5"))) (from_15 ++ last_commands) led_14
    (leaves_on s14 s15 s17 (after 123 (next_request list.Records (codes "2.4"))) last_commands led_15
    (leaves_on s15 s16 s17 (after 124 (deposit (codes "oai:a:6"))) (after 124 (deposit (codes "oai:a:7")) ∷ []) led_16 led_17)))))))))))))))

-- ---- an era after the run of harvests

-- the open list ends, and the number of the next one is raised
abbrev pub e0 : RepoState
e0 = ended 1_000_000 beside.s9

abbrev request_4 : ListQuery
request_4 = records_since prefix (Some (datestamp 8))

-- the token of the first harvest comes again, before it expires; an item is deposited; and a fourth harvest is made, from the datestamp of the third one
abbrev pub later_commands : List Timed
later_commands =
    after 9 (next_request list.Records (codes "1.2"))
    ∷ after 9 (deposit (codes "oai:b:5"))
    ∷ after 10 (first_request request_4)
    ∷ []

abbrev pub later_run : List Transition
later_run = run archive_b e0 later_commands

abbrev pub item_5 : ItemState
item_5 = beside.item (codes "oai:b:5") 9

abbrev pub five : List ItemState
five = beside.four ++ item_5 ∷ []

abbrev e1 : RepoState
e1 = beside.state_at 9 beside.four [] 1_000_002

abbrev pub e2 : RepoState
e2 = beside.state_at 9 five [] 1_000_002

abbrev e3 : RepoState
e3 = beside.state_at 10 five [] 1_000_002

abbrev pub refused : Transition
refused = performed archive_b e0 (after 9 (next_request list.Records (codes "1.2")))

led_e1 : beside.Leads e0 (after 9 (next_request list.Records (codes "1.2"))) e1
unfolding act selected selection_response part_from wait_at record_named format_named dublin_core token_text token_of fmt.digits
led_e1 = refl

pub refused_told : answer_in refused.outcome ≡ Some (fails BadResumptionToken)
unfolding act selected selection_response part_from wait_at record_named format_named dublin_core token_text token_of fmt.digits
refused_told = refl

led_e2 : beside.Leads e1 (after 9 (deposit (codes "oai:b:5"))) e2
unfolding act refusal_of changed deposit_refusal item_refusal is_one_too_many item_named without placed record_named reduced distinct format_named dublin_core encoded encoding.encoded_stamp encoding.encoded_text encoding.encoded_count encoding.encoded_list encoding.encoded_record
led_e2 = refl

pub bound_8 : IsBound (datestamp 8) (OneSecond (beside.second 8))
bound_8 = record { in_range = writable (beside.second 8) refl; written = refl }

from_8_on : selected (beside.filter_from (Some (OneSecond (beside.second 8)))) five ≡ item_5 ∷ []
unfolding selected record_named
from_8_on = refl

selected_4 : selection_in e3 request_4 ≡ item_5 ∷ []
selected_4 = ap (λ (b : Option Bound). selected (beside.filter_from b) five) (beside.stamped 8 bound_8) ∙ from_8_on

sound_e3 : IsSound archive_b e3
sound_e3 =
    sound_moved archive_b (beside.second 10) e2
    (beside.sound_led e1 e2 (after 9 (deposit (codes "oai:b:5"))) led_e2
    (beside.sound_led e0 e1 (after 9 (next_request list.Records (codes "1.2"))) led_e1
    (sound_ended archive_b 1_000_000 beside.s9 (omega arith) (sound_moved archive_b (beside.second 8) beside.s8 beside.sound_8))))

one_selected : (xs : List ItemState) → xs ≡ item_5 ∷ [] → xs ≢ []
one_selected xs is none = cc

few_selected : (xs : List ItemState) → xs ≡ item_5 ∷ [] → length xs ≤ archive_b.chunk
few_selected xs is = rw is (omega arith)

answered_4 : IsAnsweredWhole archive_b e3 request_4
answered_4 = whole_told archive_b e3 request_4 sound_e3 refl (one_selected (selection_in e3 request_4) selected_4) (few_selected (selection_in e3 request_4) selected_4)

abbrev pub exchange_4 : Transition
exchange_4 = performed archive_b e2 (after 10 (first_request request_4))

abbrev pub harvest_4 : Harvest
harvest_4 = record { first = exchange_4; others = [] }

shown_4 : page_shown exchange_4.outcome ≡ Some answered_4.page
shown_4 = ap (option_and_then page_in) answered_4.told

harvested_4 : harvested harvest_4 ≡ item_5 ∷ []
harvested_4 = ap (λ o. items_told o ++ []) shown_4 ∙ append-nil answered_4.page.items ∙ answered_4.items ∙ selected_4

pub got_4 : told (harvested harvest_4) ≡ (codes "oai:b:5", true) ∷ []
got_4 = ap told harvested_4

whole_4 : IsHarvest archive_b later_run request_4 harvest_4
whole_4 = record { asked = refl; answered = inr (inl (record { page = answered_4.page; told = shown_4; tokenless = answered_4.tokenless; only = refl })) }

-- ---- both are found in it

abbrev behind_1 : List Timed
behind_1 = after 9 (deposit (codes "oai:b:5")) ∷ after 10 (first_request request_4) ∷ []

exchange_among : IsPart (exchange_4 ∷ []) later_run
exchange_among =
    beside.passes_over e0 e1 (after 9 (next_request list.Records (codes "1.2"))) behind_1 (exchange_4 ∷ []) led_e1
    (beside.passes_over e1 e2 (after 9 (deposit (codes "oai:b:5"))) (after 10 (first_request request_4) ∷ []) (exchange_4 ∷ []) led_e2 (inr ([], refl, refl)))

pub refused_among : IsPart (refused ∷ []) later_run
refused_among = beside.takes_up e0 e1 (after 9 (next_request list.Records (codes "1.2"))) behind_1 [] led_e1 (beside.none_behind (run archive_b e1 behind_1))

-- the first page of the first harvest, which prints the token
pub page_among : IsPart (beside.page_1 ∷ []) harvest_run
page_among = part_first beside.page_1 (beside.exchange_2 ∷ beside.exchange_3 ∷ []) harvest_run beside.begun

second_among : IsPart (beside.exchange_2 ∷ beside.exchange_3 ∷ []) harvest_run
second_among = part_behind beside.page_1 (beside.exchange_2 ∷ beside.exchange_3 ∷ []) harvest_run beside.begun

-- exchanges of one run and of a further one
both_among : (some few all others : List Transition) → IsPart some all → IsPart few others → IsPart (some ++ few) (all ++ others)
both_among some few [] others none part = subst (λ (xs : List Transition). IsPart (xs ++ few) others) (sym none) part
both_among some few (x ∷ all) others (inl one) part = inl (both_among some few all others one part)
both_among some few (x ∷ all) others (inr here) part =
    inr (here.0 ++ few, ap (λ (xs : List Transition). xs ++ few) here.1, both_among here.0 few all others here.2 part)

pub harvests_over : AreSuccessiveWithin archive_b (harvest_run ∷ later_run ∷ []) prefix beside.harvest_1 (beside.harvest_2 ∷ beside.harvest_3 ∷ harvest_4 ∷ [])
harvests_over =
    let made = beside.successive.harvests in
    record {
      begun = both_among (beside.page_1 ∷ beside.exchange_2 ∷ beside.exchange_3 ∷ []) (exchange_4 ∷ []) harvest_run (later_run ++ []) beside.begun
          (subst (IsPart (exchange_4 ∷ [])) (sym (append-nil later_run)) exchange_among);
      harvests = (
        inl (page_among, made.0),
        (
          inl (part_first beside.exchange_2 (beside.exchange_3 ∷ []) harvest_run second_among, made.1.0),
          (inl (part_behind beside.exchange_2 (beside.exchange_3 ∷ []) harvest_run second_among, made.1.1.0), (inr (inl (exchange_among, whole_4)), tt)),
        ),
      );
    }
