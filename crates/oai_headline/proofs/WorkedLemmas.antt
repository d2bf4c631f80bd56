-- The worked run of a host is computed: a list is followed at its first repository, and harvests are made of the second.
use Rattle.std.proofs.Common.{◌≡◌, ◌∙◌, inr, ℕ, zero, suc, ℤ, pos, true, false, List, [], ◌∷◌, length, codes, None, Some, refl, sym, ap, subst, arith}
use Rattle.std.specs.List.{All, AllByRecursion, AllZip, flat_map}
use Rattle.std.specs.Fmt as fmt
use Rattle.oai_names.specs.declared.list_verbs.ListVerb.{ListVerb}
use Rattle.oai_names.specs.declared.list_verbs.ListVerb.TheVariants as list
use Rattle.oai_time.specs.declared.granularity.Granularity.{Granularity}
use Rattle.oai_time.specs.declared.granularity.Granularity.TheVariants.{Second}
use Rattle.oai_item.specs.Formats.{AreRepositoryFormats, dublin_core, format_named}
use Rattle.oai_item.specs.Item.{record_named}
use Rattle.oai_item.specs.Selection.{selected}
use Rattle.oai_lists.specs.Tokens.{token_of, token_text}
use Rattle.oai_args.specs.Asks.{asks}
use Rattle.oai_args.specs.declared.requests.Ask.TheVariants as ask
use Rattle.oai_answers.specs.Answers.{Page}
use Rattle.oai_settings.specs.Config.{is_repository_name}
use Rattle.oai_repo.specs.Listing.{part_from, selection_response, wait_at}
use Rattle.oai_repo.specs.Machine.{Outcome, accepted, act, documented, later, outcome_output, refused_with}
use Rattle.oai_repo.specs.State.{RepoState, empty_state}
use Rattle.oai_laws.specs.Following.{IsChain, ListQuery, first_request, next_request, page_shown}
use Rattle.oai_laws.specs.Runs.{IsPart, Timed, Transition, performed, run}
use Rattle.oai_laws.specs.Worked.{after, all_headers, all_records, delete, deposit, worked_commands, worked_config, worked_run}
use Rattle.oai_laws.proofs.WorkedLemmas.{chain, configured, from_2, from_3, from_4, from_5, from_6, from_7, from_8, from_9, from_10, from_11, from_12, from_13, from_14, from_15, last_page, led_1, led_2, led_3, led_4, led_5, led_6, led_7, led_8, led_9, led_10, led_11, led_12, led_13, led_14, opens, page_1, page_2, page_3, passes_over, records_told, s1, s2, s3, s4, s5, s6, s7, s9, s10, s12, s13, s14, second, second_page, takes_up, told_1, told_2, told_3}
use Rattle.oai_laws.specs.Harvests.{AreSuccessive, Harvest}
use Rattle.oai_laws.specs.WorkedHarvests.{AreWorkedHarvests, archive_b, prefix, told}
use Rattle.oai_laws.specs.WorkedHarvests as beside
use Rattle.oai_laws.proofs.WorkedHarvestLemmas.{worked as harvests_worked, configured as beside_configured}
use Rattle.oai_config.specs.Configs.{IsHostConfig, NamedConfig}
use Rattle.oai_http.specs.Answers.{asked_to_wait}
use Rattle.oai_http.specs.declared.exchanges.Call.{Call}
use Rattle.oai_host.specs.Alone.{own_calls}
use Rattle.oai_host.specs.Answers.{answer_of}
use Rattle.oai_headline.specs.Visits.{Visit, commands_in, steps_of}
use Rattle.oai_headline.specs.Chains.{IsStepOf}
use Rattle.oai_startup.specs.Rules.{HasRules, HaveRules}
use Rattle.oai_headline.specs.Headline.{own_steps, own_visits}
use Rattle.oai_headline.specs.Worked.{AreMadeBeside, IsTold, IsWorkedList, first_entry, second_entry, worked_calls, worked_host}
use Rattle.oai_headline.proofs.CarriedLemmas.{steps_run}
use Rattle.oai_headline.proofs.FoundLemmas.{AreFound, IsAsked, found, without_second}
use Rattle.oai_headline.proofs.MetLemmas.{its_request, visits_met}

-- ---- the first repository

abbrev pub own_a : List Call
own_a = own_calls (codes "a") worked_calls

-- another list is asked for while the table is full
abbrev waits : Transition
waits = performed worked_config s10 (after 30 (first_request all_headers))

abbrev four_steps : List Transition
four_steps = opens ∷ waits ∷ second_page ∷ last_page ∷ []

amid : IsPart four_steps worked_run
amid =
    let chain_15 : List Transition = last_page ∷ [] in
    let chain_13 : List Transition = second_page ∷ chain_15 in
    let chain_11 : List Transition = waits ∷ chain_13 in
    let part_15 : IsPart chain_15 (run worked_config s14 from_15) = inr ([], refl, refl) in
    let part_14 : IsPart chain_15 (run worked_config s13 from_14) = passes_over s13 s14 (after 70 (deposit (codes "oai:a:5"))) from_15 chain_15 led_14 part_15 in
    let part_13 : IsPart chain_13 (run worked_config s12 from_13) = takes_up s12 s13 (after 64 (next_request list.Records (codes "2.2"))) from_14 chain_15 led_13 part_14 in
    let part_12 : IsPart chain_13 (run worked_config s10 from_12) = passes_over s10 s12 (after 63 (next_request list.Identifiers (codes "2.2"))) from_13 chain_13 led_12 part_13 in
    let part_11 : IsPart chain_11 (run worked_config s10 from_11) = takes_up s10 s10 (after 30 (first_request all_headers)) from_12 chain_13 led_11 part_12 in
    let part_10 : IsPart chain_11 (run worked_config s9 from_10) = passes_over s9 s10 (after 62 (delete (codes "oai:a:4"))) from_11 chain_11 led_10 part_11 in
    let part_9 : IsPart chain_11 (run worked_config s7 from_9) = passes_over s7 s9 (after 61 (deposit (codes "oai:a:6"))) from_10 chain_11 led_9 part_10 in
    let part_8 : IsPart chain_11 (run worked_config s7 from_8) = passes_over s7 s7 (after 60 (next_request list.Identifiers (codes "1.2"))) from_9 chain_11 led_8 part_9 in
    let part_7 : IsPart four_steps (run worked_config s6 from_7) = takes_up s6 s7 (after 60 (first_request all_records)) from_8 chain_11 led_7 part_8 in
    let part_6 : IsPart four_steps (run worked_config s5 from_6) = passes_over s5 s6 (after 0 (first_request all_headers)) from_7 four_steps led_6 part_7 in
    let part_5 : IsPart four_steps (run worked_config s4 from_5) = passes_over s4 s5 (after 0 (deposit (codes "oai:a:5"))) from_6 four_steps led_5 part_6 in
    let part_4 : IsPart four_steps (run worked_config s3 from_4) = passes_over s3 s4 (after 0 (deposit (codes "oai:a:4"))) from_5 four_steps led_4 part_5 in
    let part_3 : IsPart four_steps (run worked_config s2 from_3) = passes_over s2 s3 (after 0 (deposit (codes "oai:a:3"))) from_4 four_steps led_3 part_4 in
    let part_2 : IsPart four_steps (run worked_config s1 from_2) = passes_over s1 s2 (after 0 (deposit (codes "oai:a:2"))) from_3 four_steps led_2 part_3 in
    passes_over (empty_state worked_config) s1 (after 0 (deposit (codes "oai:a:1"))) from_2 four_steps led_1 part_2

waited : waits.outcome ≡ later (pos 58)
unfolding act selected selection_response part_from wait_at record_named format_named dublin_core token_text token_of fmt.digits
waited = refl

waited_answer : answer_of (outcome_output Second (later (pos 58))) ≡ asked_to_wait (pos 58)
unfolding outcome_output
waited_answer = refl

full_table : length waits.found.open_lists.lists ≡ worked_config.lists
full_table = refl

items_before : told opens.found.holdings.items
    ≡ (codes "oai:a:1", true) ∷ (codes "oai:a:2", true) ∷ (codes "oai:a:3", true) ∷ (codes "oai:a:4", true) ∷ (codes "oai:a:5", true) ∷ []
items_before = refl

items_between : told second_page.found.holdings.items
    ≡ (codes "oai:a:1", true) ∷ (codes "oai:a:2", true) ∷ (codes "oai:a:3", true) ∷ (codes "oai:a:5", true) ∷ (codes "oai:a:6", true) ∷ (codes "oai:a:4", false) ∷ []
items_between = refl

told_outcome : (g : Granularity) (visit : Visit) (outcome : Outcome) (page : Page) → visit.answer ≡ answer_of (outcome_output g outcome) → page_shown outcome ≡ Some page → IsTold visit page
unfolding outcome_output
told_outcome g visit (documented its) page is shown = record { its = its; written = is; told = shown }
told_outcome g visit (later seconds) page is shown = cc
told_outcome g visit (accepted stamp) page is shown = cc
told_outcome g visit (refused_with cause) page is shown = cc

told_at : (visit : Visit) (step : Transition) (page : Page) → IsStepOf worked_config visit step → page_shown step.outcome ≡ Some page → IsTold visit page
told_at visit step page h shown = told_outcome Second visit step.outcome page h.written shown

asks_for : (state : RepoState) (moment : ℤ) (r : ListQuery) → IsAsked (performed worked_config state (record { moment = moment; command = first_request r }))
asks_for state moment r = (asks (ask.List r.verb r.prefix r.from r.until r.set), refl)

asks_next : (state : RepoState) (moment : ℤ) (verb : ListVerb) (token : List ℕ) → IsAsked (performed worked_config state (record { moment = moment; command = next_request verb token }))
asks_next state moment verb token = (asks (ask.Resume verb token), refl)

asked_each : AllByRecursion IsAsked four_steps
asked_each = (
  asks_for s6 (second 60) all_records,
  (asks_for s10 (second 30) all_headers, (asks_next s12 (second 64) list.Records (codes "2.2"), (asks_next s14 (second 123) list.Records (codes "2.4"), tt))),
)

pub formats_kept : AreRepositoryFormats (dublin_core ∷ [])
formats_kept = record { first = refl; declared = refl; apart = refl; few = omega arith }

abbrev pub IsWorkedRun : Type 0
IsWorkedRun = (first : Visit) × (waiting : Visit) × (second : Visit) × (last : Visit) × IsWorkedList first waiting second last

four_visits : commands_in worked_config own_a ≡ worked_commands → (some : List Visit) → AllZip (IsStepOf worked_config) some four_steps → IsPart some (own_visits first_entry worked_calls) → IsWorkedRun
four_visits carried [] each part = absurd each
four_visits carried (v1 ∷ []) each part = absurd each.1
four_visits carried (v1 ∷ v2 ∷ []) each part = absurd each.1.1
four_visits carried (v1 ∷ v2 ∷ v3 ∷ []) each part = absurd each.1.1.1
four_visits carried (v1 ∷ v2 ∷ v3 ∷ v4 ∷ v5 ∷ more) each part = absurd each.1.1.1.1
four_visits carried (v1 ∷ v2 ∷ v3 ∷ v4 ∷ []) each part = (
  v1,
  v2,
  v3,
  v4,
  record {
    following =
        visits_met worked_config own_a all_records v1 (v3 ∷ v4 ∷ []) opens (second_page ∷ last_page ∷ []) configured formats_kept
        (without_second v1 v2 (v3 ∷ v4 ∷ []) (own_visits first_entry worked_calls) part)
        (each.0, (each.1.1.0, (each.1.1.1.0, tt)))
        (subst (λ (commands : List Timed). IsChain worked_config (run worked_config (empty_state worked_config) commands) all_records opens (second_page ∷ last_page ∷ [])) (sym carried) chain);
    pages = page_1 ∷ page_2 ∷ page_3 ∷ [];
    told_by = (told_at v1 opens page_1 each.0 told_1, (told_at v3 second_page page_2 each.1.1.0 told_2, (told_at v4 last_page page_3 each.1.1.1.0 told_3, tt)));
    three = refl;
    records = records_told;
    amid = part;
    asked = its_request worked_config v2 waits (asks (ask.List list.Identifiers (codes "oai_dc") None None None)) each.1.0 refl;
    full = ap (λ (state : RepoState). length state.open_lists.lists) (sym each.1.0.found) ∙ full_table;
    wait = each.1.0.written ∙ ap (λ (outcome : Outcome). answer_of (outcome_output Second outcome)) waited ∙ waited_answer;
    before = ap (λ (state : RepoState). told state.holdings.items) (sym each.0.found) ∙ items_before;
    between = ap (λ (state : RepoState). told state.holdings.items) (sym each.1.1.0.found) ∙ items_between;
  },
)

pub worked_list : commands_in worked_config own_a ≡ worked_commands → IsWorkedRun
worked_list carried =
    let steps : worked_run ≡ flat_map (steps_of worked_config) (own_visits first_entry worked_calls) =
    ap (run worked_config (empty_state worked_config)) (sym carried) ∙ sym (steps_run worked_config (empty_state worked_config) own_a) in
    let its : AreFound worked_config four_steps (own_visits first_entry worked_calls) =
    found worked_config (empty_state worked_config) own_a four_steps asked_each (subst (λ (all : List Transition). IsPart four_steps all) steps amid) in
    four_visits carried its.some its.each its.among

-- ---- the second repository

abbrev pub own_b : List Call
own_b = own_calls (codes "b") worked_calls

beside_of : commands_in beside.archive_b own_b ≡ beside.harvest_commands → (first second third : Harvest) → AreWorkedHarvests first second third → AreMadeBeside first second third
beside_of carried first second third h =
    let steps : beside.harvest_run ≡ own_steps second_entry worked_calls =
    ap (run archive_b (empty_state archive_b)) (sym carried) ∙ sym (steps_run archive_b (empty_state archive_b) own_b) in
    record {
      successive = subst (λ (all : List Transition). AreSuccessive archive_b all prefix first (second ∷ third ∷ [])) steps h.successive;
      by_pages = h.by_pages;
      at_once = h.at_once;
      nothing = h.nothing;
      copied = h.copied;
    }

pub worked_beside : commands_in beside.archive_b own_b ≡ beside.harvest_commands → (first : Harvest) × (second : Harvest) × (third : Harvest) × AreMadeBeside first second third
worked_beside carried = let h = harvests_worked in (h.0, h.1, h.2, beside_of carried h.0 h.1 h.2 h.3)

-- ---- the host

pub host_accepted : IsHostConfig worked_host
unfolding is_repository_name
host_accepted = record { cached = refl; counted = refl; named = record { named = refl; distinct = refl } }

have_two : (P : NamedConfig → Type 0) (x y : NamedConfig) → P x → P y → All P (x ∷ y ∷ [])
have_two P x y a b zero d within = a
have_two P x y a b (suc zero) d within = b
have_two P x y a b (suc (suc k)) d within = absurd (omega (arith, within))

pub host_rules : HaveRules worked_host
host_rules =
    have_two HasRules first_entry second_entry (record { rules = configured; formats = formats_kept }) (record { rules = beside_configured; formats = formats_kept })
