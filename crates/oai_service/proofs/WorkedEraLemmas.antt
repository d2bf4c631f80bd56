-- What the worked lives before the checkpoint leave, the checkpoint of it, and what is true over both eras.
use Rattle.std.proofs.Common.{◌≡◌, ◌∙◌, ℕ, true, List, [], ◌∷◌, ◌++◌, map, codes, refl, sym, ap, ap₂, subst}
use Rattle.std.specs.Fmt as fmt
use Rattle.std.specs.List.{AllByRecursion, AllZip, flat_map, list_all}
use Rattle.std.proofs.lemmas.List.{append_assoc}
use Rattle.oai_item.specs.Decoding as decoding
use Rattle.oai_item.specs.Encoding.{encoded}
use Rattle.oai_item.specs.Encoding as encoding
use Rattle.oai_item.specs.Items.{placed, without}
use Rattle.oai_settings.specs.Config.{RepositoryConfig}
use Rattle.oai_repo.specs.Saved.{ended}
use Rattle.oai_repo.specs.State.{RepoState, empty_state}
use Rattle.oai_laws.specs.Eras.{AreSuccessiveWithin, left_behind}
use Rattle.oai_laws.specs.Harvests.{Harvest}
use Rattle.oai_laws.specs.Runs.{Timed, Transition}
use Rattle.oai_laws.specs.Worked.{worked_commands, worked_config}
use Rattle.oai_laws.specs.WorkedHarvests.{archive_b, harvest_run, prefix}
use Rattle.oai_laws.proofs.WorkedEraLemmas.{got_4, harvest_4, harvests_over, later_run, list_left}
use Rattle.oai_laws.proofs.WorkedHarvestLemmas.{harvest_1, harvest_2, harvest_3, left_all}
use Rattle.oai_http.specs.declared.exchanges.Answer.{Answer}
use Rattle.oai_http.specs.declared.exchanges.Call.{Call}
use Rattle.oai_host.specs.Alone.{own_answers, own_calls}
use Rattle.oai_host.specs.Hosts.{Repository, begun}
use Rattle.oai_host.specs.Tasks.{task_of}
use Rattle.oai_durable.specs.Records.{redone_all}
use Rattle.oai_headline.specs.Eras.{VisitedEra, era_leaves, era_steps, steps_within, visits_within}
use Rattle.oai_headline.specs.Throughout.{calls_done, is_asked, left_by, visits_given, whole_visits}
use Rattle.oai_headline.specs.Visits.{Visit, commands_by, commands_in, steps_of, visits}
use Rattle.oai_headline.specs.Worked.{first_entry, second_entry, worked_calls}
use Rattle.oai_headline.proofs.CarriedLemmas.{calls_behind}
use Rattle.oai_headline.proofs.WorkedCalls.{carried_a, carried_b, carried_last, last_calls, later_calls}
use Rattle.oai_headline.proofs.WorkedEraLemmas.{earlier_steps, later_steps, token_ended}
use Rattle.oai_headline.proofs.WorkedLemmas.{worked_beside, worked_list}
use Rattle.oai_service.specs.Hosting.{leaving}
use Rattle.oai_service.specs.Keeping.{stays}
use Rattle.oai_service.specs.Turns.{AreTurns, Turn, answers_in, calls_in, turn_records}
use Rattle.oai_service.specs.WorkedLives.{AreOverCheckpoint, AreWorkedTurns, Deed, first_deeds, held_deeds, later_turns, left_a, left_b, second_deeds, third_deeds, turns_at, worked_begun, worked_checkpoint, worked_eras, worked_kept, worked_left}
use Rattle.oai_service.proofs.MachineLemmas.{names_in, sound_store}
use Rattle.oai_service.proofs.OwnLemmas.{IsMetAt, IsOwnMet, honest_still, turns_met, turns_once}
use Rattle.oai_service.proofs.WorkedLemmas.{IsFit, all_fit, are_whole, asked_b, call_of_deed, calls_are, deeds_turned, done_planned, first_fit, held_fit, none_of_deeds, planned, same_a, same_b, second_fit, whole_are, whole_b, with_deeds}

-- ---- what is left of the first repository

-- commands that calls carry, one list behind another
commands_both : (config : RepositoryConfig) (calls others : List Call) → commands_in config (calls ++ others) ≡ commands_in config calls ++ commands_in config others
commands_both config [] others = refl
commands_both config (call ∷ calls) others =
    ap (λ (ts : List Timed). commands_by config call ++ ts) (commands_both config calls others) ∙ sym (append_assoc (commands_by config call) (commands_in config calls) (commands_in config others))

left_by_a : left_by worked_config (empty_state worked_config) (own_calls (codes "a") worked_calls ++ last_calls) ≡ left_a
left_by_a =
    let own : List Call = own_calls (codes "a") worked_calls in
    sym (calls_behind worked_config (empty_state worked_config) (own ++ last_calls))
    ∙ ap (left_behind worked_config (empty_state worked_config))
    (commands_both worked_config own last_calls ∙ ap (λ (ts : List Timed). ts ++ commands_in worked_config last_calls) carried_a ∙ ap (λ (ts : List Timed). worked_commands ++ ts) carried_last)
    ∙ list_left

-- ---- of the second one

left_by_b : left_by archive_b (empty_state archive_b) (own_calls (codes "b") worked_calls) ≡ left_b
left_by_b =
    sym (calls_behind archive_b (empty_state archive_b) (own_calls (codes "b") worked_calls)) ∙ ap (left_behind archive_b (empty_state archive_b)) carried_b ∙ left_all

planned_b : planned (codes "b") (first_deeds ++ held_deeds ++ second_deeds) ≡ own_calls (codes "b") worked_calls
planned_b = refl

-- ---- of both

abbrev made : List ℕ → RepositoryConfig → RepoState → Repository
made name config state = record { name = name; config = config; state = state }

repository_is : (r : Repository) (name : List ℕ) (config : RepositoryConfig) (state : RepoState) → r.name ≡ name → r.config ≡ config → r.state ≡ state → r ≡ made name config state
repository_is r name config state n c s =
    ap (λ (x : List ℕ). made x r.config r.state) n ∙ ap (λ (x : RepositoryConfig). made name x r.state) c ∙ ap (made name config) s

both_left : (calls : List Call) (answers : List Answer) (after : List Repository) → AllZip (IsOwnMet calls answers) (begun first_entry ∷ begun second_entry ∷ []) after
    → left_by worked_config (empty_state worked_config) (calls_done (own_calls (codes "a") calls) (own_answers (codes "a") calls answers)) ≡ left_a
    → left_by archive_b (empty_state archive_b) (calls_done (own_calls (codes "b") calls) (own_answers (codes "b") calls answers)) ≡ left_b
    → after ≡ worked_left
both_left calls answers [] met a b = absurd met
both_left calls answers (y ∷ []) met a b = absurd met.1
both_left calls answers (y ∷ z ∷ w ∷ after) met a b = absurd met.1.1
both_left calls answers (y ∷ z ∷ []) met a b =
    ap₂ (λ (r s : Repository). r ∷ s ∷ [])
    (repository_is y (codes "a") worked_config left_a met.0.name met.0.config (met.0.met.left ∙ a))
    (repository_is z (codes "b") archive_b left_b met.1.0.name met.1.0.config (met.1.0.met.left ∙ b))

deeds_left : (its : List Deed) → AllByRecursion (IsFit (names_in worked_begun)) its → planned (codes "a") its ≡ own_calls (codes "a") worked_calls ++ last_calls
    → planned (codes "b") its ≡ own_calls (codes "b") worked_calls → redone_all leaving worked_begun (turn_records (turns_at worked_begun its)) ≡ worked_left
deeds_left its fits at_a at_b =
    let turns : List Turn = turns_at worked_begun its in
    let turned : AreTurns stays worked_begun [] sound_store turns sound_store = deeds_turned worked_begun worked_begun [] its refl fits in
    both_left (calls_in turns) (answers_in turns) (redone_all leaving worked_begun (turn_records turns))
    (turns_met worked_begun [] turns (turns_once stays honest_still worked_begun [] sound_store turns sound_store refl turned))
    (ap (left_by worked_config (empty_state worked_config)) (done_planned (codes "a") worked_begun its ∙ at_a) ∙ left_by_a)
    (ap (left_by archive_b (empty_state archive_b)) (done_planned (codes "b") worked_begun its ∙ at_b) ∙ left_by_b)

pub earlier_fit : AllByRecursion (IsFit (names_in worked_begun)) (first_deeds ++ held_deeds ++ second_deeds)
earlier_fit = all_fit (names_in worked_begun) first_deeds (held_deeds ++ second_deeds) first_fit (all_fit (names_in worked_begun) held_deeds second_deeds held_fit second_fit)

pub third_fit : AllByRecursion (IsFit (names_in worked_begun)) third_deeds
third_fit = ((refl, refl, refl), ((refl, refl, refl), ((refl, refl, refl), tt)))

pub lives_leave : redone_all leaving worked_begun (turn_records (turns_at worked_begun (first_deeds ++ held_deeds ++ second_deeds))) ≡ worked_left
lives_leave = deeds_left (first_deeds ++ held_deeds ++ second_deeds) earlier_fit same_a planned_b

-- ---- the checkpoint

-- its records leave what was there, but for the lists
pub checkpoint_leaves : redone_all leaving worked_begun worked_checkpoint ≡ worked_kept
unfolding fmt.digits encoded encoding.encoded_stamp encoding.encoded_text encoding.encoded_count encoding.encoded_list encoding.encoded_record decoding.first_item decoding.first_bool decoding.first_stamp decoding.first_text decoding.first_count decoding.first_list decoding.first_elements decoding.first_record placed without
checkpoint_leaves = refl

-- ---- the turns of both eras

later_turned : AreTurns stays worked_begun worked_checkpoint sound_store later_turns sound_store
later_turned = deeds_turned worked_begun worked_kept worked_checkpoint third_deeds checkpoint_leaves third_fit

pub worked_turned : (first : Visit) × (second : Visit) × (last : Visit) × (one : Harvest) × (two : Harvest) × (three : Harvest) × AreWorkedTurns first second last one two three
worked_turned =
    let list = worked_list carried_a in
    let beside = worked_beside carried_b in
    let all = with_deeds (first_deeds ++ held_deeds ++ second_deeds) [] refl earlier_fit same_a same_b whole_b list.0 list.2 list.3 beside.0 beside.1 beside.2 list.4.following beside.3.successive in
    (list.0, list.2, list.3, beside.0, beside.1, beside.2, record { store = sound_store; honest = refl; turned = all.0; later = later_turned; following = all.1; successive = all.2 })

-- ---- the second repository over both eras

abbrev earlier_turns : List Turn
earlier_turns = turns_at worked_begun (first_deeds ++ held_deeds ++ second_deeds)

-- what is known of it
record IsMetOf (calls : List Call) (answers : List Answer) (before : RepoState) : Type 0 where
  pub state : RepoState
  pub met : IsMetAt archive_b (codes "b") calls answers before state

met_second : (calls : List Call) (answers : List Answer) (first second : RepoState) (after : List Repository)
    → AllZip (IsOwnMet calls answers) (made (codes "a") worked_config first ∷ made (codes "b") archive_b second ∷ []) after → IsMetOf calls answers second
met_second calls answers first second [] met = absurd met
met_second calls answers first second (y ∷ []) met = absurd met.1
met_second calls answers first second (y ∷ z ∷ after) met = record { state = z.state; met = met.1.0.met }

earlier_met : IsMetOf (calls_in earlier_turns) (answers_in earlier_turns) (empty_state archive_b)
earlier_met =
    let turned : AreTurns stays worked_begun [] sound_store earlier_turns sound_store = deeds_turned worked_begun worked_begun [] (first_deeds ++ held_deeds ++ second_deeds) refl earlier_fit in
    met_second (calls_in earlier_turns) (answers_in earlier_turns) (empty_state worked_config) (empty_state archive_b) (redone_all leaving worked_begun (turn_records earlier_turns))
    (turns_met worked_begun [] earlier_turns (turns_once stays honest_still worked_begun [] sound_store earlier_turns sound_store refl turned))

later_met : IsMetOf (calls_in later_turns) (answers_in later_turns) (ended 1_000_000 left_b)
later_met =
    met_second (calls_in later_turns) (answers_in later_turns) (ended 1_000_000 left_a) (ended 1_000_000 left_b) (redone_all leaving worked_begun (worked_checkpoint ++ turn_records later_turns))
    (subst (λ (rs : List Repository). AllZip (IsOwnMet (calls_in later_turns) (answers_in later_turns)) rs (redone_all leaving worked_begun (worked_checkpoint ++ turn_records later_turns))) checkpoint_leaves
    (turns_met worked_begun worked_checkpoint later_turns (turns_once stays honest_still worked_begun worked_checkpoint sound_store later_turns sound_store refl later_turned)))

-- all its visits are whole
earlier_whole : whole_visits (visits_given archive_b (empty_state archive_b) (own_calls (codes "b") (calls_in earlier_turns)) (own_answers (codes "b") (calls_in earlier_turns) (answers_in earlier_turns)))
    ≡ visits archive_b (empty_state archive_b) (own_calls (codes "b") worked_calls)
earlier_whole =
    let its : List Deed = first_deeds ++ held_deeds ++ second_deeds in
    whole_are (empty_state archive_b) earlier_met.state (calls_in earlier_turns) (answers_in earlier_turns) (own_calls (codes "b") worked_calls) earlier_met.met
    (none_of_deeds (codes "b") worked_begun its whole_b) (ap (own_calls (codes "b")) (calls_are worked_begun its) ∙ same_b) asked_b

third_b : own_calls (codes "b") (map call_of_deed third_deeds) ≡ later_calls
third_b = refl

third_whole : are_whole (codes "b") third_deeds ≡ true
third_whole = refl

third_asked : list_all (λ (call : Call). is_asked (task_of call)) later_calls ≡ true
third_asked = refl

later_whole : whole_visits (visits_given archive_b (ended 1_000_000 left_b) (own_calls (codes "b") (calls_in later_turns)) (own_answers (codes "b") (calls_in later_turns) (answers_in later_turns)))
    ≡ visits archive_b (ended 1_000_000 left_b) later_calls
later_whole =
    whole_are (ended 1_000_000 left_b) later_met.state (calls_in later_turns) (answers_in later_turns) later_calls later_met.met
    (none_of_deeds (codes "b") worked_kept third_deeds third_whole) (ap (own_calls (codes "b")) (calls_are worked_kept third_deeds) ∙ third_b) third_asked

-- what is left of it
earlier_left : left_by archive_b (empty_state archive_b) (calls_done (own_calls (codes "b") (calls_in earlier_turns)) (own_answers (codes "b") (calls_in earlier_turns) (answers_in earlier_turns))) ≡ left_b
earlier_left = ap (left_by archive_b (empty_state archive_b)) (done_planned (codes "b") worked_begun (first_deeds ++ held_deeds ++ second_deeds) ∙ planned_b) ∙ left_by_b

both_within : visits_within archive_b (empty_state archive_b) worked_eras
    ≡ visits archive_b (empty_state archive_b) (own_calls (codes "b") worked_calls) ∷ visits archive_b (ended 1_000_000 left_b) later_calls ∷ []
both_within =
    let calls : List Call = own_calls (codes "b") (calls_in later_turns) in
    let answers : List Answer = own_answers (codes "b") (calls_in later_turns) (answers_in later_turns) in
    ap₂ (λ (xs ys : List Visit). xs ∷ ys ∷ []) earlier_whole
    (ap (λ (state : RepoState). whole_visits (visits_given archive_b (ended 1_000_000 state) calls answers)) earlier_left ∙ later_whole)

-- steps are those of the visits
steps_by_visits : (config : RepositoryConfig) (state : RepoState) (eras : List VisitedEra) → steps_within config state eras ≡ map (flat_map (steps_of config)) (visits_within config state eras)
steps_by_visits config state [] = refl
steps_by_visits config state (era ∷ eras) =
    ap (λ (all : List (List Transition)). era_steps config state era ∷ all) (steps_by_visits config (era_leaves config state era) eras)

both_steps : steps_within archive_b (empty_state archive_b) worked_eras ≡ harvest_run ∷ later_run ∷ []
both_steps =
    steps_by_visits archive_b (empty_state archive_b) worked_eras ∙ ap (map (flat_map (steps_of archive_b))) both_within
    ∙ ap₂ (λ (xs ys : List Transition). xs ∷ ys ∷ []) earlier_steps later_steps

pub worked_over : (one : Harvest) × (two : Harvest) × (three : Harvest) × (four : Harvest) × (before : Visit) × (after : Visit) × AreOverCheckpoint one two three four before after
worked_over =
    let token = token_ended in (
      harvest_1,
      harvest_2,
      harvest_3,
      harvest_4,
      token.0,
      token.1,
      record {
        successive = subst (λ (all : List (List Transition)). AreSuccessiveWithin archive_b all prefix harvest_1 (harvest_2 ∷ harvest_3 ∷ harvest_4 ∷ [])) (sym both_steps) harvests_over;
        got = got_4;
        earlier = visits archive_b (empty_state archive_b) (own_calls (codes "b") worked_calls);
        later = visits archive_b (ended 1_000_000 left_b) later_calls;
        within = both_within;
        ended = token.2;
      },
    )
