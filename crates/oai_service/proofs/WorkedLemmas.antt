-- The worked lives are turns, and what is asked of a list and of harvests is true of their visits.
use Rattle.std.proofs.Common.{◌≡◌, ◌∙◌, inl, inr, ℕ, ◌+◌, pos, Bool, true, false, ◌&&◌, not, List, [], ◌∷◌, ◌++◌, map, codes, None, Some, is_none, refl, sym, ap, subst, arith, take, unwrap_or}
use Rattle.std.specs.Prelude.{if◌then◌else◌}
use Rattle.std.specs.List.{AllByRecursion, AllZip, flat_map, list_all}
use Rattle.std.proofs.lemmas.Bool.{and_from, and_parts, cond-true, cond-false, false≢true}
use Rattle.oai_item.specs.declared.faults.Fault.TheVariants.{NoMemory}
use Rattle.oai_settings.specs.Config.{RepositoryConfig}
use Rattle.oai_repo.specs.State.{RepoState, empty_state}
use Rattle.oai_laws.specs.Harvests.{AreSuccessive, Harvest}
use Rattle.oai_laws.specs.Runs.{IsPart}
use Rattle.oai_laws.specs.Worked.{all_records, worked_config}
use Rattle.oai_laws.specs.WorkedHarvests.{archive_b, prefix}
use Rattle.oai_http.specs.Answers.{failed}
use Rattle.oai_http.specs.Targets.{leads_to_repository}
use Rattle.oai_http.specs.declared.exchanges.Answer.{Answer}
use Rattle.oai_http.specs.declared.exchanges.Call.{Call}
use Rattle.oai_host.specs.Alone.{answers_alone, exchanged_alone, own_answers, own_calls}
use Rattle.oai_host.specs.Hosts.{IsExchanged, Repository, begun, none_failed}
use Rattle.oai_host.specs.Redone.{reply_all}
use Rattle.oai_host.specs.Redone as host
use Rattle.oai_host.specs.Bodies.{lines_in}
use Rattle.oai_host.specs.Tasks.{Task, asking, depositing, refusing, task_of}
use Rattle.oai_host.proofs.RedoLemmas.{alone_whole}
use Rattle.oai_journal.specs.Records.{Entry}
use Rattle.oai_journal.specs.declared.records.Kind.TheVariants as kind
use Rattle.oai_daemon.specs.Watches.{is_status}
use Rattle.oai_durable.specs.Records.{call_in, left_as, left_by_entry, part_kind, redone_all}
use Rattle.oai_headline.specs.Chains.{IsFollowing}
use Rattle.oai_headline.specs.Headline.{own_steps, own_visits}
use Rattle.oai_headline.specs.Throughout.{IsTrueVisit, is_asked, is_done_whole, left_by as left_by_calls, calls_done, calls_done_by, calls_done_in, own_given, visits_given, whole_visits, with_lines}
use Rattle.oai_headline.specs.Visits.{Visit, steps_of, visits}
use Rattle.oai_headline.specs.Worked.{deposit_line, first_entry, post, second_entry, worked_calls}
use Rattle.oai_headline.proofs.FollowedLemmas.{next_asking}
use Rattle.oai_headline.proofs.GivenLemmas.{asking_whole}
use Rattle.oai_headline.proofs.TakenLemmas.{IsAsking}
use Rattle.oai_headline.proofs.WorkedCalls.{last_calls}
use Rattle.oai_service.specs.Hosting.{leaving}
use Rattle.oai_service.specs.Keeping.{stays}
use Rattle.oai_service.specs.Turns.{AreTurns, IsTurn, Turn, answers_in, calls_in, turn_records, was_performed}
use Rattle.oai_service.specs.WorkedLives.{Deed, done_once, done_whole, entry_of_deed, exchanged_at, first_deeds, held_deeds, second_deeds, turns_at, worked_begun}
use Rattle.oai_service.proofs.MachineLemmas.{IsOnce, leads_to_one, names_in, names_left, once_exchanged, reply_whole, sound_host, sound_store, whole_exchanged}
use Rattle.oai_service.proofs.OwnLemmas.{IsMetAt, IsOwnMet, honest_still, left_whole, other_answer, other_call, own_answer, own_call, turns_met, turns_once}

-- ---- records, one list behind another

pub redone_append : (kept : List Repository) (entries others : List Entry) → redone_all leaving kept (entries ++ others) ≡ redone_all leaving (redone_all leaving kept entries) others
redone_append kept [] others = refl
redone_append kept (entry ∷ entries) others = redone_append (left_by_entry leaving kept entry) entries others

-- ---- deeds are turns

-- a deed fits a host of repositories of these names
abbrev pub IsFit : List (List ℕ) → Deed → Type 0
IsFit names (done_whole entry) = (leads_to_one (call_in entry).target names ≡ true) × (part_kind entry.kind ≡ None) × (is_status (call_in entry).target ≡ false)
IsFit names (done_once call entry) = (leads_to_one call.target names ≡ true) × (part_kind entry.kind ≡ None) × IsOnce call (call_in entry) × (is_status call.target ≡ false)

pub left_call : (kept : List Repository) (entry : Entry) → part_kind entry.kind ≡ None → left_by_entry leaving kept entry ≡ host.redone_repositories kept (call_in entry)
left_call kept entry is = ap (left_as leaving kept entry) is

pub names_after : (kept : List Repository) (entry : Entry) → part_kind entry.kind ≡ None → names_in (left_by_entry leaving kept entry) ≡ names_in kept
names_after kept entry is = ap names_in (left_call kept entry is) ∙ names_left (call_in entry) kept

pub deed_kind : (names : List (List ℕ)) (deed : Deed) → IsFit names deed → part_kind (entry_of_deed deed).kind ≡ None
deed_kind names (done_whole entry) fit = fit.1
deed_kind names (done_once call entry) fit = fit.1

deed_turn : (kept : List Repository) (deed : Deed) → IsFit (names_in kept) deed → IsTurn kept sound_store (was_performed (exchanged_at kept deed)) (left_by_entry leaving kept (entry_of_deed deed)) sound_store
deed_turn kept (done_whole entry) fit =
    subst (λ (rs : List Repository). IsExchanged (call_in entry) (reply_all kept (call_in entry)) (sound_host kept) (sound_host rs)) (sym (left_call kept entry fit.1)) (whole_exchanged (call_in entry) kept fit.0)
deed_turn kept (done_once call entry) fit =
    subst (λ (rs : List Repository). IsExchanged call (failed NoMemory (Some 1)) (sound_host kept) (sound_host rs)) (sym (left_call kept entry fit.1)) (once_exchanged call (call_in entry) kept fit.2 fit.0)

pub own_entry : (kept : List Repository) (deed : Deed) → (exchanged_at kept deed).own ≡ entry_of_deed deed ∷ []
own_entry kept (done_whole entry) = refl
own_entry kept (done_once call entry) = refl

pub deeds_turned : (begun kept : List Repository) (before : List Entry) (deeds : List Deed) → redone_all leaving begun before ≡ kept → AllByRecursion (IsFit (names_in kept)) deeds
    → AreTurns stays begun before sound_store (turns_at kept deeds) sound_store
deeds_turned begun kept before [] is fit = refl
deeds_turned begun kept before (deed ∷ deeds) is fit =
    let entry : Entry = entry_of_deed deed in
    let now : List Repository = left_by_entry leaving kept entry in
    let own : (exchanged_at kept deed).own ≡ entry ∷ [] = own_entry kept deed in
    let next : redone_all leaving begun (before ++ (exchanged_at kept deed).own) ≡ now =
    ap (λ (es : List Entry). redone_all leaving begun (before ++ es)) own ∙ redone_append begun before (entry ∷ []) ∙ ap (λ (rs : List Repository). left_by_entry leaving rs entry) is in
    let here : IsTurn (redone_all leaving begun before) sound_store (was_performed (exchanged_at kept deed)) (redone_all leaving begun (before ++ (exchanged_at kept deed).own)) sound_store =
    subst (λ (rs : List Repository). IsTurn (redone_all leaving begun before) sound_store (was_performed (exchanged_at kept deed)) rs sound_store) (sym next)
    (subst (λ (rs : List Repository). IsTurn rs sound_store (was_performed (exchanged_at kept deed)) now sound_store) (sym is) (deed_turn kept deed fit.0)) in
    let names : names_in now ≡ names_in kept = names_after kept entry (deed_kind (names_in kept) deed fit.0) in
    (sound_store, refl, sound_store, here, deeds_turned begun now (before ++ (exchanged_at kept deed).own) deeds next (subst (λ (ns : List (List ℕ)). AllByRecursion (IsFit ns) deeds) (sym names) fit.1))

-- ---- what is done of them

abbrev pub asked_alone : Call → List Call
asked_alone call = if is_asked (task_of call) then call ∷ [] else []

-- the calls that are done at the repository of that name
abbrev pub planned : List ℕ → List Deed → List Call
planned name [] = []
planned name (done_whole entry ∷ deeds) = (if leads_to_repository name (call_in entry).target then asked_alone (call_in entry) else []) ++ planned name deeds
planned name (done_once call entry ∷ deeds) = (if leads_to_repository name call.target then calls_done_by call (failed NoMemory (Some 1)) else []) ++ planned name deeds

asked_whole : (call : Call) (answer : Answer) (task : Task) → is_none answer.fault ≡ true → calls_done_in call answer task ≡ (if is_asked task then call ∷ [] else [])
asked_whole call answer (refusing status) none = refl
asked_whole call answer (asking arguments) none = cond-true (is_none answer.fault) (call ∷ []) [] none
asked_whole call answer (depositing lines) none = cond-true (is_none answer.fault) (call ∷ []) (with_lines call (take (unwrap_or answer.done 0) lines) ∷ []) none

reply_none : (call : Call) (repositories : List Repository) → is_none (reply_all repositories call).fault ≡ true
reply_none call repositories = ap is_none (reply_whole call repositories)

-- the first of exchanges, at the repository of a name
done_first : (name : List ℕ) (call : Call) (answer : Answer) (calls : List Call) (answers : List Answer) (first rest : List Call) → calls_done_by call answer ≡ first
    → calls_done (own_calls name calls) (own_answers name calls answers) ≡ rest
    → calls_done (own_calls name (call ∷ calls)) (own_answers name (call ∷ calls) (answer ∷ answers)) ≡ (if leads_to_repository name call.target then first else []) ++ rest
done_first name call answer calls answers first rest its others = by (leads_to_repository name call.target) refl
  where
    by : (b : Bool) → leads_to_repository name call.target ≡ b
        → calls_done (own_calls name (call ∷ calls)) (own_answers name (call ∷ calls) (answer ∷ answers)) ≡ (if leads_to_repository name call.target then first else []) ++ rest
    by true own =
        ap (λ (cs : List Call). calls_done cs (own_answers name (call ∷ calls) (answer ∷ answers))) (own_call name call calls own)
        ∙ ap (λ (xs : List Answer). calls_done (call ∷ own_calls name calls) xs) (own_answer name call calls answer answers own)
        ∙ ap (λ (cs : List Call). cs ++ calls_done (own_calls name calls) (own_answers name calls answers)) its
        ∙ ap (λ (cs : List Call). first ++ cs) others
        ∙ ap (λ (cs : List Call). cs ++ rest) (sym (cond-true (leads_to_repository name call.target) first [] own))
    by false other =
        ap (λ (cs : List Call). calls_done cs (own_answers name (call ∷ calls) (answer ∷ answers))) (other_call name call calls other)
        ∙ ap (λ (xs : List Answer). calls_done (own_calls name calls) xs) (other_answer name call calls answer answers other)
        ∙ others
        ∙ ap (λ (cs : List Call). cs ++ rest) (sym (cond-false (leads_to_repository name call.target) first [] other))

pub done_planned : (name : List ℕ) (kept : List Repository) (deeds : List Deed)
    → calls_done (own_calls name (calls_in (turns_at kept deeds))) (own_answers name (calls_in (turns_at kept deeds)) (answers_in (turns_at kept deeds))) ≡ planned name deeds
done_planned name kept [] = refl
done_planned name kept (done_whole entry ∷ deeds) =
    let now : List Repository = left_by_entry leaving kept entry in
    done_first name (call_in entry) (reply_all kept (call_in entry)) (calls_in (turns_at now deeds)) (answers_in (turns_at now deeds)) (asked_alone (call_in entry)) (planned name deeds)
    (asked_whole (call_in entry) (reply_all kept (call_in entry)) (task_of (call_in entry)) (reply_none (call_in entry) kept)) (done_planned name now deeds)
done_planned name kept (done_once call entry ∷ deeds) =
    let now : List Repository = left_by_entry leaving kept entry in
    done_first name call (failed NoMemory (Some 1)) (calls_in (turns_at now deeds)) (answers_in (turns_at now deeds)) (calls_done_by call (failed NoMemory (Some 1))) (planned name deeds) refl
    (done_planned name now deeds)

-- ---- a repository at which none fails

abbrev pub call_of_deed : Deed → Call
call_of_deed (done_whole entry) = call_in entry
call_of_deed (done_once call entry) = call

pub calls_are : (kept : List Repository) (deeds : List Deed) → calls_in (turns_at kept deeds) ≡ map call_of_deed deeds
calls_are kept [] = refl
calls_are kept (done_whole entry ∷ deeds) = ap (λ (cs : List Call). call_in entry ∷ cs) (calls_are (left_by_entry leaving kept entry) deeds)
calls_are kept (done_once call entry ∷ deeds) = ap (λ (cs : List Call). call ∷ cs) (calls_are (left_by_entry leaving kept entry) deeds)

abbrev pub are_whole : List ℕ → List Deed → Bool
are_whole name [] = true
are_whole name (done_whole entry ∷ deeds) = are_whole name deeds
are_whole name (done_once call entry ∷ deeds) = not (leads_to_repository name call.target) && are_whole name deeds

none_first : (name : List ℕ) (call : Call) (answer : Answer) (calls : List Call) (answers : List Answer) → (leads_to_repository name call.target ≡ true → is_none answer.fault ≡ true)
    → none_failed (own_answers name calls answers) ≡ true → none_failed (own_answers name (call ∷ calls) (answer ∷ answers)) ≡ true
none_first name call answer calls answers none others = by (leads_to_repository name call.target) refl
  where
    by : (b : Bool) → leads_to_repository name call.target ≡ b → none_failed (own_answers name (call ∷ calls) (answer ∷ answers)) ≡ true
    by true own = ap none_failed (own_answer name call calls answer answers own) ∙ and_from (is_none answer.fault) (none_failed (own_answers name calls answers)) (none own) others
    by false other = ap none_failed (other_answer name call calls answer answers other) ∙ others

not_so : (b : Bool) → not b ≡ true → b ≡ true → ⊥
not_so true h so = false≢true h
not_so false h so = false≢true so

pub none_of_deeds : (name : List ℕ) (kept : List Repository) (deeds : List Deed) → are_whole name deeds ≡ true → none_failed (own_answers name (calls_in (turns_at kept deeds)) (answers_in (turns_at kept deeds))) ≡ true
none_of_deeds name kept [] whole = refl
none_of_deeds name kept (done_whole entry ∷ deeds) whole =
    let now : List Repository = left_by_entry leaving kept entry in
    none_first name (call_in entry) (reply_all kept (call_in entry)) (calls_in (turns_at now deeds)) (answers_in (turns_at now deeds)) (λ own. reply_none (call_in entry) kept) (none_of_deeds name now deeds whole)
none_of_deeds name kept (done_once call entry ∷ deeds) whole =
    let now : List Repository = left_by_entry leaving kept entry in
    let parts = and_parts (not (leads_to_repository name call.target)) (are_whole name deeds) whole in
    none_first name call (failed NoMemory (Some 1)) (calls_in (turns_at now deeds)) (answers_in (turns_at now deeds)) (λ own. absurd (not_so (leads_to_repository name call.target) parts.0 own))
    (none_of_deeds name now deeds parts.1)

all_whole : (config : RepositoryConfig) (state : RepoState) (calls : List Call) → list_all (λ (call : Call). is_asked (task_of call)) calls ≡ true
    → whole_visits (visits_given config state calls (answers_alone config state calls)) ≡ visits config state calls
all_whole config state [] asked = refl
all_whole config state (call ∷ calls) asked =
    let parts = and_parts (is_asked (task_of call)) (list_all (λ (c : Call). is_asked (task_of c)) calls) asked in
    let answer : Answer = (exchanged_alone config state call).0 in
    let next : RepoState = (exchanged_alone config state call).1 in
    let none : is_none answer.fault ≡ true = ap is_none (alone_whole config state call.moment (task_of call)) in
    let visit : Visit = record { call = call; before = state; answer = answer } in
    let rest : List Visit = whole_visits (visits_given config (left_by_calls config state (calls_done_by call answer)) calls (answers_alone config next calls)) in
    cond-true (is_done_whole visit) (visit ∷ rest) rest (and_from (is_none answer.fault) (is_asked (task_of call)) none parts.0)
    ∙ ap (λ (s : RepoState). visit ∷ whole_visits (visits_given config s calls (answers_alone config next calls))) (left_whole config call answer state none)
    ∙ ap (λ (vs : List Visit). visit ∷ vs) (all_whole config next calls parts.1)

-- ---- at the two repositories

-- what is known of both
record AreMetBoth (calls : List Call) (answers : List Answer) : Type 0 where
  pub state_a : RepoState
  pub met_a : IsMetAt worked_config (codes "a") calls answers (empty_state worked_config) state_a
  pub state_b : RepoState
  pub met_b : IsMetAt archive_b (codes "b") calls answers (empty_state archive_b) state_b

both_met : (calls : List Call) (answers : List Answer) (after : List Repository) → AllZip (IsOwnMet calls answers) (begun first_entry ∷ begun second_entry ∷ []) after → AreMetBoth calls answers
both_met calls answers [] met = absurd met
both_met calls answers (y ∷ []) met = absurd met.1
both_met calls answers (y ∷ z ∷ after) met = record { state_a = y.state; met_a = met.0.met; state_b = z.state; met_b = met.1.0.met }

asks_each : (first second last : Visit) → IsFollowing worked_config (own_visits first_entry worked_calls) all_records first (second ∷ last ∷ []) → AllByRecursion IsAsking (first ∷ second ∷ last ∷ [])
asks_each first second last chain =
    (record { arguments = chain.asked.arguments; asked = chain.asked.asked }, next_asking worked_config all_records.verb first (second ∷ last ∷ []) chain.next)

-- a part of visits is one of these and of more behind them
part_none : (all : List Visit) → IsPart [] all
part_none [] = refl
part_none (visit ∷ all) = inl (part_none all)

part_front : (config : RepositoryConfig) (state : RepoState) (calls others : List Call) (some : List Visit) → IsPart some (visits config state calls) → IsPart some (visits config state (calls ++ others))
part_front config state [] others some part = subst (λ (vs : List Visit). IsPart vs (visits config state others)) (sym part) (part_none (visits config state others))
part_front config state (call ∷ calls) others some (inl part) = inl (part_front config (exchanged_alone config state call).1 calls others some part)
part_front config state (call ∷ calls) others some (inr part) = inr (part.0, part.1, part_front config (exchanged_alone config state call).1 calls others part.0 part.2)

following_a : (calls : List Call) (answers : List Answer) (behind : List Call) (first second last : Visit) → AllByRecursion (IsTrueVisit worked_config) (own_given first_entry calls answers)
    → calls_done (own_calls (codes "a") calls) (own_answers (codes "a") calls answers) ≡ own_calls (codes "a") worked_calls ++ behind
    → IsFollowing worked_config (own_visits first_entry worked_calls) all_records first (second ∷ last ∷ [])
    → IsFollowing worked_config (whole_visits (own_given first_entry calls answers)) all_records first (second ∷ last ∷ [])
following_a calls answers behind first second last given same chain =
    let among : IsPart (first ∷ second ∷ last ∷ []) (visits worked_config (empty_state worked_config) (calls_done (own_calls (codes "a") calls) (own_answers (codes "a") calls answers))) =
    subst (λ (cs : List Call). IsPart (first ∷ second ∷ last ∷ []) (visits worked_config (empty_state worked_config) cs)) (sym same)
    (part_front worked_config (empty_state worked_config) (own_calls (codes "a") worked_calls) behind (first ∷ second ∷ last ∷ []) chain.among)
    in
    record {
      among = asking_whole worked_config (empty_state worked_config) (own_calls (codes "a") calls) (own_answers (codes "a") calls answers) given (first ∷ second ∷ last ∷ []) (asks_each first second last chain) among;
      verb = chain.verb;
      asked = chain.asked;
      long = chain.long;
      answered = chain.answered;
      next = chain.next;
    }

-- at the second one none fails, so that all its visits are whole
pub whole_are : (start state : RepoState) (calls : List Call) (answers : List Answer) (own : List Call) → IsMetAt archive_b (codes "b") calls answers start state
    → none_failed (own_answers (codes "b") calls answers) ≡ true → own_calls (codes "b") calls ≡ own → list_all (λ (call : Call). is_asked (task_of call)) own ≡ true
    → whole_visits (visits_given archive_b start (own_calls (codes "b") calls) (own_answers (codes "b") calls answers)) ≡ visits archive_b start own
whole_are start state calls answers own met none same asked =
    let answers_are : own_answers (codes "b") calls answers ≡ answers_alone archive_b start own = met.alone none ∙ ap (answers_alone archive_b start) same in
    ap (λ (cs : List Call). whole_visits (visits_given archive_b start cs (own_answers (codes "b") calls answers))) same
    ∙ ap (λ (xs : List Answer). whole_visits (visits_given archive_b start own xs)) answers_are
    ∙ all_whole archive_b start own asked

successive_b : (calls : List Call) (answers : List Answer) (state : RepoState) (one two three : Harvest) → IsMetAt archive_b (codes "b") calls answers (empty_state archive_b) state
    → none_failed (own_answers (codes "b") calls answers) ≡ true → own_calls (codes "b") calls ≡ own_calls (codes "b") worked_calls
    → list_all (λ (call : Call). is_asked (task_of call)) (own_calls (codes "b") worked_calls) ≡ true
    → AreSuccessive archive_b (own_steps second_entry worked_calls) prefix one (two ∷ three ∷ [])
    → AreSuccessive archive_b (flat_map (steps_of archive_b) (whole_visits (own_given second_entry calls answers))) prefix one (two ∷ three ∷ [])
successive_b calls answers state one two three met none same asked successive =
    subst (λ (vs : List Visit). AreSuccessive archive_b (flat_map (steps_of archive_b) vs) prefix one (two ∷ three ∷ []))
    (sym (whole_are (empty_state archive_b) state calls answers (own_calls (codes "b") worked_calls) met none same asked)) successive

-- ---- the whole

once : IsOnce (post 61 (codes "/deposit/a") (deposit_line (codes "oai:a:6") ++ deposit_line (codes "oai:a:7")))
    (call_in (record { moment = pos (1_704_067_200 + 61); kind = kind.Deposit; name = codes "a"; body = deposit_line (codes "oai:a:6") }))
once = record { lines = lines_in (deposit_line (codes "oai:a:6") ++ deposit_line (codes "oai:a:7")); asked = refl; more = omega arith; first = refl; target = refl; moment = refl }

pub first_fit : AllByRecursion (IsFit (names_in worked_begun)) first_deeds
first_fit = ((refl, refl, refl), ((refl, refl, refl), ((refl, refl, refl), ((refl, refl, refl), ((refl, refl, refl), ((refl, refl, refl), ((refl, refl, refl), tt)))))))

pub held_fit : AllByRecursion (IsFit (names_in worked_begun)) held_deeds
held_fit = ((refl, refl, refl), ((refl, refl, refl), tt))

pub second_fit : AllByRecursion (IsFit (names_in worked_begun)) second_deeds
second_fit = (
  (refl, refl, refl),
  ((refl, refl, refl), ((refl, refl, once, refl), ((refl, refl, refl), ((refl, refl, refl), ((refl, refl, refl), ((refl, refl, refl), ((refl, refl, refl), ((refl, refl, refl), ((refl, refl, refl), ((refl, refl, refl), ((refl, refl, refl), ((refl, refl, refl), tt)))))))))))),
)

pub all_fit : (names : List (List ℕ)) (front back : List Deed) → AllByRecursion (IsFit names) front → AllByRecursion (IsFit names) back → AllByRecursion (IsFit names) (front ++ back)
all_fit names [] back first second = second
all_fit names (deed ∷ front) back first second = (first.0, all_fit names front back first.1 second)

pub same_a : planned (codes "a") (first_deeds ++ held_deeds ++ second_deeds) ≡ own_calls (codes "a") worked_calls ++ last_calls
same_a = refl

pub same_b : own_calls (codes "b") (map call_of_deed (first_deeds ++ held_deeds ++ second_deeds)) ≡ own_calls (codes "b") worked_calls
same_b = refl

pub whole_b : are_whole (codes "b") (first_deeds ++ held_deeds ++ second_deeds) ≡ true
whole_b = refl

pub asked_b : list_all (λ (call : Call). is_asked (task_of call)) (own_calls (codes "b") worked_calls) ≡ true
asked_b = refl

pub with_deeds : (its : List Deed) (found : List Entry) → redone_all leaving worked_begun found ≡ worked_begun → AllByRecursion (IsFit (names_in worked_begun)) its
    → planned (codes "a") its ≡ own_calls (codes "a") worked_calls ++ last_calls
    → own_calls (codes "b") (map call_of_deed its) ≡ own_calls (codes "b") worked_calls → are_whole (codes "b") its ≡ true
    → (first second last : Visit) (one two three : Harvest)
    → IsFollowing worked_config (own_visits first_entry worked_calls) all_records first (second ∷ last ∷ [])
    → AreSuccessive archive_b (own_steps second_entry worked_calls) prefix one (two ∷ three ∷ [])
    → (let turns = turns_at worked_begun its in
    AreTurns stays worked_begun found sound_store turns sound_store
    × IsFollowing worked_config (whole_visits (own_given first_entry (calls_in turns) (answers_in turns))) all_records first (second ∷ last ∷ [])
    × AreSuccessive archive_b (flat_map (steps_of archive_b) (whole_visits (own_given second_entry (calls_in turns) (answers_in turns)))) prefix one (two ∷ three ∷ []))
with_deeds its found starts fits at_a at_b whole first second last one two three chain successive =
    let turns : List Turn = turns_at worked_begun its in
    let turned : AreTurns stays worked_begun found sound_store turns sound_store = deeds_turned worked_begun worked_begun found its starts fits in
    let met = subst (λ (rs : List Repository). AllZip (IsOwnMet (calls_in turns) (answers_in turns)) rs (redone_all leaving worked_begun (found ++ turn_records turns))) starts
    (turns_met worked_begun found turns (turns_once stays honest_still worked_begun found sound_store turns sound_store refl turned)) in
    let both : AreMetBoth (calls_in turns) (answers_in turns) = both_met (calls_in turns) (answers_in turns) (redone_all leaving worked_begun (found ++ turn_records turns)) met in (
      turned,
      following_a (calls_in turns) (answers_in turns) last_calls first second last both.met_a.given (done_planned (codes "a") worked_begun its ∙ at_a) chain,
      successive_b (calls_in turns) (answers_in turns) both.state_b one two three both.met_b (none_of_deeds (codes "b") worked_begun its whole) (ap (own_calls (codes "b")) (calls_are worked_begun its) ∙ at_b) asked_b successive,
    )
