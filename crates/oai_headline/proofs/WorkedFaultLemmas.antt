-- The worked run with failures is computed: what was performed of it is what the run without failures performs.
use Rattle.std.proofs.Common.{◌≡◌, ◌∙◌, true, List, [], ◌∷◌, ◌++◌, codes, Option, None, Some, is_none, refl, sym, ap, subst, arith}
use Rattle.std.specs.List.{AllByRecursion, AllZip}
use Rattle.std.specs.Prelude.{if◌then◌else◌}
use Rattle.std.proofs.lemmas.Bool.{cond-true}
use Rattle.oai_item.specs.declared.faults.Fault.{Fault}
use Rattle.oai_item.specs.declared.faults.Fault.TheVariants.{Device, NoMemory}
use Rattle.oai_settings.specs.Config.{RepositoryConfig}
use Rattle.oai_repo.specs.State.{RepoState, empty_state}
use Rattle.oai_laws.specs.Runs.{IsPart}
use Rattle.oai_laws.specs.Worked.{all_records, worked_config}
use Rattle.oai_http.specs.declared.exchanges.Answer.{Answer}
use Rattle.oai_http.specs.declared.exchanges.Call.{Call}
use Rattle.oai_host.specs.Alone.{exchanged_alone, own_calls}
use Rattle.oai_host.specs.Tasks.{Task, asking, depositing, refusing, task_of}
use Rattle.oai_headline.specs.Chains.{IsFollowing}
use Rattle.oai_headline.specs.Headline.{own_visits}
use Rattle.oai_headline.specs.Throughout.{IsFailure, IsTrueVisit, IsTrueBy, is_asked, left_by, calls_done, calls_done_in, calls_done_by, visits_given}
use Rattle.oai_headline.specs.Visits.{Visit, visits}
use Rattle.oai_headline.specs.Worked.{IsWorkedList, first_entry, worked_calls}
use Rattle.oai_headline.specs.WorkedFaults.{IsWorkedWithFailures, answers_with, failing_answers, failing_calls, failures}
use Rattle.oai_headline.proofs.FollowedLemmas.{next_asking}
use Rattle.oai_headline.proofs.GivenLemmas.{asking_whole}
use Rattle.oai_host.proofs.RedoLemmas.{alone_whole}
use Rattle.oai_headline.proofs.TakenLemmas.{IsAsking}
use Rattle.oai_headline.proofs.WorkedCalls.{carried_a}
use Rattle.oai_headline.proofs.WorkedLemmas.{worked_list}

-- ---- what is given

abbrev FailsSo : Call → Option Answer → Type 0
FailsSo call None = Unit {0}
FailsSo call (Some answer) = (fault : Fault) × (answer.fault ≡ Some fault) × IsFailure fault (task_of call) answer

given_with : (config : RepositoryConfig) (state : RepoState) (calls : List Call) (fails : List (Option Answer)) → AllZip FailsSo calls fails
    → AllByRecursion (IsTrueVisit config) (visits_given config state calls (answers_with config state calls fails))
given_with config state [] fails so = tt
given_with config state (call ∷ calls) [] so = tt
given_with config state (call ∷ calls) (None ∷ fails) so =
    let answer : Answer = (exchanged_alone config state call).0 in (
      subst (λ (f : Option Fault). IsTrueBy config (record { call = call; before = state; answer = answer }) f) (sym (alone_whole config state call.moment (task_of call))) refl,
      given_with config (left_by config state (calls_done_by call answer)) calls fails so.1,
    )
given_with config state (call ∷ calls) (Some answer ∷ fails) so = (
  subst (λ (f : Option Fault). IsTrueBy config (record { call = call; before = state; answer = answer }) f) (sym so.0.1) so.0.2,
  given_with config (left_by config state (calls_done_by call answer)) calls fails so.1,
)

-- ---- what is performed

abbrev planned : List Call → List (Option Answer) → List Call
planned [] fails = []
planned (call ∷ calls) [] = []
planned (call ∷ calls) (None ∷ fails) = (if is_asked (task_of call) then call ∷ [] else []) ++ planned calls fails
planned (call ∷ calls) (Some answer ∷ fails) = calls_done_by call answer ++ planned calls fails

whole_one : (call : Call) (answer : Answer) (task : Task) → is_none answer.fault ≡ true → calls_done_in call answer task ≡ (if is_asked task then call ∷ [] else [])
whole_one call answer (refusing status) none = refl
whole_one call answer (asking arguments) none = cond-true (is_none answer.fault) (call ∷ []) [] none
whole_one call answer (depositing lines) none = cond-true (is_none answer.fault) (call ∷ []) _ none

performed_with : (config : RepositoryConfig) (state : RepoState) (calls : List Call) (fails : List (Option Answer)) → calls_done calls (answers_with config state calls fails) ≡ planned calls fails
performed_with config state [] fails = refl
performed_with config state (call ∷ calls) [] = refl
performed_with config state (call ∷ calls) (None ∷ fails) =
    let answer : Answer = (exchanged_alone config state call).0 in
    ap (λ (cs : List Call). cs ++ calls_done calls (answers_with config (left_by config state (calls_done_by call answer)) calls fails))
    (whole_one call answer (task_of call) (ap is_none (alone_whole config state call.moment (task_of call))))
    ∙ ap (λ (cs : List Call). (if is_asked (task_of call) then call ∷ [] else []) ++ cs) (performed_with config (left_by config state (calls_done_by call answer)) calls fails)
performed_with config state (call ∷ calls) (Some answer ∷ fails) =
    ap (λ (cs : List Call). calls_done_by call answer ++ cs) (performed_with config (left_by config state (calls_done_by call answer)) calls fails)

-- ---- the run

fail_so : AllZip FailsSo failing_calls failures
fail_so = (tt, (tt, (tt, (tt, (tt, (tt, ((Device, refl, (1, omega arith, refl)), (tt, (tt, (tt, ((NoMemory, refl, refl), (tt, (tt, (tt, tt))))))))))))))

same_calls : planned failing_calls failures ≡ own_calls (codes "a") worked_calls
same_calls = refl

asks_each : (first second last : Visit) → IsFollowing worked_config (own_visits first_entry worked_calls) all_records first (second ∷ last ∷ []) → AllByRecursion IsAsking (first ∷ second ∷ last ∷ [])
asks_each first second last chain =
    (record { arguments = chain.asked.arguments; asked = chain.asked.asked }, next_asking worked_config all_records.verb first (second ∷ last ∷ []) chain.next)

with_failures : (first waiting second last : Visit) → IsWorkedList first waiting second last → IsWorkedWithFailures first second last
with_failures first waiting second last list =
    let given = given_with worked_config (empty_state worked_config) failing_calls failures fail_so in
    let same : calls_done failing_calls failing_answers ≡ own_calls (codes "a") worked_calls = performed_with worked_config (empty_state worked_config) failing_calls failures ∙ same_calls in
    let chain = list.following in
    let among : IsPart (first ∷ second ∷ last ∷ []) (visits worked_config (empty_state worked_config) (calls_done failing_calls failing_answers)) =
    subst (λ (cs : List Call). IsPart (first ∷ second ∷ last ∷ []) (visits worked_config (empty_state worked_config) cs)) (sym same) chain.among
    in
    record {
      given = given;
      two = refl;
      same = same;
      following = record {
        among = asking_whole worked_config (empty_state worked_config) failing_calls failing_answers given (first ∷ second ∷ last ∷ []) (asks_each first second last chain) among;
        verb = chain.verb;
        asked = chain.asked;
        long = chain.long;
        answered = chain.answered;
        next = chain.next;
      };
    }

pub worked_with_failures : (first : Visit) × (second : Visit) × (last : Visit) × IsWorkedWithFailures first second last
worked_with_failures = let list = worked_list carried_a in (list.0, list.2, list.3, with_failures list.0 list.1 list.2 list.3 list.4)
