-- The steps that come of exchanges with a repository are the run of the commands that these carry, and their outcomes are what is answered.
use Rattle.std.proofs.Common.{◌≡◌, ◌∙◌, ℕ, ℤ, List, [], ◌∷◌, ◌++◌, map, refl, sym, ap}
use Rattle.std.specs.List.{AllByRecursion, flat_map}
use Rattle.oai_settings.specs.Config.{RepositoryConfig}
use Rattle.oai_repo.specs.Machine.{Command, command_of, line, query}
use Rattle.oai_repo.specs.State.{RepoState}
use Rattle.oai_deposit.specs.Lines.{line_of}
use Rattle.oai_laws.specs.Eras.{left_behind}
use Rattle.oai_laws.specs.Runs.{Timed, Transition, performed, run}
use Rattle.oai_http.specs.Answers.{answered_with}
use Rattle.oai_http.specs.declared.exchanges.Call.{Call}
use Rattle.oai_host.specs.Alone.{after_line, after_lines, answers_alone, done_alone, exchanged_alone}
use Rattle.oai_host.specs.Tasks.{Task, asking, depositing, refusing, task_of}
use Rattle.oai_headline.specs.Throughout.{left_by}
use Rattle.oai_headline.specs.Visits.{IsWritten, IsWrittenVisit, Visit, commands_by, commands_in, commands_of, lines_written, steps_of, timed_input, visits}

-- ---- the state behind commands

-- commands behind others are performed in the state that these leave
pub run-append : (config : RepositoryConfig) (state : RepoState) (commands others : List Timed)
    → run config state (commands ++ others) ≡ run config state commands ++ run config (left_behind config state commands) others
run-append config state [] others = refl
run-append config state (timed ∷ commands) others =
    ap (λ (steps : List Transition). performed config state timed ∷ steps) (run-append config (performed config state timed).left commands others)

-- the lines of a deposit, one after the other
lines_behind : (config : RepositoryConfig) (moment : ℤ) (state : RepoState) (lines : List (List ℕ))
    → left_behind config state (commands_of config moment (depositing lines)) ≡ (after_lines config moment state lines).1
lines_behind config moment state [] = refl
lines_behind config moment state (text ∷ lines) = lines_behind config moment (after_line config moment state text).1 lines

task_behind : (config : RepositoryConfig) (moment : ℤ) (state : RepoState) (task : Task)
    → left_behind config state (commands_of config moment task) ≡ (done_alone config state moment task).1
task_behind config moment state (refusing status) = refl
task_behind config moment state (asking arguments) = refl
task_behind config moment state (depositing lines) = lines_behind config moment state lines

-- what an exchange leaves is what its commands leave
pub call_behind : (config : RepositoryConfig) (state : RepoState) (call : Call)
    → left_behind config state (commands_by config call) ≡ (exchanged_alone config state call).1
call_behind config state call = task_behind config call.moment state (task_of call)

behind_both : (config : RepositoryConfig) (state : RepoState) (commands others : List Timed)
    → left_behind config state (commands ++ others) ≡ left_behind config (left_behind config state commands) others
behind_both config state [] others = refl
behind_both config state (timed ∷ commands) others = behind_both config (performed config state timed).left commands others

-- and what exchanges leave, what theirs leave
pub calls_behind : (config : RepositoryConfig) (state : RepoState) (calls : List Call) → left_behind config state (commands_in config calls) ≡ left_by config state calls
calls_behind config state [] = refl
calls_behind config state (call ∷ calls) =
    behind_both config state (commands_by config call) (commands_in config calls)
    ∙ ap (λ (s : RepoState). left_behind config s (commands_in config calls)) (call_behind config state call)
    ∙ calls_behind config (exchanged_alone config state call).1 calls

-- ---- the steps

pub steps_run : (config : RepositoryConfig) (state : RepoState) (calls : List Call)
    → flat_map (steps_of config) (visits config state calls) ≡ run config state (commands_in config calls)
steps_run config state [] = refl
steps_run config state (call ∷ calls) =
    let left : RepoState = (exchanged_alone config state call).1 in
    let own : List Timed = commands_by config call in
    let others : List Timed = commands_in config calls in
    ap (λ (steps : List Transition). run config state own ++ steps) (steps_run config left calls)
    ∙ ap (λ (s : RepoState). run config state own ++ run config s others) (sym (call_behind config state call))
    ∙ sym (run-append config state own others)

pub answers_are : (config : RepositoryConfig) (state : RepoState) (calls : List Call)
    → map (λ (visit : Visit). visit.answer) (visits config state calls) ≡ answers_alone config state calls
answers_are config state [] = refl
answers_are config state (call ∷ calls) =
    ap (λ answers. (exchanged_alone config state call).0 ∷ answers) (answers_are config (exchanged_alone config state call).1 calls)

-- ---- what is written

written_lines : (config : RepositoryConfig) (moment : ℤ) (state : RepoState) (lines : List (List ℕ))
    → (after_lines config moment state lines).0 ≡ lines_written config.granularity (run config state (commands_of config moment (depositing lines)))
written_lines config moment state [] = refl
written_lines config moment state (text ∷ lines) =
    ap (λ (body : List ℕ). (after_line config moment state text).0 ++ body) (written_lines config moment (after_line config moment state text).1 lines)

carried_lines : (config : RepositoryConfig) (moment : ℤ) (state : RepoState) (lines : List (List ℕ))
    → map (λ (step : Transition). step.command) (run config state (commands_of config moment (depositing lines)))
    ≡ map (λ (text : List ℕ). command_of config.granularity (line (line_of config.forms text))) lines
carried_lines config moment state [] = refl
carried_lines config moment state (text ∷ lines) =
    ap (λ (commands : List Command). command_of config.granularity (line (line_of config.forms text)) ∷ commands)
    (carried_lines config moment (after_line config moment state text).1 lines)

written_task : (config : RepositoryConfig) (moment : ℤ) (state : RepoState) (task : Task)
    → IsWritten config task (run config state (commands_of config moment task)) (done_alone config state moment task).0
written_task config moment state (refusing status) = (refl, refl)
written_task config moment state (asking arguments) =
    (performed config state (timed_input config.granularity moment (query arguments)), refl, refl, refl)
written_task config moment state (depositing lines) =
    (carried_lines config moment state lines, ap answered_with (written_lines config moment state lines))

pub all_written : (config : RepositoryConfig) (state : RepoState) (calls : List Call) → AllByRecursion (IsWrittenVisit config) (visits config state calls)
all_written config state [] = tt
all_written config state (call ∷ calls) =
    (written_task config call.moment state (task_of call), all_written config (exchanged_alone config state call).1 calls)
