-- The exchanges with a repository alone, and the steps of its machine that they make. OAI-PMH 2.0, section 3.1;
-- deposits are this repository's own.
use Rattle.std.specs.Prelude.{◌≡◌, ℕ, ℤ, List, [], ◌∷◌, map}
use Rattle.std.specs.List.{flat_map}
use Rattle.oai_time.specs.declared.granularity.Granularity.{Granularity}
use Rattle.oai_deposit.specs.Lines.{line_of}
use Rattle.oai_settings.specs.Config.{RepositoryConfig}
use Rattle.oai_repo.specs.Machine.{RepoInput, command_of, line, outcome_output, query}
use Rattle.oai_repo.specs.State.{RepoState, moved}
use Rattle.oai_laws.specs.Runs.{Timed, Transition, run}
use Rattle.oai_http.specs.Answers.{answered, answered_with}
use Rattle.oai_http.specs.declared.exchanges.Answer.{Answer}
use Rattle.oai_http.specs.declared.exchanges.Call.{Call}
use Rattle.oai_host.specs.Alone.{exchanged_alone, with_end}
use Rattle.oai_host.specs.Answers.{answer_of}
use Rattle.oai_host.specs.Tasks.{Task, asking, depositing, refusing, task_of}

-- ---- the commands that exchanges carry

-- an input is a command, at that moment
abbrev pub timed_input : Granularity → ℤ → RepoInput → Timed
timed_input granularity moment input = record { moment = moment; command = command_of granularity input }

-- none if nothing is asked; one for a request; one for each line of a deposit
abbrev pub commands_of : RepositoryConfig → ℤ → Task → List Timed
commands_of config moment (refusing status) = []
commands_of config moment (asking arguments) = timed_input config.granularity moment (query arguments) ∷ []
commands_of config moment (depositing lines) = map (λ (text : List ℕ). timed_input config.granularity moment (line (line_of config.forms text))) lines

-- of an exchange
abbrev pub commands_by : RepositoryConfig → Call → List Timed
commands_by config call = commands_of config call.moment (task_of call)

-- of exchanges, one after the other
abbrev pub commands_in : RepositoryConfig → List Call → List Timed
commands_in config calls = flat_map (commands_by config) calls

-- ---- visits

-- an exchange with the repository: what is asked, the state before it, and the answer
pub record Visit : Type 0 where
  pub call : Call
  pub before : RepoState
  pub answer : Answer

-- the state that it finds: its clock has moved, and lists may have ended
abbrev pub found_by : Visit → RepoState
found_by visit = moved visit.call.moment visit.before

-- what the machine does then: a step for each command
abbrev pub steps_of : RepositoryConfig → Visit → List Transition
steps_of config visit = run config visit.before (commands_by config visit.call)

-- the exchange, with the repository in that state
abbrev pub visit_in : RepositoryConfig → RepoState → Call → Visit
visit_in config state call = record { call = call; before = state; answer = (exchanged_alone config state call).0 }

-- exchanges, one after the other, the first in that state
abbrev pub visits : RepositoryConfig → RepoState → List Call → List Visit
visits config state [] = []
visits config state (call ∷ calls) = visit_in config state call ∷ visits config (exchanged_alone config state call).1 calls

-- ---- what is written

-- a line for each step
abbrev pub lines_written : Granularity → List Transition → List ℕ
lines_written granularity steps = flat_map (λ (step : Transition). with_end (outcome_output granularity step.outcome)) steps

-- the answer is what the steps made: a status if nothing is asked; for a request, which is one step, a document or a
-- time to wait; for a deposit, which is a step for each line, a line for each
abbrev pub IsWritten : RepositoryConfig → Task → List Transition → Answer → Type 0
IsWritten config (refusing status) steps answer = (steps ≡ []) × (answer ≡ answered status)
IsWritten config (asking arguments) steps answer =
    (step : Transition)
    × (steps ≡ step ∷ [])
    × (step.command ≡ command_of config.granularity (query arguments))
    × (answer ≡ answer_of (outcome_output config.granularity step.outcome))
IsWritten config (depositing lines) steps answer =
    (map (λ (step : Transition). step.command) steps ≡ map (λ (text : List ℕ). command_of config.granularity (line (line_of config.forms text))) lines)
    × (answer ≡ answered_with (lines_written config.granularity steps))

-- the same, of the visit
abbrev pub IsWrittenVisit : RepositoryConfig → Visit → Type 0
IsWrittenVisit config visit = IsWritten config (task_of visit.call) (steps_of config visit) visit.answer
