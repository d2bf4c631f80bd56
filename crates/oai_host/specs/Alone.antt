-- One repository alone: its answers to its own exchanges, one after the other. This repository's own, over the machine
-- of OAI-PMH 2.0.
use Rattle.std.specs.Prelude.{ℕ, ℤ, List, [], ◌∷◌, ◌++◌, filter, map, Result}
use Rattle.std.specs.List.{zip}
use Rattle.oai_deposit.specs.Lines.{line_of}
use Rattle.oai_deposit.specs.declared.changes.Change.{Change}
use Rattle.oai_item.specs.declared.refusals.LineRefusal.{LineRefusal}
use Rattle.oai_settings.specs.Config.{RepositoryConfig}
use Rattle.oai_repo.specs.Machine.{Output, bytes, line, query, step, wait}
use Rattle.oai_repo.specs.State.{RepoState}
use Rattle.oai_host.specs.Answers.{answer_of}
use Rattle.oai_http.specs.Answers.{answered, answered_with}
use Rattle.oai_http.specs.Targets.{leads_to_repository}
use Rattle.oai_host.specs.Tasks.{Task, asking, depositing, refusing, task_of}
use Rattle.oai_http.specs.declared.exchanges.Answer.{Answer}
use Rattle.oai_http.specs.declared.exchanges.Call.{Call}

-- ---- the machine alone

-- the answer to a line of a deposit, with a line end; no line is answered by a time to wait
abbrev pub with_end : Output → List ℕ
with_end (bytes text) = text ++ 10 ∷ []
with_end (wait seconds) = []

-- one line, as it was parsed, at that moment: its answer, and the state afterwards
abbrev pub after_read : RepositoryConfig → ℤ → RepoState → Result Change LineRefusal → List ℕ × RepoState
after_read config moment state read = let done = step config state moment (line read) in (with_end done.0, done.1)

abbrev pub after_line : RepositoryConfig → ℤ → RepoState → List ℕ → List ℕ × RepoState
after_line config moment state text = after_read config moment state (line_of config.forms text)

-- lines, one after the other, at one moment
abbrev pub after_lines : RepositoryConfig → ℤ → RepoState → List (List ℕ) → List ℕ × RepoState
after_lines config moment state [] = ([], state)
after_lines config moment state (text ∷ lines) =
    let first = after_line config moment state text in
    let others = after_lines config moment first.1 lines in
    (first.0 ++ others.0, others.1)

-- what is asked of the repository is performed: a request is one step, a deposit is its lines
abbrev pub done_alone : RepositoryConfig → RepoState → ℤ → Task → Answer × RepoState
done_alone config state moment (refusing status) = (answered status, state)
done_alone config state moment (asking arguments) = let done = step config state moment (query arguments) in (answer_of done.0, done.1)
done_alone config state moment (depositing lines) = let done = after_lines config moment state lines in (answered_with done.0, done.1)

-- an exchange: its answer, and the state afterwards
abbrev pub exchanged_alone : RepositoryConfig → RepoState → Call → Answer × RepoState
exchanged_alone config state call = done_alone config state call.moment (task_of call)

-- the answers to exchanges, one after the other
abbrev pub answers_alone : RepositoryConfig → RepoState → List Call → List Answer
answers_alone config state [] = []
answers_alone config state (call ∷ calls) = let done = exchanged_alone config state call in done.0 ∷ answers_alone config done.1 calls

-- ---- what is a repository's own

-- its exchanges: those whose path is its own
abbrev pub own_calls : List ℕ → List Call → List Call
own_calls name calls = filter (λ (call : Call). leads_to_repository name call.target) calls

-- the answers to these
abbrev pub own_answers : List ℕ → List Call → List Answer → List Answer
own_answers name calls answers =
    map (λ (p : Call × Answer). p.1) (filter (λ (p : Call × Answer). leads_to_repository name p.0.target) (zip calls answers))
