-- The machine of one repository: its outcome for a command, and its state afterwards. This repository's own.
use Rattle.std.specs.Prelude.{ℕ, ℤ, List, ◌++◌, codes, Option, None, Some, Result, Ok, Err}
use Rattle.oai_time.specs.declared.granularity.Granularity.{Granularity}
use Rattle.oai_time.specs.TimeTexts.{datestamp_text}
use Rattle.oai_item.specs.Refusals.{Cause, in_line, in_repository, refusal_line}
use Rattle.oai_deposit.specs.declared.changes.Change.{Change}
use Rattle.oai_item.specs.declared.refusals.LineRefusal.{LineRefusal}
use Rattle.oai_item.specs.declared.refusals.ChangeRefusal.{ChangeRefusal}
use Rattle.oai_args.specs.Asks.{AskOrError}
use Rattle.oai_args.specs.Pairs.{decoded_pairs}
use Rattle.oai_args.specs.Requests.{request_of}
use Rattle.oai_answers.specs.Answers.{Attributes, Document}
use Rattle.oai_answers.specs.Documents.{document}
use Rattle.oai_repo.specs.Answers.{arguments_of_request, document_at}
use Rattle.oai_holdings.specs.Changes.{changed, refusal_of, stamp_at, told_stamp}
use Rattle.oai_settings.specs.Config.{RepositoryConfig}
use Rattle.oai_repo.specs.Listing.{Response, request_response, with_answer, retry_after}
use Rattle.oai_repo.specs.State.{RepoState, moved}

-- ---- what is done

-- a command: a request as it was parsed; or a deposit line as it was parsed, a change, or why the line was refused
pub data Command : Type 0 where
  requesting : AskOrError → Command
  changing : Change → Command
  rejecting : LineRefusal → Command

-- the outcome of a command: a document, or how many seconds to wait; or that a line was accepted, with a datestamp in
-- seconds from 1970 on, or why not
pub data Outcome : Type 0 where
  documented : Document → Outcome
  later : ℤ → Outcome
  accepted : ℤ → Outcome
  refused_with : Cause → Outcome

-- a change with that datestamp that this cause refuses, or that none does
abbrev pub act_on_change : RepositoryConfig → RepoState → ℤ → Change → Option ChangeRefusal → Outcome × RepoState
act_on_change config state stamp change (Some cause) = (refused_with (in_repository cause), state)
act_on_change config state stamp change None =
    let new = changed config stamp state.holdings change in
    (accepted (told_stamp stamp change new.items), record state { holdings = new })

-- the outcome of a request with those arguments, by its response, at that clock
abbrev pub outcome_of : RepositoryConfig → ℤ → Attributes → Response → Outcome
outcome_of config clock asked (with_answer answer) = documented (document_at config clock asked answer)
outcome_of config clock asked (retry_after seconds) = later seconds

-- the outcome of a command at the state's clock, and the state afterwards. A request leaves other lists open if it
-- begins one or continues one; of changes only one that is not refused leaves another state
unfoldable pub act : RepositoryConfig → RepoState → Command → Outcome × RepoState
act config state (requesting request) =
    let done = request_response config state request in
    (outcome_of config state.clock (arguments_of_request request) done.0, record state { open_lists = done.1 })
act config state (changing change) =
    let stamp = stamp_at config state.clock in act_on_change config state stamp change (refusal_of config stamp state.holdings change)
act config state (rejecting cause) = (refused_with (in_line cause), state)

-- ---- from bytes and to bytes

-- an input: a request of OAI-PMH by the bytes of its query, or a line as it was parsed
pub data RepoInput : Type 0 where
  query : List ℕ → RepoInput
  line : Result Change LineRefusal → RepoInput

-- the command of the input, in a repository with the granularity
abbrev pub command_of : Granularity → RepoInput → Command
command_of granularity (query arguments) = requesting (request_of granularity (decoded_pairs arguments))
command_of granularity (line (Ok change)) = changing change
command_of granularity (line (Err cause)) = rejecting cause

-- an output: bytes, or how many seconds the client has to wait
pub data Output : Type 0 where
  bytes : List ℕ → Output
  wait : ℤ → Output

-- the output of an outcome: the bytes of a document, or of a line without its end
unfoldable pub outcome_output : Granularity → Outcome → Output
outcome_output granularity (documented answer) = bytes (document answer)
outcome_output granularity (later seconds) = wait seconds
outcome_output granularity (accepted stamp) = bytes (codes "ok " ++ datestamp_text granularity stamp)
outcome_output granularity (refused_with cause) = bytes (refusal_line cause)

-- ---- a step

-- the outcome of a command at a moment, and the state afterwards: it has moved the clock, whatever the outcome
abbrev pub act_at : RepositoryConfig → RepoState → ℤ → Command → Outcome × RepoState
act_at config state moment command = act config (moved moment state) command

-- the output for an input at a moment, and the state afterwards
abbrev pub step : RepositoryConfig → RepoState → ℤ → RepoInput → Output × RepoState
step config state moment input =
    let done = act_at config state moment (command_of config.granularity input) in (outcome_output config.granularity done.0, done.1)
