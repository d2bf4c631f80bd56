-- The theorem of a host whatever memory was refused and whichever device calls failed, in one definition. OAI-PMH 2.0,
-- sections 2.7, 3.1.2.2 and 3.5; deposits, and many repositories behind one interface, are this repository's own.
use Rattle.std.specs.Prelude.{◌≡◌, ◌<◌, ℕ, Bool, true, false, ◌&&◌, if◌then◌else◌, is_none, List, [], ◌∷◌, ◌++◌, length, take, filter, Option, None, Some, unwrap_or}
use Rattle.std.specs.List.{AllByRecursion, AllZip, flat_map}
use Rattle.oai_item.specs.declared.faults.Fault.{Fault}
use Rattle.oai_settings.specs.Config.{RepositoryConfig}
use Rattle.oai_repo.specs.State.{RepoState, empty_state}
use Rattle.oai_laws.specs.Following.{ListQuery}
use Rattle.oai_laws.specs.Runs.{IsPart}
use Rattle.oai_config.specs.Configs.{HostConfig, NamedConfig}
use Rattle.oai_http.specs.Answers.{failed}
use Rattle.oai_http.specs.declared.exchanges.Answer.{Answer}
use Rattle.oai_http.specs.declared.exchanges.Call.{Call}
use Rattle.oai_host.specs.Alone.{answers_alone, exchanged_alone, own_answers, own_calls}
use Rattle.oai_host.specs.Hosts.{Repository, none_failed}
use Rattle.oai_host.specs.Tasks.{Task, asking, depositing, refusing, task_of}
use Rattle.oai_headline.specs.Chains.{AreReached, IsFollowing}
use Rattle.oai_headline.specs.Headline.{MissNothing}
use Rattle.oai_headline.specs.Visits.{Visit, steps_of, visits}

-- ---- what was performed

-- lines, as the body of a deposit
abbrev pub body_of : List (List ℕ) → List ℕ
body_of lines = flat_map (λ (text : List ℕ). text ++ 10 ∷ []) lines

-- the deposit, of these lines alone
abbrev pub with_lines : Call → List (List ℕ) → Call
with_lines call lines = record call { body = body_of lines }

-- the calls that were done of an exchange, by what it asks and its answer: none if it asks nothing; of a request,
-- itself if it has no fault; of a deposit, itself if it has no fault, and otherwise the first of its lines, as many as
-- the answer says
abbrev pub calls_done_in : Call → Answer → Task → List Call
calls_done_in call answer (refusing status) = []
calls_done_in call answer (asking arguments) = if is_none answer.fault then call ∷ [] else []
calls_done_in call answer (depositing lines) =
    if is_none answer.fault then call ∷ [] else with_lines call (take (unwrap_or answer.done 0) lines) ∷ []

abbrev pub calls_done_by : Call → Answer → List Call
calls_done_by call answer = calls_done_in call answer (task_of call)

-- of exchanges, one after the other
abbrev pub calls_done : List Call → List Answer → List Call
calls_done [] answers = []
calls_done (call ∷ calls) [] = []
calls_done (call ∷ calls) (answer ∷ answers) = calls_done_by call answer ++ calls_done calls answers

-- the state that calls leave, of a repository alone
abbrev pub left_by : RepositoryConfig → RepoState → List Call → RepoState
left_by config state [] = state
left_by config state (call ∷ calls) = left_by config (exchanged_alone config state call).1 calls

-- ---- the exchanges with a repository

-- each with its answer, and the state that what was performed before it has left
abbrev pub visits_given : RepositoryConfig → RepoState → List Call → List Answer → List Visit
visits_given config state [] answers = []
visits_given config state (call ∷ calls) [] = []
visits_given config state (call ∷ calls) (answer ∷ answers) =
    record { call = call; before = state; answer = answer } ∷ visits_given config (left_by config state (calls_done_by call answer)) calls answers

-- a fault ended it: a request is answered with the fault, and a deposit too, with the number of its lines that were
-- done, which are not all
abbrev pub IsFailure : Fault → Task → Answer → Type 0
IsFailure fault (refusing status) answer = ⊥
IsFailure fault (asking arguments) answer = answer ≡ failed fault None
IsFailure fault (depositing lines) answer = (done : ℕ) × (done < length lines) × (answer ≡ failed fault (Some done))

-- an answer without a fault is the machine's, in the state that what was performed before has left
abbrev pub IsTrueBy : RepositoryConfig → Visit → Option Fault → Type 0
IsTrueBy config visit None = visit.answer ≡ (exchanged_alone config visit.before visit.call).0
IsTrueBy config visit (Some fault) = IsFailure fault (task_of visit.call) visit.answer

abbrev pub IsTrueVisit : RepositoryConfig → Visit → Type 0
IsTrueVisit config visit = IsTrueBy config visit visit.answer.fault

-- it asks for something
abbrev pub is_asked : Task → Bool
is_asked (refusing status) = false
is_asked (asking arguments) = true
is_asked (depositing lines) = true

-- it was done completely
abbrev pub is_done_whole : Visit → Bool
is_done_whole visit = is_none visit.answer.fault && is_asked (task_of visit.call)

abbrev pub whole_visits : List Visit → List Visit
whole_visits all = filter is_done_whole all

-- ---- the theorem

-- the exchanges with the repository, and what of them was performed
abbrev pub own_given : NamedConfig → List Call → List Answer → List Visit
own_given entry calls answers = visits_given entry.config (empty_state entry.config) (own_calls entry.name calls) (own_answers entry.name calls answers)

abbrev pub own_calls_done : NamedConfig → List Call → List Answer → List Call
own_calls_done entry calls answers = calls_done (own_calls entry.name calls) (own_answers entry.name calls answers)

-- answers to exchanges with a repository that begins in that state: each without a fault is the machine's after what
-- was performed before it, and one with a fault did what its number of lines says, or nothing; those without a fault
-- are, in order, among the visits of the machine that make up what was performed; what was performed leaves the state;
-- and if no answer has a fault, all of them are those that the repository alone gives
pub record AreTrueFrom (config : RepositoryConfig) (begun : RepoState) (calls : List Call) (answers : List Answer) (left : RepoState) : Type 0 where
  pub given : AllByRecursion (IsTrueVisit config) (visits_given config begun calls answers)
  pub among : IsPart (whole_visits (visits_given config begun calls answers)) (visits config begun (calls_done calls answers))
  pub state : left ≡ left_by config begun (calls_done calls answers)
  pub alone : none_failed answers ≡ true → answers ≡ answers_alone config begun calls

-- if visits without a fault follow a list by its unexpired tokens, also by repeating what failed, their pages, joined,
-- are the records selected at the first of them, each once, in order
abbrev pub FollowLists : RepositoryConfig → List Visit → Type 0
FollowLists config all =
    (list_request : ListQuery) (first : Visit) (others : List Visit)
    → IsFollowing config (whole_visits all) list_request first others
    → AreReached config list_request first others

-- for exchanges with a repository that begins in that state, the answers are true, lists are followed, and harvests by
-- visits without a fault miss nothing
pub record IsThroughoutFrom (config : RepositoryConfig) (begun : RepoState) (calls : List Call) (answers : List Answer) (left : RepoState) : Type 0 where
  pub answered : AreTrueFrom config begun calls answers left
  pub followed : FollowLists config (visits_given config begun calls answers)
  pub harvests : MissNothing config (flat_map (steps_of config) (whole_visits (visits_given config begun calls answers)))

-- at a repository from its beginning on
abbrev pub IsThroughoutAt : List Call → List Answer → NamedConfig → RepoState → Type 0
IsThroughoutAt calls answers entry left =
    IsThroughoutFrom entry.config (empty_state entry.config) (own_calls entry.name calls) (own_answers entry.name calls answers) left

-- at each of them
abbrev pub IsThroughout : HostConfig → List Call → List Answer → List Repository → Type 0
IsThroughout config calls answers repositories =
    AllZip (λ (entry : NamedConfig) (repository : Repository). IsThroughoutAt calls answers entry repository.state) config.repositories repositories
