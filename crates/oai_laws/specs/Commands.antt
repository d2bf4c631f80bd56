-- What commands do to a state, and what holds of every state, as the fields of a law. This repository's own.
use Rattle.std.specs.Prelude.{◌≡◌, ℕ, ℤ, true, List, Some}
use Rattle.oai_names.specs.declared.list_verbs.ListVerb.{ListVerb}
use Rattle.oai_deposit.specs.declared.changes.Change.{Change}
use Rattle.oai_args.specs.Asks.{AskOrError}
use Rattle.oai_answers.specs.Answers.{fails}
use Rattle.oai_answers.specs.declared.errors.ErrorCode.TheVariants.{BadResumptionToken}
use Rattle.oai_settings.specs.Config.{RepositoryConfig}
use Rattle.oai_repo.specs.Machine.{Command, act, changing, later, requesting}
use Rattle.oai_repo.specs.State.{RepoState, empty_state, moved}
use Rattle.oai_laws.specs.Effects.{Effect, IsEffected, IsPossible, IsSound, effected, is_of_no_list}
use Rattle.oai_laws.specs.Following.{IsContinued, answer_in, next_request}
use Rattle.oai_laws.specs.Waiting.{IsRetriedLater}

-- a repository begins in a sound state, and is in one whenever its clock moves, and after all that can be done to it
pub record StaysSound (config : RepositoryConfig) : Type 0 where
  pub empty : IsSound config (empty_state config)
  pub moves : (moment : ℤ) (state : RepoState) → IsSound config state → IsSound config (moved moment state)
  pub done : (state : RepoState) (effect : Effect) → IsPossible config state effect → IsSound config state → IsSound config (effected config state effect)

-- what a command does to a state: something that can be done to it; a request changes nothing that is held, and a
-- change no open list; a request that is of no list leaves the state, and so does a token that is refused; a token is
-- answered with a page, or refused; and a command that is answered by a time to wait is a request that may be repeated
pub record ActsOn (config : RepositoryConfig) (state : RepoState) : Type 0 where
  pub does : (command : Command) → IsSound config state → IsEffected config state (act config state command).1
  pub requests : (request : AskOrError) → (act config state (requesting request)).1.holdings ≡ state.holdings
  pub lines : (change : Change) → (act config state (changing change)).1.open_lists ≡ state.open_lists
  pub others : (request : AskOrError) → is_of_no_list request ≡ true → (act config state (requesting request)).1 ≡ state
  pub tokens : (verb : ListVerb) (token : List ℕ) → (
      let done = act config state (next_request verb token) in answer_in done.0 ≡ Some (fails BadResumptionToken) → done.1 ≡ state)
  pub continued : (verb : ListVerb) (token : List ℕ) → IsSound config state → IsContinued (act config state (next_request verb token)).0
  pub told : (command : Command) (seconds : ℤ) → (
      let done = act config state command in done.0 ≡ later seconds → IsRetriedLater config state seconds done.1)
