-- The exchanges with a repository all of whose open lists are ended from time to time, as a checkpoint ends them.
-- OAI-PMH 2.0, sections 2.7.1 and 3.5; that lists are ended before they expire is this repository's own.
use Rattle.std.specs.Prelude.{◌≡◌, ◌≤◌, ℕ, true, List, [], ◌∷◌}
use Rattle.std.specs.List.{AllByRecursion, flat_map}
use Rattle.oai_names.specs.declared.list_verbs.ListVerb.{ListVerb}
use Rattle.oai_args.specs.Asks.{asks}
use Rattle.oai_args.specs.declared.requests.Ask.TheVariants as ask
use Rattle.oai_answers.specs.Answers.{Document, fails}
use Rattle.oai_answers.specs.Documents.{document}
use Rattle.oai_answers.specs.declared.errors.ErrorCode.TheVariants.{BadResumptionToken}
use Rattle.oai_lists.specs.declared.lists.TheConstants.{LAST_NUMBER}
use Rattle.oai_settings.specs.Config.{RepositoryConfig}
use Rattle.oai_repo.specs.Saved.{ended}
use Rattle.oai_repo.specs.State.{RepoState, empty_state}
use Rattle.oai_laws.specs.Eras.{AreEnded, MissNothingWithin, all_exchanges}
use Rattle.oai_laws.specs.Following.{TokenOffer}
use Rattle.oai_laws.specs.Runs.{IsPart, Transition, numbers_given, numbers_rise_strictly}
use Rattle.oai_http.specs.Answers.{answered_with}
use Rattle.oai_http.specs.declared.exchanges.Answer.{Answer}
use Rattle.oai_http.specs.declared.exchanges.Call.{Call}
use Rattle.oai_headline.specs.Chains.{IsPrinted, IsRequest}
use Rattle.oai_headline.specs.ClientHarvests.{MissNothingSeen}
use Rattle.oai_headline.specs.Throughout.{AreTrueFrom, FollowLists, calls_done, left_by, visits_given, whole_visits}
use Rattle.oai_headline.specs.Visits.{Visit, steps_of}

-- an era, what lies between two checkpoints: it begins when all open lists end, and the number of the next one is
-- raised by that much; then what is asked in it, and the answers
pub record VisitedEra : Type 0 where
  pub raise : ℕ
  pub calls : List Call
  pub answers : List Answer

-- the state in which it begins, after that one
abbrev pub era_begins : RepoState → VisitedEra → RepoState
era_begins state era = ended era.raise state

-- the state that it leaves: what was performed in it
abbrev pub era_leaves : RepositoryConfig → RepoState → VisitedEra → RepoState
era_leaves config state era = left_by config (era_begins state era) (calls_done era.calls era.answers)

-- the state that eras leave
abbrev pub eras_leave : RepositoryConfig → RepoState → List VisitedEra → RepoState
eras_leave config state [] = state
eras_leave config state (era ∷ eras) = eras_leave config (era_leaves config state era) eras

-- the visits without a fault, for each era
abbrev pub era_visits : RepositoryConfig → RepoState → VisitedEra → List Visit
era_visits config state era = whole_visits (visits_given config (era_begins state era) era.calls era.answers)

abbrev pub visits_within : RepositoryConfig → RepoState → List VisitedEra → List (List Visit)
visits_within config state [] = []
visits_within config state (era ∷ eras) = era_visits config state era ∷ visits_within config (era_leaves config state era) eras

-- and the steps of the machine that they make
abbrev pub era_steps : RepositoryConfig → RepoState → VisitedEra → List Transition
era_steps config state era = flat_map (steps_of config) (era_visits config state era)

abbrev pub steps_within : RepositoryConfig → RepoState → List VisitedEra → List (List Transition)
steps_within config state [] = []
steps_within config state (era ∷ eras) = era_steps config state era ∷ steps_within config (era_leaves config state era) eras

-- no number of a list is raised beyond the last one of 64 bits
abbrev pub HaveNumbersIn : RepositoryConfig → RepoState → List VisitedEra → Type 0
HaveNumbersIn config state [] = Unit {0}
HaveNumbersIn config state (era ∷ eras) = ((era_begins state era).open_lists.next ≤ LAST_NUMBER) × HaveNumbersIn config (era_leaves config state era) eras

-- ---- the theorem

-- in each era the answers are true, from the state on that the one before it left, after all lists ended
abbrev pub AreTrueEach : RepositoryConfig → RepoState → List VisitedEra → Type 0
AreTrueEach config state [] = Unit {0}
AreTrueEach config state (era ∷ eras) =
    AreTrueFrom config (era_begins state era) era.calls era.answers (era_leaves config state era)
    × AreTrueEach config (era_leaves config state era) eras

-- of a repository from its beginning on, and all that was performed leaves the state
pub record AreTrueOver (config : RepositoryConfig) (eras : List VisitedEra) (left : RepoState) : Type 0 where
  pub each : AreTrueEach config (empty_state config) eras
  pub state : left ≡ eras_leave config (empty_state config) eras

-- in each era lists are followed
abbrev pub FollowListsEach : RepositoryConfig → RepoState → List VisitedEra → Type 0
FollowListsEach config state [] = Unit {0}
FollowListsEach config state (era ∷ eras) =
    FollowLists config (visits_given config (era_begins state era) era.calls era.answers) × FollowListsEach config (era_leaves config state era) eras

-- the answer to a token is badResumptionToken (section 3.6)
pub record IsTokenRefused (answer : Answer) : Type 0 where
  pub its : Document
  pub written : answer ≡ answered_with (document its)
  pub told : its.answer ≡ fails BadResumptionToken

-- it is the answer to each visit that comes with a token that an answer to an earlier one prints
abbrev pub AreTokensRefused : RepositoryConfig → List Visit → List Visit → Type 0
AreTokensRefused config earlier later =
    (before after : Visit) (offer : TokenOffer) (verb : ListVerb)
    → IsPart (before ∷ []) earlier
    → IsPrinted before.answer offer
    → IsPart (after ∷ []) later
    → IsRequest config.granularity after.call (asks (ask.Resume verb offer.token))
    → IsTokenRefused after.answer

-- of each era, in all later ones
abbrev pub AreTokensEnded : RepositoryConfig → List (List Visit) → Type 0
AreTokensEnded config [] = Unit {0}
AreTokensEnded config (earlier ∷ eras) = AllByRecursion (AreTokensRefused config earlier) eras × AreTokensEnded config eras

-- and a token that was handed out in one era is refused in all later ones, by the steps of the machine and as its
-- answers print it; and the numbers of the lists that are opened rise over all eras, so that none is given twice
pub record FollowListsOver (config : RepositoryConfig) (eras : List VisitedEra) : Type 0 where
  pub each : FollowListsEach config (empty_state config) eras
  pub refused : AreEnded (steps_within config (empty_state config) eras)
  pub printed : AreTokensEnded config (visits_within config (empty_state config) eras)
  pub rising : numbers_rise_strictly (numbers_given (all_exchanges (steps_within config (empty_state config) eras))) ≡ true

-- harvests, each of which is made within an era, miss nothing, by the steps of the machine and as a client sees them
pub record MissNothingOver (config : RepositoryConfig) (eras : List VisitedEra) : Type 0 where
  pub copied : MissNothingWithin config (steps_within config (empty_state config) eras)
  pub seen : MissNothingSeen config (visits_within config (empty_state config) eras)
