-- A repository all of whose open lists are ended from time to time, as a checkpoint ends them. OAI-PMH 2.0, sections
-- 2.7.1 and 3.5; that lists are ended before they expire is this repository's own.
use Rattle.std.specs.Prelude.{◌≡◌, ◌⊎◌, ◌≤◌, ℕ, List, [], ◌∷◌, ◌++◌, map, Option, None, Some}
use Rattle.std.specs.List.{AllByRecursion}
use Rattle.oai_names.specs.declared.list_verbs.ListVerb.{ListVerb}
use Rattle.oai_answers.specs.Answers.{fails}
use Rattle.oai_answers.specs.declared.errors.ErrorCode.TheVariants.{BadResumptionToken}
use Rattle.oai_item.specs.declared.deleted_record.DeletedRecord.TheVariants.{Persistent}
use Rattle.oai_lists.specs.declared.lists.TheConstants.{LAST_NUMBER}
use Rattle.oai_settings.specs.Config.{RepositoryConfig}
use Rattle.oai_repo.specs.Saved.{ended}
use Rattle.oai_repo.specs.State.{RepoState}
use Rattle.oai_copy.specs.Copies.{caught_up_with}
use Rattle.oai_laws.specs.Following.{IsChain, IsFollowedThrough, ListQuery, WasOffered, answer_in, next_request, selection_in}
use Rattle.oai_laws.specs.Harvests.{Harvest, IsHarvest, IsWholeCopy, datestamp_of, harvested, last_harvest, records_since}
use Rattle.oai_laws.specs.Runs.{IsPart, Throughout, Timed, Transition, performed, run}

-- ---- eras: an era is what happens between two such ends

-- an era begins when all open lists end, and the number of the next one is raised by that much; then its commands
-- follow
pub record Era : Type 0 where
  pub raise : ℕ
  pub commands : List Timed

-- the state that commands leave
abbrev pub left_behind : RepositoryConfig → RepoState → List Timed → RepoState
left_behind config state [] = state
left_behind config state (timed ∷ commands) = left_behind config (performed config state timed).left commands

-- the state after an era
abbrev pub left_by_era : RepositoryConfig → RepoState → Era → RepoState
left_by_era config state era = left_behind config (ended era.raise state) era.commands

-- the exchanges of each era
abbrev pub runs : RepositoryConfig → RepoState → List Era → List (List Transition)
runs config state [] = []
runs config state (era ∷ eras) = run config (ended era.raise state) era.commands ∷ runs config (left_by_era config state era) eras

-- those of all eras, one era after the other
abbrev pub all_exchanges : List (List Transition) → List Transition
all_exchanges [] = []
all_exchanges (exchanges ∷ eras) = exchanges ++ all_exchanges eras

-- no number is raised beyond the last one of 64 bits
abbrev pub HaveNumbers : RepositoryConfig → RepoState → List Era → Type 0
HaveNumbers config state [] = Unit {0}
HaveNumbers config state (era ∷ eras) = ((ended era.raise state).open_lists.next ≤ LAST_NUMBER) × HaveNumbers config (left_by_era config state era) eras

-- ---- lists

-- in an era, each list that is followed by its tokens is what was selected at its first request
abbrev pub AreFollowed : RepositoryConfig → List Transition → Type 0
AreFollowed config exchanges =
    (list_request : ListQuery) (first : Transition) (others : List Transition)
    → IsChain config exchanges list_request first others
    → (pages : List _) × IsFollowedThrough config list_request (selection_in first.found list_request) (first ∷ others) pages

-- a token that was handed out among the first exchanges is refused among the others
abbrev pub AreOldTokensRefused : List Transition → List Transition → Type 0
AreOldTokensRefused earlier later =
    (verb : ListVerb) (token : List ℕ)
    → WasOffered token earlier
    → Throughout (λ (exchange : Transition). exchange.command ≡ next_request verb token → answer_in exchange.outcome ≡ Some (fails BadResumptionToken)) later

-- of each era, in all later ones
abbrev pub AreEnded : List (List Transition) → Type 0
AreEnded [] = Unit {0}
AreEnded (exchanges ∷ eras) = AllByRecursion (AreOldTokensRefused exchanges) eras × AreEnded eras

-- ---- harvests

-- a harvest within one of the eras
abbrev pub IsHarvestWithin : RepositoryConfig → List (List Transition) → ListQuery → Harvest → Type 0
IsHarvestWithin config [] list_request harvest = ⊥
IsHarvestWithin config (exchanges ∷ eras) list_request harvest =
    (IsPart (harvest.first ∷ []) exchanges × IsHarvest config exchanges list_request harvest) ⊎ IsHarvestWithin config eras list_request harvest

-- the first of the harvests begins with the records of `from`, and each other one with those of the datestamp of the
-- one before it
abbrev pub AreHarvestsWithin : RepositoryConfig → List (List Transition) → List ℕ → Option (List ℕ) → List Harvest → Type 0
AreHarvestsWithin config eras prefix from [] = Unit {0}
AreHarvestsWithin config eras prefix from (harvest ∷ harvests) =
    IsHarvestWithin config eras (records_since prefix from) harvest
    × AreHarvestsWithin config eras prefix (Some (datestamp_of config harvest)) harvests

-- a harvest of all records in the metadataPrefix, and others after it, each in one of the eras: each begins later than
-- the one before it and harvests from the datestamp at which that one began
pub record AreSuccessiveWithin (config : RepositoryConfig) (eras : List (List Transition)) (prefix : List ℕ) (first : Harvest) (others : List Harvest) : Type 0 where
  pub begun : IsPart (map (λ (harvest : Harvest). harvest.first) (first ∷ others)) (all_exchanges eras)
  pub harvests : AreHarvestsWithin config eras prefix None (first ∷ others)

-- such harvests miss nothing, if deleted records are kept: a new copy, updated with them, holds exactly the items that
-- had a record in that metadataPrefix when the last one began
abbrev pub MissNothingWithin : RepositoryConfig → List (List Transition) → Type 0
MissNothingWithin config eras =
    (prefix : List ℕ) (first : Harvest) (others : List Harvest)
    → config.deleted ≡ Persistent
    → AreSuccessiveWithin config eras prefix first others
    → IsWholeCopy prefix (last_harvest first others).first.found (caught_up_with [] (map harvested (first ∷ others)))
