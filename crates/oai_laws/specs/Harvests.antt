-- Successive harvests of a repository, by which a harvester updates a copy. OAI-PMH 2.0, sections 2.7.1 and 3.5.
use Rattle.std.specs.Prelude.{◌≡◌, ◌⊎◌, ◌↔◌, ℕ, true, List, [], ◌∷◌, map, Option, None, Some}
use Rattle.std.specs.List.{Contains, flat_map}
use Rattle.oai_names.specs.declared.list_verbs.ListVerb.TheVariants as list
use Rattle.oai_time.specs.TimeTexts.{datestamp_text}
use Rattle.oai_item.specs.Item.{ItemState, has_record}
use Rattle.oai_answers.specs.Answers.{Page, fails, whole}
use Rattle.oai_answers.specs.declared.errors.ErrorCode.TheVariants.{NoRecordsMatch}
use Rattle.oai_settings.specs.Config.{RepositoryConfig}
use Rattle.oai_holdings.specs.Changes.{stamp_at}
use Rattle.oai_repo.specs.State.{RepoState}
use Rattle.oai_laws.specs.Following.{IsChain, ListQuery, answer_in, first_request, page_shown}
use Rattle.oai_laws.specs.Runs.{IsPart, Transition}
use Rattle.oai_laws.specs.Shown.{is_followed_to_its_end}
use Rattle.oai_copy.specs.Copies.{are_listed}

-- ---- a harvest

-- all records in the metadataPrefix, of any set, whose datestamp is not before `from`, if this is given
abbrev pub records_since : List ℕ → Option (List ℕ) → ListQuery
records_since prefix from = record { verb = list.Records; prefix = prefix; from = from; until = None; set = None }

-- a list request, and the requests that follow it by its tokens
pub record Harvest : Type 0 where
  pub first : Transition
  pub others : List Transition

abbrev pub requests_of : Harvest → List Transition
requests_of harvest = harvest.first ∷ harvest.others

-- the items that an answer lists, if it lists some
abbrev pub items_told : Option Page → List ItemState
items_told None = []
items_told (Some page) = page.items

-- the items that a harvest got, one answer after the other
abbrev pub harvested : Harvest → List ItemState
harvested harvest = flat_map (λ (exchange : Transition). items_told (page_shown exchange.outcome)) (requests_of harvest)

-- there is nothing to harvest
pub record IsEmptyHarvest (harvest : Harvest) : Type 0 where
  pub told : answer_in harvest.first.outcome ≡ Some (fails NoRecordsMatch)
  pub only : harvest.others ≡ []

-- one answer lists all items, without a token
pub record IsWholeHarvest (harvest : Harvest) : Type 0 where
  pub page : Page
  pub told : page_shown harvest.first.outcome ≡ Some page
  pub tokenless : page.continuation ≡ whole
  pub only : harvest.others ≡ []

-- the list is followed up to the empty token
pub record IsFollowedHarvest (config : RepositoryConfig) (exchanges : List Transition) (list_request : ListQuery) (harvest : Harvest) : Type 0 where
  pub chain : IsChain config exchanges list_request harvest.first harvest.others
  pub ended : is_followed_to_its_end (requests_of harvest) ≡ true

-- a harvest of what the list request asks for, among the exchanges of a repository
pub record IsHarvest (config : RepositoryConfig) (exchanges : List Transition) (list_request : ListQuery) (harvest : Harvest) : Type 0 where
  pub asked : harvest.first.command ≡ first_request list_request
  pub answered : IsEmptyHarvest harvest ⊎ (IsWholeHarvest harvest ⊎ IsFollowedHarvest config exchanges list_request harvest)

-- ---- successive harvests

-- the datestamp of the repository at which the first request of the harvest came, as the repository writes it (section
-- 2.7.1)
abbrev pub datestamp_of : RepositoryConfig → Harvest → List ℕ
datestamp_of config harvest = datestamp_text config.granularity (stamp_at config harvest.first.found.clock)

-- the first of the harvests begins with the records of `from`, and each other one with those of the datestamp of the
-- one before it
abbrev pub AreHarvests : RepositoryConfig → List Transition → List ℕ → Option (List ℕ) → List Harvest → Type 0
AreHarvests config exchanges prefix from [] = Unit {0}
AreHarvests config exchanges prefix from (harvest ∷ harvests) =
    IsHarvest config exchanges (records_since prefix from) harvest
    × AreHarvests config exchanges prefix (Some (datestamp_of config harvest)) harvests

-- a harvest of all records in the metadataPrefix, and others after it, each of which begins later than the one before
-- it and harvests from the datestamp at which that one began. Anything else may be asked and deposited between them,
-- and during them
pub record AreSuccessive (config : RepositoryConfig) (exchanges : List Transition) (prefix : List ℕ) (first : Harvest) (others : List Harvest) : Type 0 where
  pub begun : IsPart (map (λ (harvest : Harvest). harvest.first) (first ∷ others)) exchanges
  pub harvests : AreHarvests config exchanges prefix None (first ∷ others)

-- the last one
abbrev pub last_harvest : Harvest → List Harvest → Harvest
last_harvest harvest [] = harvest
last_harvest harvest (next ∷ harvests) = last_harvest next harvests

-- ---- a copy

-- the copy holds exactly the items, live and deleted, that have a record in the metadataPrefix, as they are in that
-- state
pub record IsWholeCopy (prefix : List ℕ) (state : RepoState) (copy : List ItemState) : Type 0 where
  pub members : (item : ItemState) → Contains copy item ↔ (Contains state.holdings.items item × (has_record prefix item.formats ≡ true))
  pub listed : are_listed copy ≡ true
