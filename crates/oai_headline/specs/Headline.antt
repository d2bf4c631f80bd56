-- What the laws of a host require, and what holds of harvests of its repositories. OAI-PMH 2.0, sections 2.7 and 3.5;
-- many repositories behind one interface are this repository's own.
use Rattle.std.specs.Prelude.{◌≡◌, ℕ, Bool, List, [], ◌∷◌, map}
use Rattle.std.specs.List.{flat_map}
use Rattle.oai_item.specs.declared.deleted_record.DeletedRecord.TheVariants.{Persistent}
use Rattle.oai_settings.specs.Config.{RepositoryConfig}
use Rattle.oai_repo.specs.State.{empty_state}
use Rattle.oai_laws.specs.Runs.{Transition}
use Rattle.oai_config.specs.Configs.{HostConfig, NamedConfig}
use Rattle.oai_http.specs.declared.exchanges.Call.{Call}
use Rattle.oai_host.specs.Alone.{own_calls}
use Rattle.oai_host.specs.Hosts.{HostState, begun}
use Rattle.oai_copy.specs.Copies.{caught_up_with}
use Rattle.oai_laws.specs.Harvests.{AreSuccessive, Harvest, IsWholeCopy, harvested, last_harvest}
use Rattle.oai_headline.specs.Visits.{Visit, steps_of, visits}

-- ---- the premises

-- a host as it is made of the configuration over a store, which is that honest: each of its repositories is in its
-- initial state
pub record IsMadeOf (config : HostConfig) (honest : Bool) (host : HostState) : Type 0 where
  pub begun : host.repositories ≡ map begun config.repositories
  pub honesty : host.honest ≡ honest

-- ---- the exchanges with a repository, as if it were alone

abbrev pub own_visits : NamedConfig → List Call → List Visit
own_visits entry calls = visits entry.config (empty_state entry.config) (own_calls entry.name calls)

-- the steps that they make
abbrev pub own_steps : NamedConfig → List Call → List Transition
own_steps entry calls = flat_map (steps_of entry.config) (own_visits entry calls)

-- ---- harvests

-- harvests by these steps of a repository miss nothing, if it keeps deleted records (sections 2.5.1 and 2.7.1): a new
-- copy, updated with harvests of it, the first of all records in a metadataPrefix, and each other one from the
-- datestamp on at which the one before it began, holds exactly the items that had a record in that metadataPrefix when
-- the last one began
abbrev pub MissNothing : RepositoryConfig → List Transition → Type 0
MissNothing config steps =
    (prefix : List ℕ) (first : Harvest) (others : List Harvest)
    → config.deleted ≡ Persistent
    → AreSuccessive config steps prefix first others
    → IsWholeCopy prefix (last_harvest first others).first.found (caught_up_with [] (map harvested (first ∷ others)))
