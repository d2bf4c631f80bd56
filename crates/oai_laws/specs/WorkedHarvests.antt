-- A worked run of one repository with three harvests. It shows that the premises of the law of harvests can be met.
use Rattle.std.specs.Prelude.{◌≡◌, ℕ, pos, ◌+◌, Bool, true, false, List, [], ◌∷◌, codes, map, None, Some}
use Rattle.oai_names.specs.declared.list_verbs.ListVerb.TheVariants as list
use Rattle.oai_time.specs.TimeTexts.{datestamp_text}
use Rattle.oai_time.specs.declared.granularity.Granularity.TheVariants.{Second}
use Rattle.oai_item.specs.Item.{ItemState}
use Rattle.oai_settings.specs.Config.{RepositoryConfig}
use Rattle.oai_repo.specs.State.{empty_state}
use Rattle.oai_laws.specs.Following.{first_request, next_request}
use Rattle.oai_laws.specs.Runs.{Timed, Transition, run}
use Rattle.oai_laws.specs.Worked.{after, delete, deposit, worked_config}
use Rattle.oai_copy.specs.Copies.{caught_up_with}
use Rattle.oai_laws.specs.Harvests.{AreSuccessive, Harvest, harvested, records_since}

-- another archive beside that of the law of following, configured alike
abbrev pub archive_b : RepositoryConfig
archive_b = record worked_config { base = codes "http://host.example/oai/b"; repository_name = codes "Archive B" }

abbrev pub prefix : List ℕ
prefix = codes "oai_dc"

-- the datestamp that many seconds after 2024-01-01T00:00:00Z
abbrev pub datestamp : ℕ → List ℕ
datestamp seconds = datestamp_text Second (pos (1_704_067_200 + seconds))

-- Three items are deposited. A harvest of all records begins after five seconds, and gets two of them. Then one of
-- these is deleted, the harvest gets the third, and a fourth is deposited. A second harvest gets what has been deleted
-- and deposited since the first began. A third one finds nothing
abbrev pub harvest_commands : List Timed
harvest_commands =
    after 0 (deposit (codes "oai:b:1"))
    ∷ after 0 (deposit (codes "oai:b:2"))
    ∷ after 0 (deposit (codes "oai:b:3"))
    ∷ after 5 (first_request (records_since prefix None))
    ∷ after 5 (delete (codes "oai:b:2"))
    ∷ after 6 (next_request list.Records (codes "1.2"))
    ∷ after 6 (deposit (codes "oai:b:4"))
    ∷ after 7 (first_request (records_since prefix (Some (datestamp 5))))
    ∷ after 8 (first_request (records_since prefix (Some (datestamp 7))))
    ∷ []

-- what the archive answers
abbrev pub harvest_run : List Transition
harvest_run = run archive_b (empty_state archive_b) harvest_commands

-- items in short: the identifier of each, and whether it is live
abbrev pub told : List ItemState → List (List ℕ × Bool)
told items = map (λ (item : ItemState). (item.identifier, item.live)) items

-- the three harvests of the run, the items that each got, and the copy that they update
pub record AreWorkedHarvests (first second third : Harvest) : Type 0 where
  pub successive : AreSuccessive archive_b harvest_run prefix first (second ∷ third ∷ [])
  pub by_pages : told (harvested first) ≡ (codes "oai:b:1", true) ∷ (codes "oai:b:2", true) ∷ (codes "oai:b:3", true) ∷ []
  pub at_once : told (harvested second) ≡ (codes "oai:b:2", false) ∷ (codes "oai:b:4", true) ∷ []
  pub nothing : harvested third ≡ []
  pub copied : told (caught_up_with [] (map harvested (first ∷ second ∷ third ∷ [])))
      ≡ (codes "oai:b:1", true) ∷ (codes "oai:b:2", false) ∷ (codes "oai:b:3", true) ∷ (codes "oai:b:4", true) ∷ []
