-- A worked run of one repository, in which a list is followed over three pages. It shows that the premises of the law
-- of following can be met.
use Rattle.std.specs.Prelude.{◌≡◌, ◌+◌, ℕ, pos, List, [], ◌∷◌, length, codes, map, None, Some}
use Rattle.oai_names.specs.declared.list_verbs.ListVerb.TheVariants as list
use Rattle.oai_time.specs.declared.granularity.Granularity.TheVariants.{Second}
use Rattle.oai_item.specs.Formats.{dublin_core}
use Rattle.oai_item.specs.Item.{ItemState}
use Rattle.oai_deposit.specs.declared.changes.Change.TheVariants as change
use Rattle.oai_item.specs.declared.forms.Forms.TheVariants.{Elements}
use Rattle.oai_item.specs.declared.givens.Given.TheVariants.{Listed}
use Rattle.oai_answers.specs.Answers.{Page}
use Rattle.oai_item.specs.declared.deleted_record.DeletedRecord.TheVariants.{Persistent}
use Rattle.oai_settings.specs.Config.{RepositoryConfig}
use Rattle.oai_laws.specs.Following.{IsChain, ListQuery, first_request, joined, next_request, page_shown}
use Rattle.oai_repo.specs.Machine.{Command, changing}
use Rattle.oai_laws.specs.Runs.{Timed, Transition, run}
use Rattle.oai_repo.specs.State.{empty_state}

-- an archive with two records a page, one open list at a time, and lists that stay open for a minute
abbrev pub worked_config : RepositoryConfig
worked_config = record {
  base = codes "http://host.example/oai/a";
  repository_name = codes "Archive A";
  addresses = codes "a@host.example" ∷ [];
  earliest = pos 1_704_067_200;
  deleted = Persistent;
  granularity = Second;
  chunk = 2;
  lifetime = 60;
  lists = 1;
  items = 1_000;
  formats = dublin_core ∷ [];
  forms = Elements;
  descriptions = [];
  set_descriptions = [];
}

-- that many seconds after 2024-01-01T00:00:00Z
abbrev pub after : ℕ → Command → Timed
after seconds command = record { moment = pos (1_704_067_200 + seconds); command = command }

-- an item with an empty record in Dublin Core
abbrev pub deposit : List ℕ → Command
deposit identifier = changing (change.Deposit identifier [] ((codes "oai_dc", Listed [], []) ∷ []))

abbrev pub delete : List ℕ → Command
delete identifier = changing (change.Delete identifier)

-- all records in Dublin Core
abbrev pub all_records : ListQuery
all_records = record { verb = list.Records; prefix = codes "oai_dc"; from = None; until = None; set = None }

-- all headers
abbrev pub all_headers : ListQuery
all_headers = record all_records { verb = list.Identifiers }

-- Five items are deposited. A list of headers is opened at the first second and never followed; it ends a minute later.
-- At that very second the list of records is opened that is followed; and a request comes with the token of the other
-- list, which has expired. Then an item is deposited and one is deleted; a list is requested at an earlier moment,
-- while the table is full; the token comes with the wrong verb, and then with the right one; an item is deposited anew;
-- and the last page is requested at the last second of the second token
abbrev pub worked_commands : List Timed
worked_commands =
    after 0 (deposit (codes "oai:a:1"))
    ∷ after 0 (deposit (codes "oai:a:2"))
    ∷ after 0 (deposit (codes "oai:a:3"))
    ∷ after 0 (deposit (codes "oai:a:4"))
    ∷ after 0 (deposit (codes "oai:a:5"))
    ∷ after 0 (first_request all_headers)
    ∷ after 60 (first_request all_records)
    ∷ after 60 (next_request list.Identifiers (codes "1.2"))
    ∷ after 61 (deposit (codes "oai:a:6"))
    ∷ after 62 (delete (codes "oai:a:4"))
    ∷ after 30 (first_request all_headers)
    ∷ after 63 (next_request list.Identifiers (codes "2.2"))
    ∷ after 64 (next_request list.Records (codes "2.2"))
    ∷ after 70 (deposit (codes "oai:a:5"))
    ∷ after 123 (next_request list.Records (codes "2.4"))
    ∷ []

-- what the archive answers
abbrev pub worked_run : List Transition
worked_run = run worked_config (empty_state worked_config) worked_commands

-- the identifiers of items
abbrev pub identifiers : List ItemState → List (List ℕ)
identifiers items = map (λ (item : ItemState). item.identifier) items

-- these exchanges are a chain of the run, and their three pages give the five records that there were at its first
-- request, in order
pub record IsWorked (first : Transition) (others : List Transition) : Type 0 where
  pub chain : IsChain worked_config worked_run all_records first others
  pub pages : List Page
  pub told : map (λ (exchange : Transition). page_shown exchange.outcome) (first ∷ others) ≡ map (λ (page : Page). Some page) pages
  pub three : length pages ≡ 3
  pub records : identifiers (joined pages) ≡ codes "oai:a:1" ∷ codes "oai:a:2" ∷ codes "oai:a:3" ∷ codes "oai:a:4" ∷ codes "oai:a:5" ∷ []
