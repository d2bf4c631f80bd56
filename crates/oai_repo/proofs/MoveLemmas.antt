-- A clock that moves on drops the first of the lists that have ended, and changes nothing else.
use Rattle.std.proofs.Common.{◌≡◌, ◌∙◌, ℤ, ◌≤ℤ◌, List, [], Option, unwrap_or, sym, ap}
use Rattle.oai_item.specs.Item.{ItemState}
use Rattle.oai_catalogue.specs.Store.{VersionLists, list_at}
use Rattle.oai_lists.specs.OpenLists.{Table}
use Rattle.oai_settings.specs.Config.{RepositoryConfig}
use Rattle.oai_holdings.specs.Index.{ItemIndex}
use Rattle.oai_repo.specs.Fields.{RepoFields, IsStored, KeepsOthers, HasNumbersIn, open_lists_of, numbers_of, state_of}
use Rattle.oai_holdings.specs.Holdings.{NamedSet}
use Rattle.oai_repo.specs.State.{OpenLists, RepoState, state_at_clock}
use Rattle.oai_repo.specs.Tables.{dropped_at, version_ended, without_version}
use Rattle.oai_repo.proofs.OpenListLemmas.{open_lists_dropped, items_dropped, indexed_same, still_same, table_agrees_dropped}
use Rattle.oai_repo.proofs.EndLemmas.{in_use_dropped, kept_dropped}

abbrev pub held_with : RepositoryConfig → ℤ → ItemIndex → List NamedSet → Table → RepoFields
held_with config clock index sets table = record { config = config; clock = clock; index = index; sets = sets; table = table }

-- the same state in other words, where nothing but the clock is another
pub state_moved : (config : RepositoryConfig) (c now t : ℤ) (index a : ItemIndex) (sets b : List NamedSet) (table : Table) (before between : VersionLists) → now ≡ t → a ≡ index → b ≡ sets → between ≡ before
    → state_at_clock now (state_of (held_with config c a b table) between) ≡ state_at_clock t (state_of (held_with config c index sets table) before)
state_moved config c now t index a sets b table before between is same_shelf same_sets same_lists =
    let after : ℤ → ItemIndex → List NamedSet → VersionLists → RepoState = λ clock s n all. state_at_clock clock (state_of (held_with config c s n table) all) in
    ap (λ (s : ItemIndex). after now s b between) same_shelf
    ∙ ap (λ (n : List NamedSet). after now index n between) same_sets
    ∙ ap (λ (all : VersionLists). after now index sets all) same_lists
    ∙ ap (λ (clock : ℤ). after clock index sets before) is

pub state_dropped : (config : RepositoryConfig) (c now : ℤ) (index : ItemIndex) (sets : List NamedSet) (table : Table) (all : VersionLists) → c ≤ℤ now → HasNumbersIn (held_with config c index sets table) all
    → state_of (held_with config now index sets (dropped_at now table)) (without_version (version_ended now table) all) ≡ state_at_clock now (state_of (held_with config c index sets table) all)
state_dropped config c now index sets table all later stands =
    let made : List ItemState → OpenLists → RepoState = λ items open_lists. record { clock = now; holdings = record { items = items; sets = sets }; open_lists = open_lists } in
    let after : VersionLists = without_version (version_ended now table) all in
    let items : list_at after index.version ≡ list_at all index.version = ap (λ (o : Option (List ItemState)). unwrap_or o []) (items_dropped now index.version table all stands.apart) in
    ap (λ xs. made xs (open_lists_of now (dropped_at now table) after)) items
    ∙ ap (made (list_at all index.version)) (open_lists_dropped now index.version table all stands.apart ∙ sym (still_same c now table all later))

pub stands_dropped : (config : RepositoryConfig) (c now : ℤ) (index : ItemIndex) (sets : List NamedSet) (table : Table) (all : VersionLists) → HasNumbersIn (held_with config c index sets table) all
    → HasNumbersIn (held_with config now index sets (dropped_at now table)) (without_version (version_ended now table) all)
stands_dropped config c now index sets table all stands = in_use_dropped now index.version table all stands

pub held_dropped : (config : RepositoryConfig) (c now : ℤ) (index : ItemIndex) (sets : List NamedSet) (table : Table) (all : VersionLists) → HasNumbersIn (held_with config c index sets table) all
    → IsStored (held_with config c index sets table) all → IsStored (held_with config now index sets (dropped_at now table)) (without_version (version_ended now table) all)
held_dropped config c now index sets table all stands held = record {
  indexed = indexed_same config index sets all (without_version (version_ended now table) all) (items_dropped now index.version table all stands.apart) held.indexed;
  agrees = table_agrees_dropped now index.version table all stands.apart held.agrees;
}

pub others_dropped : (config : RepositoryConfig) (c now : ℤ) (index : ItemIndex) (sets : List NamedSet) (table : Table) (all : VersionLists)
    → KeepsOthers (numbers_of (held_with config c index sets table)) all (numbers_of (held_with config now index sets (dropped_at now table))) (without_version (version_ended now table) all)
others_dropped config c now index sets table all = kept_dropped now index.version table all
