-- How a repository in a store is restored part by part, and how its parts are passed to a sink: words that no
-- definition needs.
use Rattle.std.specs.Prelude.{◌≡◌, ◌<◌, ◌^◌, ℕ, ℤ, true, FitsSigned, List, ◌++◌, map, Result, IfSome, IsTrue, OnErr, OnOk}
use Rattle.std.specs.Int.{w64}
use Rattle.std.specs.List.{AllByRecursion}
use Rattle.std.specs.Str.{IsUtf8}
use Rattle.oai_names.specs.Names.{may_be_prefix}
use Rattle.oai_names.specs.Sets.{may_be_set_spec}
use Rattle.oai_args.specs.Verbs.{is_of_records}
use Rattle.oai_item.specs.Encoding.{Spells, encoded}
use Rattle.oai_item.specs.Selection.{Filter}
use Rattle.oai_item.specs.declared.faults.Fault.{Fault}
use Rattle.oai_catalogue.specs.Store.{VersionLists}
use Rattle.oai_catalogue.specs.declared.versions.Versions.{Ghosts}
use Rattle.oai_holdings.specs.Holdings.{NamedSet}
use Rattle.oai_repo.specs.Fields.{Keeps, RepoFields, state_of}
use Rattle.oai_repo.specs.Saved.{SavedListState, SavedPartState, ended, has_clock, has_gone, has_item, has_list, has_named_set, parts_of}
use Rattle.oai_replay.specs.Parts.{PartState}
use Rattle.oai_snapshots.specs.Snapshots.{HandsOut, SnapshotFields}
use Rattle.oai_host.specs.Hosts.{Repository}
use Rattle.oai_host.specs.Saved.{ended_in, part_in, parts_in, spelled_part, with_read}

-- a repository in a store restores a part, and keeps its invariants; a fault leaves the repository and all lists
-- unchanged
pub record RestoresIn {V : Type 0} (g : Ghosts V) (part : PartState) (result : Result (Unit {0}) Fault) (old : RepoFields) (before : V) (new : RepoFields) (after : V) : Type 0 where
  pub restored : OnOk result (IsTrue (g.honest before) → state_of new (g.lists after) ≡ with_read (state_of old (g.lists before)) (part_in part))
  pub err : OnErr result ((new ≡ old) × (g.lists after ≡ g.lists before))
  pub kept : Keeps (g.honest before) old (g.lists before) new (g.lists after)
  pub honesty : g.honest after ≡ g.honest before

-- a filter by names that may be those, and by datestamps of 64 bits
pub record CanBeFilter (filter : Filter) : Type 0 where
  pub prefix : may_be_prefix filter.prefix ≡ true
  pub lower : FitsSigned w64 filter.lower
  pub upper : FitsSigned w64 filter.upper
  pub set : IfSome filter.set (λ set. may_be_set_spec set ≡ true)

-- a list of items by such a filter, with numbers of 64 bits
pub record CanBeList (list : SavedListState) : Type 0 where
  pub number : list.number < 2 ^ 64
  pub verb : is_of_records list.verb ≡ true
  pub filter : CanBeFilter list.filter
  pub end : FitsSigned w64 list.end
  pub given : list.given < 2 ^ 64

-- the part can be decoded again
abbrev pub CanBeRead : SavedPartState → Type 0
CanBeRead (has_clock clock next) = next < 2 ^ 64
CanBeRead (has_named_set set) = may_be_set_spec set.0 ≡ true
CanBeRead (has_item item) = Spells (encoded item) item
CanBeRead (has_gone identifier) = IsUtf8 identifier
CanBeRead (has_list list) = CanBeList list

-- whatever a sink had taken, it has these parts after it
abbrev pub Takes : {S : Type 0} → (S → List PartState → Type 0) → List PartState → S → S → Type 0
Takes has parts old new = (before : List PartState) → has old before → has new (before ++ parts)

-- a sink took parts of a repository with that name and clock, and these can be decoded again
pub record TakesParts {S : Type 0} (has : S → List PartState → Type 0) (name : List ℕ) (clock : ℤ) (parts : List SavedPartState) (old new : S) : Type 0 where
  pub taken : Takes has (map (spelled_part name clock) parts) old new
  pub readable : AllByRecursion CanBeRead parts

-- a sink took the parts of repositories, once their lists have ended, and these can be decoded again
pub record TakesAll {S : Type 0} (has : S → List PartState → Type 0) (raise : ℕ) (repositories : List Repository) (old new : S) : Type 0 where
  pub taken : Takes has (parts_in (ended_in raise repositories)) old new
  pub readable : AllByRecursion (λ (repository : Repository). AllByRecursion CanBeRead (parts_of (ended raise repository.state))) repositories

-- some parts of a snapshot of a repository with that name and these sets were handed out, and a sink took them, each that
-- has no moment of its own with that clock; these can be decoded again
pub record TakesNext {S : Type 0} (has : S → List PartState → Type 0) (name : List ℕ) (clock : ℤ) (sets : List NamedSet) (lists : VersionLists) (old : SnapshotFields) (before : S) (new : SnapshotFields) (after : S) : Type 0 where
  pub some : List SavedPartState
  pub handed : HandsOut sets lists old some new
  pub taken : TakesParts has name clock some before after
