-- The fields of a `Repo`, and the state that they represent with the lists of its store. This repository's own view of
-- OAI-PMH 2.0, sections 2.3 to 2.7.
use Rattle.std.specs.Prelude.{◌≡◌, ℕ, ℤ, Bool, true, false, not, ◌==◌, ◌&&◌, List, [], ◌∷◌, length, map, take, Option, None, Some, is_some, IsTrue}
use Rattle.std.specs.List.{list_all, list_any}
use Rattle.oai_item.specs.Item.{ItemState}
use Rattle.oai_item.specs.Items.{is_at}
use Rattle.oai_item.specs.Selection.{selected}
use Rattle.oai_catalogue.specs.Store.{VersionLists, list_at, with_list}
use Rattle.oai_lists.specs.OpenLists.{Table, open_ones}
use Rattle.oai_lists.specs.declared.open_lists.Mark.{Mark}
use Rattle.oai_lists.specs.declared.open_lists.OpenList.{OpenList}
use Rattle.oai_settings.specs.Config.{RepositoryConfig}
use Rattle.oai_holdings.specs.Holdings.{NamedSet}
use Rattle.oai_holdings.specs.Index.{IsIndexed, ItemIndex, are_whole, holdings_of}
use Rattle.oai_repo.specs.State.{FrozenList, OpenLists, RepoState, empty_state}

-- ---- the fields

-- the configuration, the clock, the index of the items, the sets, and the table of open lists
pub record RepoFields : Type 0 where
  pub config : RepositoryConfig
  pub clock : ℤ
  pub index : ItemIndex
  pub sets : List NamedSet
  pub table : Table

-- ---- the state that they represent

-- all items that were selected when the list began: its version is their snapshot
abbrev pub items_frozen : VersionLists → OpenList → List ItemState
items_frozen lists list = selected list.filter (list_at lists list.version)

abbrev pub frozen_in : VersionLists → OpenList → FrozenList
frozen_in lists list = record {
  number = list.number;
  verb = list.verb;
  prefix = list.filter.prefix;
  items = items_frozen lists list;
  end = list.end;
  given = list.given;
}

-- those of the lists of the table that are open at the clock
abbrev pub open_lists_of : ℤ → Table → VersionLists → OpenLists
open_lists_of clock table lists = record { lists = map (frozen_in lists) (open_ones clock table.lists); next = table.next }

abbrev pub state_of : RepoFields → VersionLists → RepoState
state_of held lists = record {
  clock = held.clock;
  holdings = holdings_of held.index held.sets lists;
  open_lists = open_lists_of held.clock held.table lists;
}

-- the size of a list is that of its selection
abbrev pub is_counted : VersionLists → OpenList → Bool
is_counted lists list = list.size == length (items_frozen lists list)

abbrev pub are_counted : Table → VersionLists → Bool
are_counted table lists = list_all (is_counted lists) table.lists

-- the last of the items has that datestamp and identifier
abbrev pub ends_at : ℤ → List ℕ → List ItemState → Bool
ends_at stamp identifier [] = false
ends_at stamp identifier (item ∷ []) = is_at stamp identifier item
ends_at stamp identifier (item ∷ other ∷ items) = ends_at stamp identifier (other ∷ items)

-- the mark, if there is one, is a position among the items: the one before its cursor has its datestamp and identifier
abbrev pub is_place_in : List ItemState → Option Mark → Bool
is_place_in items None = true
is_place_in items (Some mark) = ends_at mark.stamp mark.identifier (take mark.cursor items)

-- the mark of a list is a position in its selection
abbrev pub is_marked : VersionLists → OpenList → Bool
is_marked lists list = is_place_in (items_frozen lists list) list.mark

abbrev pub are_marked : Table → VersionLists → Bool
are_marked table lists = list_all (is_marked lists) table.lists

-- the version of a list has items that can be read as a whole
abbrev pub has_whole_items : VersionLists → OpenList → Bool
has_whole_items lists list = are_whole (list_at lists list.version)

-- the table agrees with the lists that its versions hold
pub record TableAgrees (table : Table) (lists : VersionLists) : Type 0 where
  pub counted : are_counted table lists ≡ true
  pub marked : are_marked table lists ≡ true
  pub whole : list_all (has_whole_items lists) table.lists ≡ true

-- what an honest store holds of a repository
pub record IsStored (held : RepoFields) (lists : VersionLists) : Type 0 where
  pub indexed : IsIndexed held.config held.index held.sets lists
  pub agrees : TableAgrees held.table lists

-- ---- whose lists they are

-- the numbers of the versions of open lists, and of those that have ended and are not dropped yet
abbrev pub versions_in : Table → List ℕ
versions_in table = map (λ (list : OpenList). list.version) table.lists

-- the numbers of a repository
abbrev pub numbers_of : RepoFields → List ℕ
numbers_of held = held.index.version ∷ versions_in held.table

-- the number is among these
abbrev pub has : List ℕ → ℕ → Bool
has numbers n = list_any (λ (v : ℕ). v == n) numbers

-- the numbers are distinct
abbrev pub are_different : List ℕ → Bool
are_different [] = true
are_different (v ∷ numbers) = not (has numbers v) && are_different numbers

-- the numbers are in use, and distinct
pub record AreInUse (numbers : List ℕ) (lists : VersionLists) : Type 0 where
  pub used : list_all (λ (v : ℕ). is_some (lists v)) numbers ≡ true
  pub apart : are_different numbers ≡ true

-- the numbers of the repository are in use, each for one thing
abbrev pub HasNumbersIn : RepoFields → VersionLists → Type 0
HasNumbersIn held lists = AreInUse (numbers_of held) lists

-- all lists after a repository changes its numbers: those that are not its own, under numbers in use and not in use,
-- are unchanged; a number that it gives up is no longer in use; and one that it takes was not in use
pub record KeepsOthers (old : List ℕ) (before : VersionLists) (new : List ℕ) (after : VersionLists) : Type 0 where
  pub others : (n : ℕ) → has old n ≡ false → has new n ≡ false → after n ≡ before n
  pub given_up : (n : ℕ) → has old n ≡ true → has new n ≡ false → after n ≡ None
  pub taken : (n : ℕ) → has old n ≡ false → has new n ≡ true → before n ≡ None

-- the precondition of a call on a repository: its numbers are in use, and an honest store has what its own calls left
-- there
pub record Owns (honest : Bool) (repo : RepoFields) (lists : VersionLists) : Type 0 where
  pub stands : HasNumbersIn repo lists
  pub held : IsTrue honest → IsStored repo lists

-- what each call preserves: the configuration, the precondition of the next call, and the lists of others
pub record Keeps (honest : Bool) (old : RepoFields) (before : VersionLists) (new : RepoFields) (after : VersionLists) : Type 0 where
  pub config : new.config ≡ old.config
  pub stands : HasNumbersIn new after
  pub held : IsTrue honest → IsStored new after
  pub others : KeepsOthers (numbers_of old) before (numbers_of new) after

-- a repository in its initial state, under a number that was not in use
pub record IsNew (config : RepositoryConfig) (before : VersionLists) (new : RepoFields) (after : VersionLists) : Type 0 where
  pub configured : new.config ≡ config
  pub alone : versions_in new.table ≡ []
  pub unused : before new.index.version ≡ None
  pub listed : after ≡ with_list new.index.version [] before
  pub empty : state_of new after ≡ empty_state config
  pub held : IsStored new after
  pub stands : HasNumbersIn new after
