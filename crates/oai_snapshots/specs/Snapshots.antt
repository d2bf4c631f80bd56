-- A snapshot of a repository that is handed out part by part while the repository serves, and what is left to hand out.
-- This repository's own.
use Rattle.std.specs.Prelude.{◌≡◌, ℕ, ℤ, Bool, false, ◌&&◌, if◌then◌else◌, List, [], ◌∷◌, ◌++◌, drop, length, map, not, take, Option, None, Some, is_some}
use Rattle.std.specs.List.{list_all}
use Rattle.oai_item.specs.Item.{ItemState}
use Rattle.oai_catalogue.specs.Store.{VersionLists, list_at}
use Rattle.oai_lists.specs.OpenLists.{open_ones}
use Rattle.oai_lists.specs.declared.open_lists.OpenList.{OpenList}
use Rattle.oai_holdings.specs.Differences.{ItemDifference, comes, goes}
use Rattle.oai_holdings.specs.Holdings.{NamedSet}
use Rattle.oai_holdings.specs.Index.{are_whole}
use Rattle.oai_holdings.specs.Missing.{items_past, missing_in}
use Rattle.oai_holdings.specs.declared.differences.OwnedKey.{OwnedKey}
use Rattle.oai_repo.specs.Fields.{RepoFields, has}
use Rattle.oai_repo.specs.SavedLists.{AreBeginnings, Beginning, listed_parts, part_of_difference}
use Rattle.oai_repo.specs.Saved.{SavedListState, SavedPartState, has_clock, has_list, has_named_set}
use Rattle.oai_repo.specs.State.{RepoState}
use Rattle.oai_snapshots.specs.declared.versions.SnapshotVersion.{SnapshotVersion}

-- ---- a snapshot

-- how far the changes to the first of the versions left are handed out: items go, those after a key or all; or all have
-- gone, and others come, those after a key or all
pub data SnapshotPlace : Type 0 where
  going : Option OwnedKey → SnapshotPlace
  arriving : Option OwnedKey → SnapshotPlace

-- the clock and the next number, which are handed out first; how many sets there were, of which so many are handed out;
-- the version that was handed out last, if there is one; those that are left, in their order; and the place in the first
-- of them
pub record SnapshotFields : Type 0 where
  pub clock : ℤ
  pub next : ℕ
  pub begun : Bool
  pub sets : ℕ
  pub given : ℕ
  pub before : Option ℕ
  pub versions : List SnapshotVersion
  pub place : SnapshotPlace

-- ---- what is left to hand out

-- the changes from the items to the others that are left at that place: first the items that the others lack go, then
-- the others that the items lack come
abbrev pub differences_left : SnapshotPlace → List ItemState → List ItemState → List ItemDifference
differences_left (going behind) items others =
    map (λ (item : ItemState). goes item.identifier) (missing_in others (items_past behind items)) ++ map comes (missing_in items others)
differences_left (arriving behind) items others = map comes (missing_in items (items_past behind others))

-- the list of a version, if it has one
abbrev pub list_parts : Option SavedListState → List SavedPartState
list_parts None = []
list_parts (Some list) = has_list list ∷ []

-- the changes to the first of the versions that are left, and its list; then those to each later one from the one before
-- it, and its list
abbrev pub versions_left : VersionLists → List ItemState → SnapshotPlace → List SnapshotVersion → List SavedPartState
versions_left lists before place [] = []
versions_left lists before place (v ∷ versions) =
    map part_of_difference (differences_left place before (list_at lists v.version))
    ++ (list_parts v.list ++ versions_left lists (list_at lists v.version) (going None) versions)

-- the items of the version that was handed out last; none at first
abbrev pub items_before : VersionLists → Option ℕ → List ItemState
items_before lists None = []
items_before lists (Some v) = list_at lists v

-- the parts that are left, of a repository with these sets, to which only further ones were added: the clock and the
-- next number, the sets, and the versions
abbrev pub parts_left : List NamedSet → VersionLists → SnapshotFields → List SavedPartState
parts_left sets lists snapshot =
    (if snapshot.begun then [] else has_clock snapshot.clock snapshot.next ∷ [])
    ++ (map has_named_set (drop snapshot.given (take snapshot.sets sets))
    ++ versions_left lists (items_before lists snapshot.before) snapshot.place snapshot.versions)

-- what is left are the parts of that state, with all its open lists
abbrev pub IsSnapshot : RepoState → List NamedSet → VersionLists → SnapshotFields → Type 0
IsSnapshot state sets lists snapshot =
    (beginnings : List Beginning) × (last : List ItemDifference)
    × AreBeginnings [] beginnings last state.open_lists.lists state.holdings.items
    × (parts_left sets lists snapshot ≡ listed_parts state beginnings last)

-- some parts were handed out, and the others are left
abbrev pub HandsOut : List NamedSet → VersionLists → SnapshotFields → List SavedPartState → SnapshotFields → Type 0
HandsOut sets lists old some new = parts_left sets lists old ≡ some ++ parts_left sets lists new

-- the place after a batch of items that go: the next of them go, or the others come
abbrev pub after_gone : Option OwnedKey → SnapshotPlace
after_gone None = arriving None
after_gone (Some next) = going (Some next)

-- the changes that are left after a batch of items that come: the next of them come, or none
abbrev pub left_to_come : Option OwnedKey → List ItemState → List ItemState → List ItemDifference
left_to_come None items others = []
left_to_come (Some next) items others = differences_left (arriving (Some next)) items others

-- ---- a snapshot that is taken

-- an open list as it is saved
abbrev pub saved_of : OpenList → SavedListState
saved_of list = record { number = list.number; verb = list.verb; filter = list.filter; end = list.end; given = list.given }

-- the versions are frozen from those of the lists, in their order, and from that of the items, which comes last
abbrev pub AreFrozen : List OpenList → ℕ → VersionLists → List SnapshotVersion → VersionLists → Type 0
AreFrozen lists v before [] after = ⊥
AreFrozen [] v before (s ∷ versions) after =
    (versions ≡ []) × (s.list ≡ None) × (list_at after s.version ≡ list_at before v)
AreFrozen (list ∷ lists) v before (s ∷ versions) after =
    (s.list ≡ Some (saved_of list)) × (list_at after s.version ≡ list_at before list.version)
    × AreFrozen lists v before versions after

-- the snapshot was taken of the repository, with its lists that are open at its clock, and nothing is handed out
pub record IsSnapshotTaken (repo : RepoFields) (before : VersionLists) (snapshot : SnapshotFields) (after : VersionLists) : Type 0 where
  pub clock : snapshot.clock ≡ repo.clock
  pub next : snapshot.next ≡ repo.table.next
  pub begun : snapshot.begun ≡ false
  pub sets : snapshot.sets ≡ length repo.sets
  pub given : snapshot.given ≡ 0
  pub first : snapshot.before ≡ None
  pub place : snapshot.place ≡ going None
  pub frozen : AreFrozen (open_ones repo.clock repo.table.lists) repo.index.version before snapshot.versions after

-- the versions can be read as a whole
abbrev pub have_whole : List ℕ → VersionLists → Bool
have_whole numbers lists = list_all (λ (v : ℕ). are_whole (list_at lists v)) numbers

-- ---- whose versions they are

-- the version, if there is one, and these
abbrev pub with_before : Option ℕ → List ℕ → List ℕ
with_before None numbers = numbers
with_before (Some v) numbers = v ∷ numbers

-- the numbers of the snapshot: the version that was handed out last, from which changes are read, and those that are left
abbrev pub numbers_of_snapshot : SnapshotFields → List ℕ
numbers_of_snapshot snapshot = with_before snapshot.before (map (λ (s : SnapshotVersion). s.version) snapshot.versions)

-- the number is in use, and none of these
abbrev pub is_of_others : List ℕ → VersionLists → ℕ → Bool
is_of_others numbers lists n = is_some (lists n) && not (has numbers n)

-- the snapshot's versions are in use, and none is a version of the repository, which has these
abbrev pub are_apart_from : SnapshotFields → List ℕ → VersionLists → Bool
are_apart_from snapshot numbers lists = list_all (is_of_others numbers lists) (numbers_of_snapshot snapshot)

-- the numbers of versions, in their order
abbrev pub versions_of : List SnapshotVersion → List ℕ
versions_of versions = map (λ (s : SnapshotVersion). s.version) versions

-- these lists, without those numbers
abbrev pub without_lists : List ℕ → VersionLists → VersionLists
without_lists numbers lists n = if has numbers n then None else lists n
