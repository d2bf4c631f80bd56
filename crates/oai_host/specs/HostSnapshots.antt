-- Snapshots of all repositories of a host, which are saved batch by batch while the host serves, and what is left of
-- them to save. This repository's own.
use Rattle.std.specs.Prelude.{◌≡◌, ◌≤◌, ◌⊎◌, ◌-◌, ◌+◌, ℕ, Bool, true, false, List, [], ◌∷◌, ◌++◌, drop, length, map, slice_get, slice_set, Some, IsTrue}
use Rattle.std.specs.List.{AllByRecursion, AllZip, flat_map}
use Rattle.oai_catalogue.specs.Store.{VersionLists}
use Rattle.oai_lists.specs.OpenLists.{open_ones}
use Rattle.oai_holdings.specs.Holdings.{NamedSet}
use Rattle.oai_repo.specs.Fields.{AreInUse, KeepsOthers, has, numbers_of}
use Rattle.oai_replay.specs.Parts.{PartState}
use Rattle.oai_snapshots.specs.Batches.{HasHandedOutMore}
use Rattle.oai_snapshots.specs.Snapshots.{IsSnapshotTaken, SnapshotFields, have_whole, numbers_of_snapshot, parts_left}
use Rattle.oai_host.specs.Hosts.{NamedPart}
use Rattle.oai_host.specs.Saved.{named_part, encoded_part}
use Rattle.oai_host.specs.Saving.{CanBeRead, Takes}
use Rattle.oai_host.specs.declared.repositories.NamedRepo.{NamedRepo}

-- ---- whose snapshots they are

-- the numbers of all of them
abbrev pub numbers_of_snapshots : List SnapshotFields → List ℕ
numbers_of_snapshots snapshots = flat_map numbers_of_snapshot snapshots

-- their repositories: the last ones, as many as there are snapshots; the others are saved
abbrev pub repos_left : List NamedRepo → List SnapshotFields → List NamedRepo
repos_left repos snapshots = drop (length repos - length snapshots) repos

-- the sets of the snapshot are sets of the repository, to which others may have been added
abbrev pub HasItsSets : NamedRepo → SnapshotFields → Type 0
HasItsSets one snapshot = snapshot.sets ≤ length one.repo.sets

-- none of the numbers is one of a repository
abbrev pub AreNoneOf : List ℕ → List NamedRepo → Type 0
AreNoneOf numbers repos = AllByRecursion (λ (one : NamedRepo). (n : ℕ) → has numbers n ≡ true → has (numbers_of one.repo) n ≡ false) repos

-- the precondition of a call on the snapshots of these repositories: their numbers are in use, each for one thing, and
-- none is one of a repository; an honest store has items under them that can be read as a whole
pub record HoldsSnapshots (honest : Bool) (repos : List NamedRepo) (snapshots : List SnapshotFields) (lists : VersionLists) : Type 0 where
  pub stands : AreInUse (numbers_of_snapshots snapshots) lists
  pub whole : IsTrue honest → have_whole (numbers_of_snapshots snapshots) lists ≡ true
  pub apart : AreNoneOf (numbers_of_snapshots snapshots) repos
  pub sets : AllZip HasItsSets (repos_left repos snapshots) snapshots

-- what a call leaves: the precondition of the next one, and the lists of others
pub record LeavesSnapshots (honest : Bool) (repos : List NamedRepo) (old : List SnapshotFields) (before : VersionLists) (new : List SnapshotFields) (after : VersionLists) : Type 0 where
  pub holds : HoldsSnapshots honest repos new after
  pub others : KeepsOthers (numbers_of_snapshots old) before (numbers_of_snapshots new) after

-- ---- snapshots that are taken

-- so many calls of the store take them: for each repository one more than it has open lists
abbrev pub calls_for : List NamedRepo → ℕ
calls_for [] = 0
calls_for (one ∷ repos) = (length (open_ones one.repo.clock one.repo.table.lists) + 1) + calls_for repos

-- one of each repository as it was, in their order, under numbers that were not in use
pub record AreSnapshotsTaken (honest : Bool) (repos : List NamedRepo) (before : VersionLists) (snapshots : List SnapshotFields) (after : VersionLists) : Type 0 where
  pub each : AllZip (λ (one : NamedRepo) (snapshot : SnapshotFields). IsSnapshotTaken one.repo before snapshot after) repos snapshots
  pub stands : AreInUse (numbers_of_snapshots snapshots) after
  pub whole : IsTrue honest → have_whole (numbers_of_snapshots snapshots) after ≡ true
  pub others : KeepsOthers [] before (numbers_of_snapshots snapshots) after

-- ---- what is left to save

-- the parts that are left of a repository, with its name and the clock that it had when the snapshot was taken
abbrev pub parts_of_one : VersionLists → NamedRepo → SnapshotFields → List NamedPart
parts_of_one lists one snapshot = map (named_part one.name snapshot.clock) (parts_left one.repo.sets lists snapshot)

abbrev pub parts_of_each : VersionLists → List NamedRepo → List SnapshotFields → List NamedPart
parts_of_each lists [] snapshots = []
parts_of_each lists (one ∷ repos) [] = []
parts_of_each lists (one ∷ repos) (snapshot ∷ snapshots) = parts_of_one lists one snapshot ++ parts_of_each lists repos snapshots

-- the parts that are left of all, in the order of the repositories
abbrev pub parts_left_in : List NamedRepo → VersionLists → List SnapshotFields → List NamedPart
parts_left_in repos lists snapshots = parts_of_each lists (repos_left repos snapshots) snapshots

-- a sink took some of the parts that were left, and the others are left; those that it took can be decoded again
pub record SavesSome {S : Type 0} (has : S → List PartState → Type 0) (repos : List NamedRepo) (old : List SnapshotFields) (before : VersionLists) (sink : S) (new : List SnapshotFields) (after : VersionLists) (took : S) : Type 0 where
  pub some : List NamedPart
  pub handed : parts_left_in repos before old ≡ some ++ parts_left_in repos after new
  pub taken : Takes has (map encoded_part some) sink took
  pub readable : AllByRecursion (λ (one : NamedPart). CanBeRead one.part) some

-- the first snapshot is released, or more of it was handed out
abbrev pub HasSavedMore : List SnapshotFields → List SnapshotFields → Type 0
HasSavedMore [] new = ⊥
HasSavedMore (first ∷ others) new =
    (new ≡ others) ⊎ ((snapshot : SnapshotFields) × (new ≡ snapshot ∷ others) × HasHandedOutMore first snapshot)

-- ---- a repository that goes on meanwhile

-- sets are only added
pub record AddsSets (old new : List NamedSet) : Type 0 where
  pub more : List NamedSet
  pub sets : new ≡ old ++ more

-- its name stays, and sets are only added
pub record HasGrown (one new : NamedRepo) : Type 0 where
  pub name : new.name ≡ one.name
  pub added : AddsSets one.repo.sets new.repo.sets

-- the repository at the place has changed, and the lists of others are as before
pub record HasChangedAt (place : ℕ) (old : List NamedRepo) (before : VersionLists) (new : List NamedRepo) (after : VersionLists) : Type 0 where
  pub one : NamedRepo
  pub changed : NamedRepo
  pub there : slice_get old place ≡ Some one
  pub set : new ≡ slice_set old place changed
  pub grown : HasGrown one changed
  pub keeps : KeepsOthers (numbers_of one.repo) before (numbers_of changed.repo) after
