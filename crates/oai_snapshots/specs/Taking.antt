-- How a snapshot is taken: the versions to freeze, and those that are frozen. It ties the code to the definitions.
use Rattle.std.specs.Prelude.{◌≡◌, ℕ, ℤ, if◌then◌else◌, Bool, List, [], ◌∷◌, ◌++◌, map, None, Some, is_some}
use Rattle.std.specs.List.{list_all}
use Rattle.oai_catalogue.specs.Store.{VersionLists, list_at}
use Rattle.oai_lists.specs.OpenLists.{is_open, open_ones}
use Rattle.oai_lists.specs.declared.open_lists.OpenList.{OpenList}
use Rattle.oai_repo.specs.Fields.{AreInUse, KeepsOthers, RepoFields}
use Rattle.oai_snapshots.specs.Snapshots.{saved_of, versions_of}
use Rattle.oai_snapshots.specs.declared.versions.SnapshotVersion.{SnapshotVersion}

-- the version of an open list, with the list
abbrev pub source_of : OpenList → SnapshotVersion
source_of list = record { version = list.version; list = Some (saved_of list) }

-- the version of the items
abbrev pub source_of_items : ℕ → SnapshotVersion
source_of_items v = record { version = v; list = None }

-- the versions of the lists that are open at the repository's clock, and last that of its items
abbrev pub sources_of : RepoFields → List SnapshotVersion
sources_of repo = map source_of (open_ones repo.clock repo.table.lists) ++ source_of_items repo.index.version ∷ []

-- the sources, and that of the list if it is open at that clock
abbrev pub with_open : ℤ → OpenList → List SnapshotVersion → List SnapshotVersion
with_open clock list sources = if is_open clock list then sources ++ source_of list ∷ [] else sources

-- the versions are in use
abbrev pub are_in_use : VersionLists → List SnapshotVersion → Bool
are_in_use lists sources = list_all (λ (s : SnapshotVersion). is_some (lists s.version)) sources

-- each of the versions has the list of its source, and the items that its source has before
abbrev pub AreCopies : List SnapshotVersion → VersionLists → List SnapshotVersion → VersionLists → Type 0
AreCopies [] before [] after = Unit {0}
AreCopies [] before (s ∷ versions) after = ⊥
AreCopies (source ∷ sources) before [] after = ⊥
AreCopies (source ∷ sources) before (s ∷ versions) after =
    (s.list ≡ source.list) × (list_at after s.version ≡ list_at before source.version)
    × AreCopies sources before versions after

-- these sources are frozen: the versions are copies of them, under numbers that were not in use
pub record HasFrozen (sources : List SnapshotVersion) (before : VersionLists) (versions : List SnapshotVersion) (after : VersionLists) : Type 0 where
  pub copies : AreCopies sources before versions after
  pub stands : AreInUse (versions_of versions) after
  pub others : KeepsOthers [] before (versions_of versions) after
