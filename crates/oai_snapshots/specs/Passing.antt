-- What the methods of a snapshot do to its fields. It ties the code to the definitions.
use Rattle.std.specs.Prelude.{◌≡◌, List, ◌∷◌, ◌++◌, Option, Some, None}
use Rattle.oai_catalogue.specs.Store.{VersionLists}
use Rattle.oai_holdings.specs.Holdings.{NamedSet}
use Rattle.oai_repo.specs.Saved.{SavedListState, SavedPartState}
use Rattle.oai_snapshots.specs.Batches.{IsFurtherOn, parts_of_batch}
use Rattle.oai_snapshots.specs.Snapshots.{SnapshotFields, going, items_before, versions_left}
use Rattle.oai_snapshots.specs.declared.batches.Batch.{Batch}
use Rattle.oai_snapshots.specs.declared.versions.SnapshotVersion.{SnapshotVersion}

-- the parts that are left of the versions
abbrev pub changes_left : VersionLists → SnapshotFields → List SavedPartState
changes_left lists snapshot = versions_left lists (items_before lists snapshot.before) snapshot.place snapshot.versions

-- a batch of them was handed out
pub record HandsOutChange (lists : VersionLists) (old : SnapshotFields) (batch : Batch) (new : SnapshotFields) : Type 0 where
  pub parts : (sets : List NamedSet) → changes_left lists old ≡ parts_of_batch sets batch ++ changes_left lists new
  pub begun : new.begun ≡ old.begun
  pub sets : new.sets ≡ old.sets
  pub given : new.given ≡ old.given
  pub further : IsFurtherOn old new

-- the first version was handed out whole, and its list
abbrev pub HasPassed : SnapshotFields → Option SavedListState → SnapshotFields → Type 0
HasPassed old list new =
    (s : SnapshotVersion) × (rest : List SnapshotVersion) × (old.versions ≡ s ∷ rest) × (list ≡ s.list)
    × (new ≡ record old { before = Some s.version; versions = rest; place = going None })
