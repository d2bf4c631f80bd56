-- What contracts see of the fields of a `Snapshot`.
use Rattle.oai_snapshots.specs.Reading.{place_in_differences}
use Rattle.oai_snapshots.specs.Snapshots.{SnapshotFields}
use Rattle.oai_snapshots.specs.declared.snapshots.Snapshot.TheInside.{Inside}

-- the snapshot
abbrev pub snapshot_in : Inside → SnapshotFields
snapshot_in s = record {
  clock = s.clock;
  next = s.next;
  begun = s.begun;
  sets = s.sets;
  given = s.given;
  before = s.before;
  versions = s.versions.items;
  place = place_in_differences s.place;
}
