use Rattle.std.proofs.Common.{◌≡◌, ◌++◌, List, length, Ok}
use Rattle.std.specs.Vec.Iter.{into_iter_items, into_iter_len}
use Rattle.oai_catalogue.specs.Store.{Spends}
use Rattle.oai_snapshots.specs.declared.versions.SnapshotVersion.{SnapshotVersion}
use Rattle.oai_snapshots.specs.Taking.{HasFrozen}
use Rattle.oai_snapshots.proofs.freezing.freeze_each.Given as goal

-- those so far are frozen
abbrev pub invariant-sources : goal.invariant-sources
invariant-sources g l =
    let V = g.V.Versions in
    (front : List SnapshotVersion) × (l.fn.sources.items ≡ front ++ into_iter_items l.source-iterator)
    × (into_iter_len l.source-iterator ≡ length (into_iter_items l.source-iterator))
    × HasFrozen front (V.lists l.initial.store) l.versions.items (V.lists l.store)
    × Spends {A = Unit {0}} V.room V.failures V.honest (length front) (Ok tt) l.initial.store l.store
