-- The versions that are read are the snapshot's.
use Rattle.std.proofs.Common.{subst, sym}
use Rattle.oai_snapshots.specs.Batches.{HoldsSnapshot}
use Rattle.oai_snapshots.specs.Snapshots.{SnapshotFields}
use Rattle.oai_snapshots.proofs.PassingLemmas.{before_readable, first_found, first_readable}
use Rattle.oai_snapshots.proofs.snapshots.Snapshot.read.Goals as goal

pub read_differences-requires-clause-before : goal.read_differences-requires-clause-before
read_differences-requires-clause-before g c =
    let V = g.V.Versions in
    let store = c.args.store.now in
    before_readable V store _ (subst (λ (s : SnapshotFields). HoldsSnapshot (V.honest store) s (V.lists store)) (sym c.self.view_is) c.requires.holds)

pub read_differences-requires-clause-version : goal.read_differences-requires-clause-version
read_differences-requires-clause-version g c =
    first_readable g.V.Versions c.args.store.now c.args.self.now c.args.version c.requires.holds (first_found c.args.version c.args.self.now.versions c.requires.first)
