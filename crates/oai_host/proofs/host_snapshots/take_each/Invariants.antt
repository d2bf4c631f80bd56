-- a snapshot of each of the first repositories is taken
use Rattle.std.proofs.Common.{Ok, take}
use Rattle.oai_catalogue.specs.Store.{Spends}
use Rattle.oai_host.specs.HostSnapshots.{AreSnapshotsTaken, calls_for}
use Rattle.oai_host.proofs.host_snapshots.take_each.Given as goal

abbrev pub invariant-loop-one : goal.invariant-loop-one
invariant-loop-one g l =
    let V = g.V.Versions in
    record {
      taken : AreSnapshotsTaken (V.honest l.initial.store) (take l.one-index l.repos) (V.lists l.initial.store) l.snapshots.items (V.lists l.store);
      store : Spends {A = Unit {0}} V.room V.failures V.honest (calls_for (take l.one-index l.repos)) (Ok tt) l.initial.store l.store;
    }
