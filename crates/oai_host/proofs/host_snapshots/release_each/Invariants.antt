use Rattle.std.specs.VecDeque.{deque_len}
use Rattle.oai_host.proofs.HostSnapshotLemmas.{IsReleasing}
use Rattle.oai_host.proofs.host_snapshots.release_each.Given as goal

abbrev pub invariant-snapshots : goal.invariant-snapshots
invariant-snapshots g l = IsReleasing g.V.Versions l.initial.left.items l.initial.store l.left.items l.store

abbrev pub decreases-snapshots : goal.decreases-snapshots
decreases-snapshots g l = deque_len l.left
