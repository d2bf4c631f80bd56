use Rattle.std.specs.VecDeque.{deque_len}
use Rattle.oai_snapshots.proofs.TakingLemmas.{IsReleasing}
use Rattle.oai_snapshots.proofs.freezing.release_each.Given as goal

abbrev pub invariant-versions : goal.invariant-versions
invariant-versions g l = IsReleasing g.V.Versions l.fn.versions.items l.initial.store l.left.items l.store

abbrev pub decreases-versions : goal.decreases-versions
decreases-versions g l = deque_len l.left
