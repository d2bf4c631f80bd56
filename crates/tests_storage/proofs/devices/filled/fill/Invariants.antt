use Rattle.std.proofs.Common.{◌<◌, ℕ}
use Rattle.oai_pool.specs.Counts.{count_of}
use Rattle.tests_storage.proofs.devices.filled.fill.Given as goal

abbrev pub invariant-loop-number : goal.invariant-loop-number
invariant-loop-number g l = (n : ℕ) → n < l.number → 0 < count_of (g.P.PagePool.counts l.pool) n
