use Rattle.std.proofs.Common.{◌≡◌}
use Rattle.tests_storage.proofs.devices.filled.assert_filled.Given as goal

abbrev pub invariant-loop-number : goal.invariant-loop-number
invariant-loop-number g l = g.P.PagePool.counts l.pool ≡ g.P.PagePool.counts l.fn.pool
