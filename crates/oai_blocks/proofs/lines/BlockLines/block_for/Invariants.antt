use Rattle.std.specs.Prelude.{◌<◌, ◌≤◌, ◌-◌, length, true, false}
use Rattle.std.specs.Fn.{FnReturnsAt}
use Rattle.oai_blocks.specs.Calls.{BeginsBy}
use Rattle.oai_blocks.specs.Store.{block_of, line_at}
use Rattle.oai_blocks.proofs.lines.BlockLines.block_for.Given as goal

abbrev pub invariant-halves : goal.invariant-halves
invariant-halves g l =
    (l.low ≤ l.high) × (l.high ≤ length (line_at l.fn.self l.v)) × (0 < length (line_at l.fn.self l.v) → l.low < l.high)
    × (0 < l.low → BeginsBy (FnReturnsAt g.F.Fn l.holds) (block_of l.fn.self l.v l.low) true)
    × (l.high < length (line_at l.fn.self l.v) → BeginsBy (FnReturnsAt g.F.Fn l.holds) (block_of l.fn.self l.v l.high) false)

abbrev pub decreases-halves : goal.decreases-halves
decreases-halves g l = l.high - l.low
