use Rattle.std.specs.Prelude.{◌≡◌, ◌≤◌, ◌-◌}
use Rattle.oai_blocks.specs.Calls.{place_of}
use Rattle.oai_blocks.specs.Store.{line_at}
use Rattle.oai_blocks.proofs.lines.BlockLines.place_at.Given as goal

abbrev pub invariant-passed : goal.invariant-passed
invariant-passed g l = (place_of (line_at l.fn.self l.v) l.block l.at ≡ l.before) × (l.block ≤ l.count)

abbrev pub decreases-passed : goal.decreases-passed
decreases-passed g l = l.count - l.block
