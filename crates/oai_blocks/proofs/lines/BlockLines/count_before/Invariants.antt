use Rattle.std.specs.Prelude.{◌≡◌, length, take}
use Rattle.oai_blocks.specs.Calls.{listed}
use Rattle.oai_blocks.specs.Store.{line_at}
use Rattle.oai_blocks.proofs.lines.BlockLines.count_before.Given as goal

abbrev pub invariant-counted : goal.invariant-counted
invariant-counted g l = l.count ≡ length (listed (take l.block (line_at l.fn.self l.v)))
