use Rattle.std.proofs.Common.{◌≡◌, ◌-◌, ◌≤◌, length, take}
use Rattle.std.specs.List.{list_all}
use Rattle.oai_names.proofs.byte_tests.pass_in_blocks.Given as goal

-- whether the bytes so far pass
abbrev pub invariant-loop-at : goal.invariant-loop-at
invariant-loop-at g l = (l.at ≤ length l.bytes) × (l.passed ≡ list_all g.T.ByteTest.passes (take l.at l.bytes))

abbrev pub decreases-loop-at : goal.decreases-loop-at
decreases-loop-at g l = length l.bytes - l.at
