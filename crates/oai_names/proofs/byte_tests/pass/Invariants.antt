use Rattle.std.proofs.Common.{◌≡◌, take}
use Rattle.std.specs.List.{list_all}
use Rattle.oai_names.proofs.byte_tests.pass.Given as goal

-- whether the bytes so far pass
abbrev pub invariant-loop-b : goal.invariant-loop-b
invariant-loop-b g l = l.passed ≡ list_all g.T.ByteTest.passes (take l.b-index l.bytes)
