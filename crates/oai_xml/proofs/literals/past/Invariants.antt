use Rattle.std.proofs.Common.{◌≡◌, ◌+◌, length, drop}
use Rattle.oai_xml.specs.Readings.{past}
use Rattle.oai_xml.proofs.literals.past.Given as goal

abbrev pub invariant-loop-expected : goal.invariant-loop-expected
invariant-loop-expected l =
    (past l.literal l.bytes ≡ past (drop l.expected-index l.literal) l.rest) × (length l.rest + l.expected-index ≡ length l.bytes)
