use Rattle.std.proofs.Common.{◌≡◌, ◌≤◌, length}
use Rattle.oai_xml.specs.Parts.{digits_in}
use Rattle.oai_xml.proofs.references.digits.Given as goal

abbrev pub invariant-loop-b : goal.invariant-loop-b
invariant-loop-b l = (digits_in l.base 0 l.bytes ≡ digits_in l.base l.value l.rest) × (l.value ≤ 0x10FFFF) × (length l.rest ≤ length l.bytes)

abbrev pub decreases-loop-b : goal.decreases-loop-b
decreases-loop-b l = length l.rest
