use Rattle.std.proofs.Common.{◌≡◌, ◌≤◌, length}
use Rattle.oai_xml.specs.Parts.{past_spaces}
use Rattle.oai_xml.proofs.spaces.past_spaces.Given as goal

abbrev pub invariant-loop-b : goal.invariant-loop-b
invariant-loop-b l = (past_spaces l.bytes ≡ past_spaces l.rest) × (length l.rest ≤ length l.bytes)

abbrev pub decreases-loop-b : goal.decreases-loop-b
decreases-loop-b l = length l.rest
