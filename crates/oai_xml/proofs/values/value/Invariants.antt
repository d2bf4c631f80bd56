use Rattle.std.proofs.Common.{◌≤◌, ℕ, List, length}
use Rattle.oai_xml.proofs.ValuePieces.{SoFar}
use Rattle.oai_xml.proofs.values.value.Given as goal

-- what stands before the rest is read, and appended
abbrev pub invariant-loop-b : goal.invariant-loop-b
invariant-loop-b l = (done : List ℕ) × SoFar l.form l.quote l.bytes l.rest l.fn.out.items l.out.items done × (length l.rest ≤ length l.bytes)

abbrev pub decreases-loop-b : goal.decreases-loop-b
decreases-loop-b l = length l.rest
