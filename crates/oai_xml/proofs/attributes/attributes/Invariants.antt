use Rattle.std.proofs.Common.{◌≤◌, List, length}
use Rattle.oai_xml.specs.Trees.{Attribute}
use Rattle.oai_xml.proofs.TagPieces.{AttributesSoFar}
use Rattle.oai_xml.proofs.attributes.attributes.Given as goal

-- the attributes before the rest are read, and what they leave is left
abbrev pub invariant-loop-rest : goal.invariant-loop-rest
invariant-loop-rest l =
    (done : List Attribute) × AttributesSoFar l.bytes l.rest l.fn.names.items l.names.items l.fn.scope.items l.scope.items l.fn.out.items l.out.items done × (length l.rest ≤ length l.bytes)

abbrev pub decreases-loop-rest : goal.decreases-loop-rest
decreases-loop-rest l = length l.rest
