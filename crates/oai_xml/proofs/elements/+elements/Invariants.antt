use Rattle.std.proofs.Common.{◌+◌, ◌*◌, ◌≤◌, length}
use Rattle.oai_xml.specs.Trees.{Content}
use Rattle.oai_xml.proofs.ElementPieces.{ContentSoFar}
use Rattle.oai_xml.proofs.elements.+elements.Given as goal

abbrev pub decreases-element : goal.decreases-element
decreases-element l = 5 * l.levels

abbrev pub decreases-inside : goal.decreases-inside
decreases-inside l = 5 * l.levels + 4

abbrev pub decreases-content : goal.decreases-content
decreases-content l = 5 * l.levels + 3

abbrev pub decreases-piece : goal.decreases-piece
decreases-piece l = 5 * l.levels + 2

abbrev pub decreases-markup : goal.decreases-markup
decreases-markup l = 5 * l.levels + 1

-- the pieces before the rest are read, and appended
abbrev pub invariant-content-loop-tag : goal.invariant-content-loop-tag
invariant-content-loop-tag l =
    (done : Content) × ContentSoFar l.levels l.fn.scope.items l.bytes l.rest l.scope.items l.fn.out.items l.out.items done × (length l.rest ≤ length l.bytes)

abbrev pub decreases-content-loop-tag : goal.decreases-content-loop-tag
decreases-content-loop-tag l = length l.rest
