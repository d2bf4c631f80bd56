use Rattle.std.proofs.Common.{◌≤◌, length}
use Rattle.oai_xml.specs.Answers.{ContinuesAs}
use Rattle.oai_xml.specs.Documents.{misc_in}
use Rattle.oai_xml.proofs.documents.past_misc.Given as goal

-- what stands before the rest is passed
abbrev pub invariant-loop-behind : goal.invariant-loop-behind
invariant-loop-behind l = ContinuesAs misc_in l.bytes l.rest × (length l.rest ≤ length l.bytes)

abbrev pub decreases-loop-behind : goal.decreases-loop-behind
decreases-loop-behind l = length l.rest
