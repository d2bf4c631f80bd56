use Rattle.std.proofs.Common.{◌≡◌, ◌++◌, take, drop}
use Rattle.oai_xml.specs.Answers.{before}
use Rattle.oai_xml.specs.Readings.{up_to}
use Rattle.oai_xml.proofs.literals.up_to.Given as goal

abbrev pub invariant-loop-at : goal.invariant-loop-at
invariant-loop-at l = up_to l.mark l.bytes ≡ before (λ a b. a ++ b) (take l.at l.bytes) (up_to l.mark (drop l.at l.bytes))
