use Rattle.std.proofs.Common.{refl}
use Rattle.oai_blocks.specs.Blocks.{steps_for, weight}
use Rattle.oai_blocks.proofs.FrameLemmas.{blocked_none}
use Rattle.oai_blocks.proofs.lines.BlockLines.new.Goals as goal

pub invariant_of-result-clause-blocked : goal.invariant_of-result-clause-blocked
invariant_of-result-clause-blocked g c = rw (c.new.ensures.empty, c.new-2.ensures.empty, c.new-3.ensures.items) blocked_none

pub returns-clause-weight : goal.returns-clause-weight
unfolding weight
returns-clause-weight g c weigh = rw c.new.ensures.empty refl

pub returns-clause-steps : goal.returns-clause-steps
unfolding steps_for
returns-clause-steps g c = rw c.new-3.ensures.items refl
