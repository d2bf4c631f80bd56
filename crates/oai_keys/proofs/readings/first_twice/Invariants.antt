use Rattle.std.proofs.Common.{◌≡◌, length}
use Rattle.oai_keys.specs.Reading.{first_twice}
use Rattle.oai_keys.proofs.readings.first_twice.Given as goal

-- the first of what is left is the first of all
abbrev pub invariant-loop-rings : goal.invariant-loop-rings
invariant-loop-rings l = first_twice l.rings ≡ first_twice l.fn.rings

abbrev pub decreases-loop-rings : goal.decreases-loop-rings
decreases-loop-rings l = length l.rings
