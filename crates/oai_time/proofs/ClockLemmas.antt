-- What crates above may use of `tick`.
use Rattle.std.proofs.Common.{arith, ℤ, ◌≤ℤ◌}
use Rattle.std.proofs.lemmas.Int.{ints, clamps}
use Rattle.oai_time.specs.Clock.{tick}
use Rattle.oai_time.specs.Stamp.{IsWritable}

-- the clock never goes back
pub tick-not_back : (clock moment : ℤ) → clock ≤ℤ tick clock moment
tick-not_back clock moment = omega (arith, ints, clamps)

-- and stays among the seconds that the texts can show
pub tick-in_range : (clock moment : ℤ) → IsWritable clock → IsWritable (tick clock moment)
tick-in_range clock moment h = omega (arith, ints, clamps)
