-- What crates above may use of `stamp_of`.
use Rattle.std.proofs.Common.{arith, ℤ, ◌≤ℤ◌}
use Rattle.std.proofs.lemmas.Int.{ints}
use Rattle.jiff_core.proofs.SignedLemmas.{signed_arith, int_rem_euclid-parts}
use Rattle.oai_time.specs.declared.granularity.Granularity.{Granularity}
use Rattle.oai_time.specs.declared.granularity.Granularity.TheVariants.{Day, Second}
use Rattle.oai_time.specs.Stamp.{IsWritable, stamp_of}

-- a datestamp is not after the time that it stamps
pub stamp_of-not_after : (g : Granularity) (t : ℤ) → stamp_of g t ≤ℤ t
stamp_of-not_after Day t = omega (arith, signed_arith, int_rem_euclid-parts t 86_400)
stamp_of-not_after Second t = omega (arith, ints)

-- it is in the range of the texts where the time is
pub stamp_of-in_range : (g : Granularity) (t : ℤ) → IsWritable t → IsWritable (stamp_of g t)
stamp_of-in_range Day t h = omega (arith, signed_arith, int_rem_euclid-parts t 86_400)
stamp_of-in_range Second t h = h

-- and later times have no earlier datestamps
pub stamp_of-in_order : (g : Granularity) (t u : ℤ) → t ≤ℤ u → stamp_of g t ≤ℤ stamp_of g u
stamp_of-in_order Day t u h = omega (arith, signed_arith, int_rem_euclid-parts t 86_400, int_rem_euclid-parts u 86_400)
stamp_of-in_order Second t u h = h
