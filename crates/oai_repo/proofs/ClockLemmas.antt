-- The clock of a repository stays within the years that it begins in.
use Rattle.std.proofs.Common.{rules, ◌≡◌, true, ℤ, pos, neg_ℤ, ◌<ℤ◌, ◌≤ℤ◌, FitsSigned, w64, arith}
use Rattle.std.proofs.lemmas.Bool.{and_parts}
use Rattle.std.proofs.lemmas.Int.{ints}
use Rattle.oai_time.specs.Clock.{tick}
use Rattle.oai_time.specs.Stamp.{IsWritable, stamp_of}
use Rattle.std.specs.Ordering.{int_eq}
use Rattle.oai_settings.specs.Config.{IsConfig, RepositoryConfig, is_date, is_in_years}

pub in_years-config : (config : RepositoryConfig) → IsConfig config → is_in_years config.earliest ≡ true
unfolding is_date
in_years-config config c =
    (and_parts (is_in_years config.earliest) (int_eq (stamp_of config.granularity config.earliest) config.earliest) c.dated).0

pub writable : (clock : ℤ) → is_in_years clock ≡ true → IsWritable clock
writable clock h = grind (arith, ints)

pub in_years-tick : (clock moment : ℤ) → is_in_years clock ≡ true → is_in_years (tick clock moment) ≡ true
in_years-tick clock moment h = grind (arith, ints)

-- a clock is a number of 64 bits
pub years_fit : (clock : ℤ) → is_in_years clock ≡ true → FitsSigned w64 clock
years_fit clock h =
    let below : clock <ℤ pos 9_223_372_036_854_775_808 = grind (arith, ints) in
    let above : neg_ℤ (pos 9_223_372_036_854_775_808) ≤ℤ clock = grind (arith, ints) in
    search (rules, below, above)
