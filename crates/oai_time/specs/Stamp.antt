-- Datestamps (OAI-PMH 2.0, sections 2.7.1 and 3.3), as seconds from 1970-01-01T00:00:00Z.
use Rattle.std.specs.Prelude.{ℤ, pos, ◌-ℤ◌}
use Rattle.std.specs.Int.{int_rem_euclid}
use Rattle.jiff.specs.Words.{IsBetween}
use Rattle.oai_time.specs.declared.granularity.Granularity.{Granularity}
use Rattle.oai_time.specs.declared.text.TheConstants.{FIRST_SECOND, LAST_SECOND}
use Rattle.oai_time.specs.declared.granularity.Granularity.TheVariants.{Day, Second}

-- a second that the texts can show: from 0000-01-01T00:00:00Z to 9999-12-31T23:59:59Z
abbrev pub IsWritable : ℤ → Type 0
IsWritable seconds = IsBetween FIRST_SECOND LAST_SECOND seconds

-- the second itself, or the greatest multiple of 86,400 that is not above it
abbrev pub stamp_of : Granularity → ℤ → ℤ
stamp_of Day seconds = seconds -ℤ int_rem_euclid seconds (pos 86_400)
stamp_of Second seconds = seconds
