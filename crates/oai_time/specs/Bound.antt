-- The bounds of a harvest, the arguments `from` and `until` (OAI-PMH 2.0, 2.7.1 "Selective harvesting and datestamps").
use Rattle.std.specs.Prelude.{◌≡◌, ◌<◌, ℕ, zero, suc, ◌*◌, Bool, true, false, if◌then◌else◌, bytes_eq, Option, None, Some, List, ℤ, pos, ◌+ℤ◌, ◌-ℤ◌}
use Rattle.std.specs.Int.{IsInRange}
use Rattle.std.specs.Option.{option_map, option_or}
use Rattle.jiff.specs.Words.{days_in_month}
use Rattle.oai_time.specs.declared.granularity.Granularity.{Granularity}
use Rattle.oai_time.specs.declared.granularity.Granularity.TheVariants.{Day, Second}
use Rattle.oai_time.specs.declared.bound.Bound.{Bound}
use Rattle.oai_time.specs.declared.bound.Bound.TheVariants.{Day as WholeDay, Second as OneSecond}
use Rattle.oai_time.specs.Stamp.{IsWritable, stamp_of}
use Rattle.oai_time.specs.TimeTexts.{date_text, day_text, second_text}

-- the second is the first of a day
abbrev pub IsMidnight : ℤ → Type 0
IsMidnight seconds = IsWritable seconds × (stamp_of Day seconds ≡ seconds)

-- a day is represented by its midnight, and both kinds lie in the years 0000 to 9999
abbrev pub IsWritableBound : Bound → Type 0
IsWritableBound (WholeDay midnight) = IsMidnight midnight
IsWritableBound (OneSecond second) = IsWritable second

-- `YYYY-MM-DD` of the day, or `YYYY-MM-DDThh:mm:ssZ` of the second
abbrev pub bound_text : Bound → List ℕ
bound_text (WholeDay midnight) = day_text midnight
bound_text (OneSecond second) = second_text second

-- the text stands for the bound: it is the bound's text, and no other text is
pub record IsBound (text : List ℕ) (bound : Bound) : Type 0 where
  pub in_range : IsWritableBound bound
  pub written : text ≡ bound_text bound

-- the first second of a bound
abbrev pub lower_of : Bound → ℤ
lower_of (WholeDay midnight) = midnight
lower_of (OneSecond second) = second

-- and its last
abbrev pub upper_of : Bound → ℤ
upper_of (WholeDay midnight) = midnight +ℤ pos 86_399
upper_of (OneSecond second) = second

-- a bound is no finer than the granularity: the datestamps of a repository of days cannot be compared with seconds
abbrev pub is_no_finer_than : Bound → Granularity → Bool
is_no_finer_than (WholeDay midnight) granularity = true
is_no_finer_than (OneSecond second) Second = true
is_no_finer_than (OneSecond second) Day = false

-- the law of the calendar: the date of each year from 0000 to 9999, month from 1 to 12, and day up to the month's last
-- is the text of a day
abbrev pub HasEachDate : Type 0
HasEachDate = (year month day : ℕ)
    → year < 10_000 → IsInRange 1 12 month → IsInRange 1 (days_in_month (pos year) month) day
    → (midnight : ℤ)
    × IsBound (date_text (record { year = year; month = month; day = day })) (WholeDay midnight)

-- ---- the bound of a text, as a function

-- the greatest number below n that passes the test, if there is one
unfoldable pub last_below : (ℕ → Bool) → ℕ → Option ℕ
last_below passes zero = None
last_below passes (suc n) = if passes n then Some n else last_below passes n

-- the second that many seconds after 0000-01-01T00:00:00Z
abbrev pub second_after : ℕ → ℤ
second_after n = pos n -ℤ pos 62_167_219_200

-- the midnight that begins the day that many days after 0000-01-01
abbrev pub midnight_of : ℕ → ℤ
midnight_of n = second_after (86_400 * n)

-- the day of the years 0000 to 9999 with this text
unfoldable pub day_of : List ℕ → Option ℕ
day_of text = last_below (λ n. bytes_eq text (day_text (midnight_of n))) 3_652_425

-- the second of the years 0000 to 9999 with this text
unfoldable pub second_of : List ℕ → Option ℕ
second_of text = last_below (λ n. bytes_eq text (second_text (second_after n))) 315_569_520_000

-- the bound with this text, if there is one
unfoldable pub bound_of : List ℕ → Option Bound
bound_of text =
    option_or (option_map (λ n. WholeDay (midnight_of n)) (day_of text))
    (option_map (λ n. OneSecond (second_after n)) (second_of text))
