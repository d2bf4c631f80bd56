-- The Gregorian calendar from 0000-01-01 on, as ISO 8601 extends it to the years before 1582. The lengths
-- of the months are `jiff`'s: February has 29 days in each fourth year, but of the centuries only in each fourth.
use Rattle.std.specs.Prelude.{ℕ, zero, suc, ◌+◌, pos, nat_lt, if◌then◌else◌}
use Rattle.jiff.specs.Words.{days_in_month}

pub record CalendarDay : Type 0 where
  pub year : ℕ
  pub month : ℕ
  pub day : ℕ

-- the next of the month, the first of the next month, or 1 January of the next year
abbrev pub next_day : CalendarDay → CalendarDay
next_day d =
    if nat_lt d.day (days_in_month (pos d.year) d.month) then record d { day = d.day + 1 }
    else (if nat_lt d.month 12 then record { year = d.year; month = d.month + 1; day = 1 }
    else record { year = d.year + 1; month = 1; day = 1 })

-- the day that many days after 0000-01-01
unfoldable pub calendar_day : ℕ → CalendarDay
calendar_day zero = record { year = 0; month = 1; day = 1 }
calendar_day (suc n) = next_day (calendar_day n)
