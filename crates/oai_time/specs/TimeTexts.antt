-- The two texts of a time (OAI-PMH 2.0, 3.3 "UTCdatetime"; both are forms of ISO 8601).
use Rattle.std.specs.Prelude.{ℕ, ◌+◌, ◌/◌, ◌%◌, List, [], ◌∷◌, ◌++◌, codes, ℤ, pos, ◌+ℤ◌, unsigned_abs}
use Rattle.oai_time.specs.Calendar.{CalendarDay, calendar_day}
use Rattle.oai_time.specs.declared.granularity.Granularity.{Granularity}
use Rattle.oai_time.specs.declared.granularity.Granularity.TheVariants.{Day, Second}

-- the decimal digit of a number at the place 1, 10, 100 or 1000
abbrev pub digit : ℕ → ℕ → ℕ
digit place n = 48 + n / place % 10

abbrev pub two_digits : ℕ → List ℕ
two_digits n = digit 10 n ∷ digit 1 n ∷ []

abbrev pub four_digits : ℕ → List ℕ
four_digits n = digit 1000 n ∷ digit 100 n ∷ digit 10 n ∷ digit 1 n ∷ []

-- `YYYY-MM-DD`
unfoldable pub date_text : CalendarDay → List ℕ
date_text d =
    four_digits d.year ++ codes "-" ++ two_digits d.month ++ codes "-" ++ two_digits d.day

-- `Thh:mm:ssZ`, at that many seconds after midnight
unfoldable pub time_text : ℕ → List ℕ
time_text s =
    codes "T" ++ two_digits (s / 3600) ++ codes ":" ++ two_digits (s / 60 % 60)
    ++ codes ":" ++ two_digits (s % 60) ++ codes "Z"

-- the seconds after 0000-01-01T00:00:00Z, for a time that is given after 1970-01-01T00:00:00Z
abbrev pub seconds_of_era : ℤ → ℕ
seconds_of_era seconds = unsigned_abs (seconds +ℤ pos 62_167_219_200)

-- the day that contains the seconds
unfoldable pub day_text : ℤ → List ℕ
day_text seconds = date_text (calendar_day (seconds_of_era seconds / 86_400))

-- the day and the time
unfoldable pub second_text : ℤ → List ℕ
second_text seconds = day_text seconds ++ time_text (seconds_of_era seconds % 86_400)

-- a datestamp at the granularity (section 2.7.1)
abbrev pub datestamp_text : Granularity → ℤ → List ℕ
datestamp_text Day seconds = day_text seconds
datestamp_text Second seconds = second_text seconds
