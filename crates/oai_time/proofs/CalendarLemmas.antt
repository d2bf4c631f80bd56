-- The day that `next_day` reaches in n steps is the date to which `jiff` gives the day number n - 719,528.
use Rattle.std.proofs.Common.{◌≡◌, ℕ, zero, suc, ◌+◌, ◌<◌, ◌≤◌, inl, inr, true, false, nat_lt, refl, subst, arith, pos, neg_ℤ, ◌+ℤ◌, ◌≤ℤ◌}
use Rattle.std.proofs.lemmas.Bool.{cases_lt}
use Rattle.std.proofs.lemmas.Bool.Decides.{nat_tests}
use Rattle.std.proofs.lemmas.Int.{by_lt_z}
use Rattle.std.specs.Int.{IsInRange}
use Rattle.jiff_core.specs.declared.civil.date.Date.{Date}
use Rattle.jiff_core.specs.Calendar.{day_count, days_from_civil, days_in_month, IsDate, IsYear}
use Rattle.jiff_core.specs.Date.{epoch_day}
use Rattle.jiff_core.proofs.SignedLemmas.{signed_arith}
use Rattle.jiff_core.proofs.MarchLemmas.{day_count-early}
use Rattle.jiff_core.proofs.CalendarLemmas.{days_from_civil-day_count, day_count-day, day_count-next_month, day_count-next_year, day_count-last_of_year, day_count-lt_year, day_count-end, day_count-day_of_year, days_in_month_bounds}
use Rattle.jiff_core.proofs.DateLemmas.{civil, epoch_day_injective}
use Rattle.oai_time.specs.Calendar.{CalendarDay, next_day, calendar_day}

lt-true : (a b : ℕ) → a < b → nat_lt a b ≡ true
lt-true a b h = grind (arith, nat_tests)

lt-false : (a b : ℕ) → b ≤ a → nat_lt a b ≡ false
lt-false a b h = grind (arith, nat_tests)

-- the calendar has the day, and `jiff`, which counts from -10000-01-01, counts n more than for 0000-01-01
record IsNumbered (n : ℕ) (d : CalendarDay) : Type 0 where
  month_in : IsInRange 1 12 d.month
  day_in : IsInRange 1 (days_in_month (pos d.year) d.month) d.day
  count : day_count (pos d.year) d.month d.day ≡ 3_652_425 + n

first_count : day_count (pos 0) 1 1 ≡ 3_652_425
first_count = day_count-early (pos 0) 9999 1 1 refl (omega arith) (omega arith) (omega arith)

within_month : (n y m d : ℕ) → IsNumbered n (record { year = y; month = m; day = d }) → d < days_in_month (pos y) m → IsNumbered (suc n) (record { year = y; month = m; day = d + 1 })
within_month n y m d h lt = record {
  month_in = h.month_in;
  day_in = omega (arith, h.day_in);
  count = omega (arith, h.count, h.day_in, day_count-day (pos y) m d (d + 1) h.day_in.0 (omega arith));
}

into_month : (n y m d : ℕ) → IsNumbered n (record { year = y; month = m; day = d }) → days_in_month (pos y) m ≤ d → m < 12 → IsNumbered (suc n) (record { year = y; month = m + 1; day = 1 })
into_month n y m d h last lt =
    let long = days_in_month_bounds (pos y) (m + 1) in
    record {
      month_in = omega (arith, h.month_in);
      day_in = omega arith;
      count = omega (arith, h.count, h.day_in, day_count-day (pos y) m d 1 h.day_in.0 (omega arith), day_count-next_month (pos y) m h.month_in.0);
    }

into_year : (n y m d : ℕ) → IsNumbered n (record { year = y; month = m; day = d }) → days_in_month (pos y) m ≤ d → 12 ≤ m → IsNumbered (suc n) (record { year = y + 1; month = 1; day = 1 })
into_year n y m d h last end =
    let december : m ≡ 12 = omega (arith, h.month_in) in
    let long = rw december at last in
    let short = rw december at h.day_in.1 in
    let count = rw december at h.count in
    record {
      month_in = omega arith;
      day_in = omega (arith, days_in_month_bounds (pos (y + 1)) 1);
      count = omega (arith, count, h.day_in, day_count-day (pos y) 12 d 31 h.day_in.0 (omega arith), day_count-last_of_year (pos y), day_count-next_year (pos y) (pos (y + 1)) (omega (arith, signed_arith)) refl);
    }

next_day_numbered : (n : ℕ) (c : CalendarDay) → IsNumbered n c → IsNumbered (suc n) (next_day c)
next_day_numbered n c h =
    elim (cases_lt c.day (days_in_month (pos c.year) c.month)) [
      | inl lt ↦ rw (lt-true c.day (days_in_month (pos c.year) c.month) lt) (within_month n c.year c.month c.day h lt)
      | inr last ↦ rw (lt-false c.day (days_in_month (pos c.year) c.month) last)
          (elim (cases_lt c.month 12) [
            | inl lt ↦ rw (lt-true c.month 12 lt) (into_month n c.year c.month c.day h last lt)
            | inr end ↦ rw (lt-false c.month 12 end) (into_year n c.year c.month c.day h last end)
          ])
    ]

numbered : (n : ℕ) → IsNumbered n (calendar_day n)
unfolding calendar_day
numbered zero = record { month_in = omega arith; day_in = omega arith; count = first_count }
numbered (suc n) = next_day_numbered n (calendar_day n) (numbered n)

-- 0000-01-01 in the count from 1970-01-01
pub days_from_civil-zero : days_from_civil (pos 0) 1 1 ≡ neg_ℤ (pos 719_528)
days_from_civil-zero = omega (arith, signed_arith, days_from_civil-day_count, first_count)

same_parts : (d : Date) (n : ℕ) (c : CalendarDay) → IsNumbered n c → epoch_day d +ℤ pos 719_528 ≡ pos n → IsYear (pos c.year) → (d.year ≡ pos c.year) × (d.month ≡ c.month) × (d.day ≡ c.day)
same_parts d n c h e year =
    let other : Date = record { year = pos c.year; month = c.month; day = c.day; year_in = year; month_in = h.month_in; day_in = h.day_in } in
    epoch_day_injective d other (omega (arith, signed_arith, days_from_civil-day_count, h.count, e))

-- a date of `jiff` has the year, month and day of the calendar day with its number
pub calendar_day-date : (d : Date) (n : ℕ) → epoch_day d +ℤ pos 719_528 ≡ pos n → (d.year ≡ pos (calendar_day n).year) × (d.month ≡ (calendar_day n).month) × (d.day ≡ (calendar_day n).day)
calendar_day-date d n e =
    let h = numbered n in
    by_lt_z (pos 9999) (pos (calendar_day n).year)
    (λ lt. absurd (omega (arith, signed_arith, days_from_civil-day_count, h.count, e, day_count-lt_year d.year d.month d.day (pos (calendar_day n).year) (calendar_day n).month (calendar_day n).day (civil d) h.day_in.0 (omega (arith, signed_arith, d.year_in)))))
    (λ le. same_parts d n (calendar_day n) h e (omega (arith, signed_arith)))

last_count : day_count (pos 9999) 12 31 ≡ 7_304_849
last_count = omega (arith, day_count-last_of_year (pos 9999), day_count-next_year (pos 9999) (pos 10000) (omega (arith, signed_arith)) refl, day_count-end)

-- up to 9999-12-31 each number of a day fits its place in the text
pub calendar_day_bounds : (n : ℕ) → n < 3_652_425 → ((calendar_day n).year < 10_000) × ((calendar_day n).month < 100) × ((calendar_day n).day < 100)
calendar_day_bounds n below =
    let h = numbered n in
    let c = calendar_day n in
    let year : c.year < 10_000 = by_lt_z (pos 9999) (pos c.year)
    (λ lt. absurd (omega (arith, h.count, last_count, day_count-lt_year (pos 9999) 12 31 (pos c.year) c.month c.day (omega (arith, signed_arith), omega arith, omega arith) h.day_in.0 lt)))
    (λ le. omega (arith, signed_arith)) in
    (year, omega (arith, h.month_in), omega (arith, h.day_in, days_in_month_bounds (pos c.year) c.month))

-- the calendar has each day that `next_day` reaches
pub calendar_day-IsDate : (n y m d : ℕ) → y < 10_000 → calendar_day n ≡ record { year = y; month = m; day = d } → IsDate (pos y) (pos m) (pos d)
calendar_day-IsDate n y m d small e =
    let P : CalendarDay → Type 0 = IsNumbered n in
    let h = subst P e (numbered n) in
    (omega (arith, signed_arith), omega (arith, signed_arith, h.month_in), omega (arith, signed_arith, h.day_in))

-- and a date of `jiff` with the parts of the n-th day has its number
pub epoch_day-calendar_day : (date : Date) (n y m d : ℕ) → date.year ≡ pos y → date.month ≡ m → date.day ≡ d → calendar_day n ≡ record { year = y; month = m; day = d } → epoch_day date +ℤ pos 719_528 ≡ pos n
epoch_day-calendar_day date n y m d year month day e =
    let P : CalendarDay → Type 0 = IsNumbered n in
    let h = subst P e (numbered n) in
    rw (year, month, day) (omega (arith, signed_arith, days_from_civil-day_count, h.count))

-- a date of a year that is not negative does not lie before 0000-01-01
pub epoch_day_from_zero : (d : Date) → pos 0 ≤ℤ d.year → neg_ℤ (pos 719_528) ≤ℤ epoch_day d
epoch_day_from_zero d h =
    by_lt_z (pos 0) d.year
    (λ lt. omega (arith, signed_arith, days_from_civil-day_count, first_count, day_count-lt_year (pos 0) 1 1 d.year d.month d.day (omega (arith, signed_arith), omega arith, omega arith) d.day_in.0 lt))
    (λ le. let zero_year : d.year ≡ pos 0 = omega (arith, signed_arith) in
    let count = rw zero_year at (day_count-day_of_year d.year d.month d.day d.day_in.0) in
    rw zero_year (omega (arith, signed_arith, days_from_civil-day_count, first_count, count, d.day_in)))

-- two numbers of one day are equal
pub calendar_day_injective : (m n : ℕ) → calendar_day m ≡ calendar_day n → m ≡ n
calendar_day_injective m n e =
    let P : CalendarDay → Type 0 = IsNumbered m in
    let h = subst P e (numbered m) in
    omega (arith, h.count, (numbered n).count)
