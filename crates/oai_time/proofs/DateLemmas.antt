-- The calendar has each date.
use Rattle.std.proofs.Common.{◌≡◌, ◌∙◌, ℕ, ◌/◌, ◌<◌, sym, ap, arith, pos, ◌+ℤ◌, unsigned_abs}
use Rattle.std.specs.Int.{IsInRange}
use Rattle.jiff_core.specs.declared.civil.date.Date.{Date}
use Rattle.jiff_core.specs.Calendar.{days_from_civil, days_in_month}
use Rattle.jiff_core.specs.Date.{epoch_day}
use Rattle.jiff_core.proofs.DateLemmas.{epoch_day_range}
use Rattle.jiff_core.proofs.SignedLemmas.{signed_arith}
use Rattle.oai_time.specs.Bound.{HasEachDate, midnight_of}
use Rattle.oai_time.specs.Calendar.{calendar_day}
use Rattle.oai_time.specs.TimeTexts.{date_text, day_text, seconds_of_era}
use Rattle.oai_time.proofs.BoundLemmas.{era, nonnegative}
use Rattle.oai_time.proofs.CalendarLemmas.{calendar_day-date, epoch_day_from_zero}
use Rattle.oai_time.proofs.ReadingLemmas.{midnight_in_range, same_parts}

-- the day with the number of a date is that date
pub day_is : (y m d n : ℕ) → y < 10_000 → IsInRange 1 12 m → IsInRange 1 (days_in_month (pos y) m) d → days_from_civil (pos y) m d +ℤ pos 719_528 ≡ pos n
    → calendar_day n ≡ record { year = y; month = m; day = d }
day_is y m d n year month day counted =
    let date : Date = record { year = pos y; month = m; day = d; year_in = omega (arith, signed_arith); month_in = month; day_in = day } in
    let parts = calendar_day-date date n counted in
    same_parts (calendar_day n) (record { year = y; month = m; day = d }) (omega (arith, signed_arith, parts.0)) (sym parts.1) (sym parts.2)

-- the day number of a date
record IsNumberOf (year month day : ℕ) : Type 0 where
  number : ℕ
  below : number < 3_652_425
  is : calendar_day number ≡ record { year = year; month = month; day = day }

number_of : (y m d : ℕ) → y < 10_000 → IsInRange 1 12 m → IsInRange 1 (days_in_month (pos y) m) d → IsNumberOf y m d
number_of y m d year month day =
    let date : Date = record { year = pos y; month = m; day = d; year_in = omega (arith, signed_arith); month_in = month; day_in = day } in
    let low = epoch_day_from_zero date (omega (arith, signed_arith)) in
    let high = epoch_day_range date in
    let n : ℕ = unsigned_abs (epoch_day date +ℤ pos 719_528) in
    let is : epoch_day date +ℤ pos 719_528 ≡ pos n = sym (nonnegative (epoch_day date +ℤ pos 719_528) (omega (arith, signed_arith, low))) in
    record {
      number = n;
      below = omega (arith, signed_arith, is, high);
      is = day_is y m d n year month day is;
    }

day_text-midnight_of : (n : ℕ) → n < 3_652_425 → day_text (midnight_of n) ≡ date_text (calendar_day n)
unfolding day_text
day_text-midnight_of n below =
    let days : seconds_of_era (midnight_of n) / 86_400 ≡ n = omega (arith, signed_arith, era (midnight_of n) (midnight_in_range n below).0) in
    ap (λ k. date_text (calendar_day k)) days

pub has_each_date : HasEachDate
has_each_date y m d year month day =
    let number = number_of y m d year month day in
    let n = number.number in
    (midnight_of n, record { in_range = midnight_in_range n number.below; written = sym (day_text-midnight_of n number.below ∙ ap date_text number.is) })
