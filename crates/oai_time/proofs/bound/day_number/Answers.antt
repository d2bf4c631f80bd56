use Rattle.std.proofs.Common.{◌≡◌, ◌+◌, ◌*◌, ◌∙◌, refl}
use Rattle.oai_time.specs.Calendar.{calendar_day}
use Rattle.oai_time.specs.TimeTexts.{date_text}
use Rattle.oai_time.proofs.CalendarLemmas.{calendar_day_bounds}
use Rattle.oai_time.proofs.DigitLemmas.{two_digits_back, four_digits_back}
use Rattle.oai_time.proofs.bound.day_number.Goals as goal

pub returns-clause-only : goal.returns-clause-only
unfolding date_text
returns-clause-only c days below written =
    let bounds = calendar_day_bounds days below in
    let century = rw written at c.two_digits.ensures.value in
    let rest = rw written at c.two_digits-2.ensures.value in
    let year : 100 * c.two_digits.result + c.two_digits-2.result ≡ (calendar_day days).year =
    rw (century, rest) (four_digits_back (calendar_day days).year bounds.0) in
    let month = rw written at c.two_digits-month.ensures.value ∙ two_digits_back (calendar_day days).month bounds.1 in
    let day = rw written at c.two_digits-day.ensures.value ∙ two_digits_back (calendar_day days).day bounds.2 in
    c.day_of_calendar.ensures.only days (rw (year, month, day) refl)
