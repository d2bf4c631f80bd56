use Rattle.std.proofs.Common.{rules, ◌≡◌, pos, ◌∙◌, arith, to_z, w64}
use Rattle.std.proofs.lemmas.Int.{ints}
use Rattle.jiff_core.specs.declared.civil.date.Date.{Date}
use Rattle.jiff.proofs.SpanFacts.{signed_arith, date_add-days, can_add-days}
use Rattle.oai_time.specs.Calendar.{calendar_day}
use Rattle.oai_time.proofs.CalendarLemmas.{days_from_civil-zero, calendar_day-date}
use Rattle.oai_time.proofs.text.date_after.Goals as goal

-- what `Date::ZERO` is
first_date : Date
first_date = record { year = pos 0; month = 1; day = 1; year_in = search rules; month_in = search rules; day_in = search rules }

pub unwrap-requires : goal.unwrap-requires
unfolding first_date
unwrap-requires c =
    let n : to_z w64 c.args.days ≡ pos c.args.days = omega (arith, ints) in
    c.checked_add.ensures.succeeds.1
    ((can_add-days first_date _ c.days.result c.days.ensures).1 (rw (n, days_from_civil-zero) (omega (arith, signed_arith))))

-- the date that the addition gave has its day number, and so its parts
parts : (c : goal.After-unwrap) → (c.unwrap.result.year ≡ pos (calendar_day c.args.days).year) × (c.unwrap.result.month ≡ (calendar_day c.args.days).month) × (c.unwrap.result.day ≡ (calendar_day c.args.days).day)
unfolding first_date
parts c =
    let n : to_z w64 c.args.days ≡ pos c.args.days = omega (arith, ints) in
    let added = rw c.unwrap.ensures at c.checked_add.ensures.value in
    let moved = added ∙ date_add-days first_date _ c.days.result c.days.ensures in
    let counted = rw (n, days_from_civil-zero) at moved in
    calendar_day-date c.unwrap.result c.args.days (omega (arith, signed_arith, counted))

pub returns-clause-year : goal.returns-clause-year
returns-clause-year c = (parts c).0

pub returns-clause-month : goal.returns-clause-month
returns-clause-month c = (parts c).1

pub returns-clause-day : goal.returns-clause-day
returns-clause-day c = (parts c).2
