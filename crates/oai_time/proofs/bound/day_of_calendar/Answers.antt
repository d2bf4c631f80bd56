use Rattle.std.proofs.Common.{rules, ◌≡◌, pos, neg_ℤ, ◌+ℤ◌, ◌≤ℤ◌, ap, arith, ◌∙◌, to_z, of_z, w8, w16, w32, unsigned_abs}
use Rattle.std.specs.Prelude.{Some}
use Rattle.std.proofs.lemmas.Int.{ints}
use Rattle.jiff_core.specs.Date.{epoch_day}
use Rattle.jiff.proofs.SpanFacts.{signed_arith}
use Rattle.oai_time.proofs.CalendarLemmas.{calendar_day-IsDate, epoch_day-calendar_day, epoch_day_from_zero}
use Rattle.oai_time.proofs.bound.day_of_calendar.Goals as goal

pub returns-in_default-clause-only : goal.returns-in_default-clause-only
returns-in_default-clause-only c days e =
    let year : to_z w16 c.args.year ≡ pos c.args.year = omega (arith, ints, c.requires.year_in) in
    let month : to_z w8 c.args.month ≡ pos c.args.month = omega (arith, ints, c.requires.month_in) in
    let day : to_z w8 c.args.day ≡ pos c.args.day = omega (arith, ints, c.requires.day_in) in
    let accepted = c.in_default.ensures.succeeds.1 (rw (year, month, day) (calendar_day-IsDate days c.args.year c.args.month c.args.day c.requires.year_in e)) in
    cc accepted

-- the day number of the date that `jiff` made, and where it begins
number_is : (c : goal.After-to_unix_epoch_day) → (c.to_unix_epoch_day.result ≡ epoch_day c.in-Ok.date) × (neg_ℤ (pos 719_528) ≤ℤ c.to_unix_epoch_day.result)
number_is c =
    let is = c.to_unix_epoch_day.ensures.value ∙ ap epoch_day c.to_plain.ensures in
    let year : to_z w16 c.args.year ≡ pos c.args.year = omega (arith, ints, c.requires.year_in) in
    let year_is = c.in-Ok.ensures.value.0 ∙ year in
    let from_zero = epoch_day_from_zero c.in-Ok.date (rw year_is (omega (arith, ints))) in
    (is, rw is from_zero)

pub overflow_cast-result : goal.overflow_cast-result
overflow_cast-result c = let low = (number_is c).1 in search rules

pub returns-clause-only : goal.returns-clause-only
returns-clause-only c days e =
    let year : to_z w16 c.args.year ≡ pos c.args.year = omega (arith, ints, c.requires.year_in) in
    let made = c.in-Ok.ensures.value in
    let month : c.in-Ok.date.month ≡ c.args.month = omega (arith, ints, made.1, c.requires.month_in) in
    let day : c.in-Ok.date.day ≡ c.args.day = omega (arith, ints, made.2, c.requires.day_in) in
    let counted = epoch_day-calendar_day c.in-Ok.date days c.args.year c.args.month c.args.day (made.0 ∙ year) month day e in
    let number : to_z w32 (of_z w32 (to_z w32 (of_z w32 c.to_unix_epoch_day.result) +ℤ pos 719_528)) ≡ pos days =
    omega (arith, signed_arith, (number_is c).0, counted) in
    ap (λ z. Some (unsigned_abs z)) number
