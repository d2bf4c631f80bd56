-- The text of a second, by the date and the time of day that it is.
use Rattle.std.proofs.Common.{◌≡◌, ◌∙◌, ℕ, ◌+◌, ◌*◌, ◌/◌, ◌%◌, ◌<◌, ◌++◌, refl, ap, arith, ℤ, pos}
use Rattle.jiff_core.specs.Calendar.{days_from_civil}
use Rattle.jiff_core.proofs.CalendarLemmas.{day_count-end, day_count-last_of_year, day_count-next_year, days_from_civil-day_count}
use Rattle.jiff_core.proofs.SignedLemmas.{signed_arith}
use Rattle.oai_time.specs.Bound.{second_after}
use Rattle.oai_time.specs.Calendar.{CalendarDay, calendar_day}
use Rattle.oai_time.specs.Stamp.{IsWritable}
use Rattle.oai_time.specs.TimeTexts.{date_text, day_text, second_text, seconds_of_era, time_text}
use Rattle.oai_time.proofs.BoundLemmas.{era}

-- the text of the second that lies so many after the midnight of a day
second_text-of_day : (n s : ℕ) → n < 3_652_425 → s < 86_400 → second_text (second_after (86_400 * n + s)) ≡ date_text (calendar_day n) ++ time_text s
unfolding second_text day_text
second_text-of_day n s below within =
    let t = second_after (86_400 * n + s) in
    let in_range : IsWritable t = omega (arith, signed_arith) in
    let day : seconds_of_era t / 86_400 ≡ n = omega (arith, signed_arith, era t in_range) in
    let second : seconds_of_era t % 86_400 ≡ s = omega (arith, signed_arith, era t in_range) in
    ap (λ (k : ℕ). date_text (calendar_day k) ++ time_text (seconds_of_era t % 86_400)) day ∙ ap (λ (k : ℕ). date_text (calendar_day n) ++ time_text k) second

pub text_at : (t : ℤ) (n s : ℕ) (date : CalendarDay) → t ≡ second_after (86_400 * n + s) → n < 3_652_425 → s < 86_400 → calendar_day n ≡ date → second_text t ≡ date_text date ++ time_text s
text_at t n s date is below within day = ap second_text is ∙ second_text-of_day n s below within ∙ ap (λ (c : CalendarDay). date_text c ++ time_text s) day

pub days_from_civil-9998 : days_from_civil (pos 9998) 12 31 ≡ pos 2_932_531
days_from_civil-9998 =
    let next = day_count-next_year (pos 9998) (pos 9999) (omega (arith, signed_arith)) refl in
    let last = day_count-next_year (pos 9999) (pos 10000) (omega (arith, signed_arith)) refl in
    omega (arith, signed_arith, days_from_civil-day_count, day_count-end, day_count-last_of_year (pos 9998), next, last)
