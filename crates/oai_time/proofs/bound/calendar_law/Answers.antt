use Rattle.std.proofs.Common.{◌≡◌, codes, arith, pos, neg_ℤ}
use Rattle.jiff_core.proofs.CalendarLemmas.{day_count-epoch, days_from_civil-day_count}
use Rattle.jiff_core.proofs.DateLemmas.{days_from_civil-max}
use Rattle.jiff_core.proofs.SignedLemmas.{signed_arith}
use Rattle.oai_time.specs.TimeTexts.{date_text, second_text, time_text}
use Rattle.oai_time.proofs.CalendarLemmas.{days_from_civil-zero}
use Rattle.oai_time.proofs.DateLemmas.{day_is, has_each_date}
use Rattle.oai_time.proofs.SecondTexts.{days_from_civil-9998, text_at}
use Rattle.oai_time.proofs.bound.calendar_law.Goals as goal

epoch_text : second_text (pos 0) ≡ codes "1970-01-01T00:00:00Z"
unfolding date_text time_text
epoch_text =
    let day = day_is 1970 1 1 719_528 (omega arith) (omega arith) (omega arith) (omega (arith, signed_arith, days_from_civil-day_count, day_count-epoch)) in
    text_at (pos 0) 719_528 0 (record { year = 1970; month = 1; day = 1 }) (omega (arith, signed_arith)) (omega arith) (omega arith) day

first_text : second_text (neg_ℤ (pos 62_167_219_200)) ≡ codes "0000-01-01T00:00:00Z"
unfolding date_text time_text
first_text =
    let day = day_is 0 1 1 0 (omega arith) (omega arith) (omega arith) (omega (arith, signed_arith, days_from_civil-zero)) in
    text_at (neg_ℤ (pos 62_167_219_200)) 0 0 (record { year = 0; month = 1; day = 1 }) (omega (arith, signed_arith)) (omega arith) (omega arith) day

last_text : second_text (pos 253_402_300_799) ≡ codes "9999-12-31T23:59:59Z"
unfolding date_text time_text
last_text =
    let day = day_is 9999 12 31 3_652_424 (omega arith) (omega arith) (omega arith) (omega (arith, signed_arith, days_from_civil-max)) in
    text_at (pos 253_402_300_799) 3_652_424 86_399 (record { year = 9999; month = 12; day = 31 }) (omega (arith, signed_arith)) (omega arith) (omega arith) day

last_tick_text : second_text (pos 253_370_764_799) ≡ codes "9998-12-31T23:59:59Z"
unfolding date_text time_text
last_tick_text =
    let day = day_is 9998 12 31 3_652_059 (omega arith) (omega arith) (omega arith) (omega (arith, signed_arith, days_from_civil-9998)) in
    text_at (pos 253_370_764_799) 3_652_059 86_399 (record { year = 9998; month = 12; day = 31 }) (omega (arith, signed_arith)) (omega arith) (omega arith) day

pub returns-clause-dates : goal.returns-clause-dates
returns-clause-dates c = has_each_date

pub returns-clause-epoch : goal.returns-clause-epoch
returns-clause-epoch c = epoch_text

pub returns-clause-first : goal.returns-clause-first
returns-clause-first c = first_text

pub returns-clause-last : goal.returns-clause-last
returns-clause-last c = last_text

pub returns-clause-last_tick : goal.returns-clause-last_tick
returns-clause-last_tick c = last_tick_text
