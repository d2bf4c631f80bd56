use Rattle.std.proofs.Common.{◌/◌, ◌%◌, ◌∙◌, arith}
use Rattle.oai_time.specs.TimeTexts.{time_text}
use Rattle.oai_time.proofs.DigitLemmas.{two_digits_back}
use Rattle.oai_time.proofs.bound.second_of_day.Goals as goal

pub returns-clause-only : goal.returns-clause-only
unfolding time_text
returns-clause-only c second below written =
    let hour = rw written at c.two_digits-hour.ensures.value ∙ two_digits_back (second / 3600) (omega arith) in
    let minute = rw written at c.two_digits-minute.ensures.value ∙ two_digits_back (second / 60 % 60) (omega arith) in
    let last = rw written at c.two_digits-second.ensures.value ∙ two_digits_back (second % 60) (omega arith) in
    omega (arith, hour, minute, last)
