-- What a text that stands for a bound looks like, by its length.
use Rattle.std.proofs.Common.{◌≡◌, ℕ, ◌/◌, ◌%◌, ◌<◌, List, length, take, drop, refl, ap, ◌∙◌, arith, ℤ, pos, negsuc, ◌+ℤ◌, ◌≤ℤ◌, unsigned_abs}
use Rattle.jiff_core.proofs.SignedLemmas.{signed_arith, int_rem_euclid-parts}
use Rattle.oai_time.specs.declared.bound.Bound.{Bound}
use Rattle.oai_time.specs.declared.bound.Bound.TheVariants.{Day as WholeDay, Second as OneSecond}
use Rattle.oai_time.specs.declared.granularity.Granularity.TheVariants.{Day}
use Rattle.oai_time.specs.Bound.{IsBound, IsMidnight, midnight_of}
use Rattle.oai_time.specs.Calendar.{calendar_day}
use Rattle.oai_time.specs.Stamp.{IsWritable, stamp_of}
use Rattle.oai_time.proofs.StampLemmas.{stamp_of-in_range}
use Rattle.oai_time.specs.TimeTexts.{date_text, time_text, day_text, second_text, seconds_of_era}

pub length-day_text : (t : ℤ) → length (day_text t) ≡ 10
unfolding day_text date_text
length-day_text t = refl

pub length-second_text : (t : ℤ) → length (second_text t) ≡ 20
unfolding second_text day_text date_text time_text
length-second_text t = refl

pub nonnegative : (z : ℤ) → pos 0 ≤ℤ z → pos (unsigned_abs z) ≡ z
nonnegative (pos n) h = refl
nonnegative (negsuc n) h = absurd (omega (arith, signed_arith))

-- the seconds since 0000-01-01 are what they are called
pub era : (t : ℤ) → IsWritable t → pos (seconds_of_era t) ≡ t +ℤ pos 62_167_219_200
era t h = nonnegative (t +ℤ pos 62_167_219_200) (omega (arith, signed_arith))

-- the day of a time, counted from 0000-01-01, is below that of 10000-01-01
pub day_below : (t : ℤ) → IsWritable t → seconds_of_era t / 86_400 < 3_652_425
day_below t h = omega (arith, signed_arith, era t h)

pub midnight_is : (t : ℤ) → IsMidnight t → t ≡ midnight_of (seconds_of_era t / 86_400)
midnight_is t h = omega (arith, signed_arith, era t h.0, int_rem_euclid-parts t 86_400, h.0, h.1)

second_is : (t : ℤ) → IsWritable t → t ≡ midnight_of (seconds_of_era t / 86_400) +ℤ pos (seconds_of_era t % 86_400)
second_is t h = omega (arith, signed_arith, era t h)

-- ten bytes stand for the day with some number
pub record IsDayBound (text : List ℕ) (bound : Bound) : Type 0 where
  pub days : ℕ
  pub below : days < 3_652_425
  pub written : text ≡ date_text (calendar_day days)
  pub is : bound ≡ WholeDay (midnight_of days)

pub by_ten : (text : List ℕ) (bound : Bound) → length text ≡ 10 → IsBound text bound → IsDayBound text bound
unfolding day_text
by_ten text (WholeDay t) len b = record {
  days = seconds_of_era t / 86_400;
  below = day_below t b.in_range.0;
  written = b.written;
  is = ap WholeDay (midnight_is t b.in_range);
}
by_ten text (OneSecond t) len b = absurd (omega (arith, len, ap length b.written, length-second_text t))

-- twenty bytes stand for a second of the day with some number
pub record IsSecondBound (text : List ℕ) (bound : Bound) : Type 0 where
  pub days : ℕ
  pub second : ℕ
  pub below : days < 3_652_425
  pub within : second < 86_400
  pub date : take 10 text ≡ date_text (calendar_day days)
  pub time : drop 10 text ≡ time_text second
  pub is : bound ≡ OneSecond (midnight_of days +ℤ pos second)

-- the day stands in front of the text of the second
pub day_in_second : (t : ℤ) → take 10 (second_text t) ≡ day_text t
unfolding second_text day_text date_text time_text
day_in_second t = refl

pub whole_second : (t : ℤ) → take 20 (second_text t) ≡ second_text t
unfolding second_text day_text date_text time_text
whole_second t = refl

front-second_text : (t : ℤ) → take 10 (second_text t) ≡ date_text (calendar_day (seconds_of_era t / 86_400))
unfolding second_text day_text date_text time_text
front-second_text t = refl

back-second_text : (t : ℤ) → drop 10 (second_text t) ≡ time_text (seconds_of_era t % 86_400)
unfolding second_text day_text date_text time_text
back-second_text t = refl

pub by_twenty : (text : List ℕ) (bound : Bound) → length text ≡ 20 → IsBound text bound → IsSecondBound text bound
by_twenty text (WholeDay t) len b = absurd (omega (arith, len, ap length b.written, length-day_text t))
by_twenty text (OneSecond t) len b = record {
  days = seconds_of_era t / 86_400;
  second = seconds_of_era t % 86_400;
  below = day_below t b.in_range;
  within = omega arith;
  date = ap (take 10) b.written ∙ front-second_text t;
  time = ap (drop 10) b.written ∙ back-second_text t;
  is = ap OneSecond (second_is t b.in_range);
}

-- and no others stand for a bound
pub by_no_other : (text : List ℕ) (bound : Bound) → (length text ≡ 10 → ⊥) → (length text ≡ 20 → ⊥) → IsBound text bound → ⊥
by_no_other text (WholeDay t) ten twenty b = ten (ap length b.written ∙ length-day_text t)
by_no_other text (OneSecond t) ten twenty b = twenty (ap length b.written ∙ length-second_text t)

-- the text of a day is that of its midnight
pub day_text-stamp_of : (t : ℤ) → IsWritable t → day_text t ≡ day_text (stamp_of Day t)
unfolding day_text
day_text-stamp_of t h =
    let day : seconds_of_era t / 86_400 ≡ seconds_of_era (stamp_of Day t) / 86_400 = omega (arith, signed_arith, era t h, era (stamp_of Day t) (stamp_of-in_range Day t h), int_rem_euclid-parts t 86_400) in
    ap (λ n. date_text (calendar_day n)) day

pub stamp_of-IsMidnight : (t : ℤ) → IsWritable t → IsMidnight (stamp_of Day t)
stamp_of-IsMidnight t h =
    (omega (arith, signed_arith, int_rem_euclid-parts t 86_400), omega (arith, signed_arith, int_rem_euclid-parts t 86_400, int_rem_euclid-parts (stamp_of Day t) 86_400))

pub IsBound-day_text : (t : ℤ) → IsWritable t → IsBound (day_text t) (WholeDay (stamp_of Day t))
IsBound-day_text t h = record { in_range = stamp_of-IsMidnight t h; written = day_text-stamp_of t h }
