-- Times and numbers, as they are printed, have neither a quote nor markup in them.
use Rattle.std.proofs.Common.{◌≡◌, ◌∙◌, ℕ, ℤ, zero, suc, ◌+◌, ◌<◌, ◌%◌, ◌/◌, Bool, true, false, not, eqb, cond, List, [], ◌∷◌, ◌++◌, codes, refl, arith}
use Rattle.std.specs.Prelude.{nat_lt}
use Rattle.std.specs.Fmt as fmt
use Rattle.std.specs.Fmt.{decimal, digit_glyph, digits_onto}
use Rattle.std.proofs.Math.Nat.{mod-lt}
use Rattle.std.proofs.lemmas.Bool.{and_from, cond_both, lt-ltb}
use Rattle.std.proofs.lemmas.Bool.Decides.{nat_tests}
use Rattle.std.proofs.lemmas.List.Folds.{list_all-append}
use Rattle.oai_names.proofs.Cuts.{lacks}
use Rattle.oai_time.specs.Calendar.{CalendarDay, calendar_day}
use Rattle.oai_time.specs.TimeTexts.{date_text, datestamp_text, day_text, digit, four_digits, second_text, seconds_of_era, time_text, two_digits}
use Rattle.oai_time.specs.declared.granularity.Granularity.{Granularity}
use Rattle.oai_time.specs.declared.granularity.Granularity.TheVariants.{Day, Second}

-- the byte is no digit, and none of those that stand between digits
pub record IsNoTime (q : ℕ) : Type 0 where
  pub digit : (d : ℕ) → d < 10 → not (eqb (48 + d) q) ≡ true
  pub dash : lacks q (codes "-") ≡ true
  pub letter_t : lacks q (codes "T") ≡ true
  pub colon : lacks q (codes ":") ≡ true
  pub letter_z : lacks q (codes "Z") ≡ true

pub quote_is : IsNoTime 34
quote_is = record { digit = λ d small. far d small; dash = refl; letter_t = refl; colon = refl; letter_z = refl }
  where
    far : (d : ℕ) → d < 10 → not (eqb (48 + d) 34) ≡ true
    far d small = grind (arith, nat_tests)

pub angle_is : IsNoTime 60
angle_is = record { digit = λ d small. far d small; dash = refl; letter_t = refl; colon = refl; letter_z = refl }
  where
    far : (d : ℕ) → d < 10 → not (eqb (48 + d) 60) ≡ true
    far d small = grind (arith, nat_tests)

-- ---- times

joined : (q : ℕ) (xs ys : List ℕ) → lacks q xs ≡ true → lacks q ys ≡ true → lacks q (xs ++ ys) ≡ true
joined q xs ys h g = list_all-append (λ x. not (eqb x q)) xs ys ∙ and_from (lacks q xs) (lacks q ys) h g

one_digit : (q : ℕ) → IsNoTime q → (place n : ℕ) → not (eqb (digit place n) q) ≡ true
one_digit q is place n = is.digit (n / place % 10) (mod-lt (n / place) (omega arith))

two : (q : ℕ) → IsNoTime q → (n : ℕ) → lacks q (two_digits n) ≡ true
two q is n = rw (one_digit q is 10 n, one_digit q is 1 n) refl

four : (q : ℕ) → IsNoTime q → (n : ℕ) → lacks q (four_digits n) ≡ true
four q is n = rw (one_digit q is 1000 n, one_digit q is 100 n, one_digit q is 10 n, one_digit q is 1 n) refl

date_lacks : (q : ℕ) → IsNoTime q → (d : CalendarDay) → lacks q (date_text d) ≡ true
unfolding date_text
date_lacks q is d =
    joined q (((four_digits d.year ++ codes "-") ++ two_digits d.month) ++ codes "-") (two_digits d.day)
    (joined q ((four_digits d.year ++ codes "-") ++ two_digits d.month) (codes "-")
    (joined q (four_digits d.year ++ codes "-") (two_digits d.month) (joined q (four_digits d.year) (codes "-") (four q is d.year) is.dash) (two q is d.month)) is.dash)
    (two q is d.day)

time_lacks : (q : ℕ) → IsNoTime q → (s : ℕ) → lacks q (time_text s) ≡ true
unfolding time_text
time_lacks q is s =
    let hours : List ℕ = codes "T" ++ two_digits (s / 3600) in
    let minutes : List ℕ = hours ++ codes ":" ++ two_digits (s / 60 % 60) in
    let hours_lack : lacks q hours ≡ true = joined q (codes "T") (two_digits (s / 3600)) is.letter_t (two q is (s / 3600)) in
    let minutes_lack : lacks q minutes ≡ true =
    joined q (hours ++ codes ":") (two_digits (s / 60 % 60)) (joined q hours (codes ":") hours_lack is.colon) (two q is (s / 60 % 60))
    in
    joined q (minutes ++ codes ":" ++ two_digits (s % 60)) (codes "Z")
    (joined q (minutes ++ codes ":") (two_digits (s % 60)) (joined q minutes (codes ":") minutes_lack is.colon) (two q is (s % 60))) is.letter_z

day_lacks : (q : ℕ) → IsNoTime q → (seconds : ℤ) → lacks q (day_text seconds) ≡ true
unfolding day_text
day_lacks q is seconds = date_lacks q is (calendar_day (seconds_of_era seconds / 86_400))

pub second_lacks : (q : ℕ) → IsNoTime q → (seconds : ℤ) → lacks q (second_text seconds) ≡ true
unfolding second_text
second_lacks q is seconds = joined q (day_text seconds) (time_text (seconds_of_era seconds % 86_400)) (day_lacks q is seconds) (time_lacks q is (seconds_of_era seconds % 86_400))

pub datestamp_lacks : (q : ℕ) → IsNoTime q → (granularity : Granularity) (seconds : ℤ) → lacks q (datestamp_text granularity seconds) ≡ true
datestamp_lacks q is Day seconds = day_lacks q is seconds
datestamp_lacks q is Second seconds = second_lacks q is seconds

-- ---- numbers

glyph_lacks : (q : ℕ) → IsNoTime q → (n : ℕ) → not (eqb (digit_glyph false (n % 10)) q) ≡ true
glyph_lacks q is n = by_size (n % 10) (mod-lt n (omega arith)) (nat_lt (n % 10) 10) (lt-ltb (n % 10) 10 (mod-lt n (omega arith)))
  where
    by_size : (d : ℕ) → d < 10 → (b : Bool) → b ≡ true → not (eqb (cond b (48 + d) (87 + d)) q) ≡ true
    by_size d small true h = is.digit d small
    by_size d small false h = cc

digits_lack : (q : ℕ) → IsNoTime q → (k n : ℕ) (acc : List ℕ) → lacks q acc ≡ true → lacks q (digits_onto k 10 false n acc) ≡ true
digits_lack q is zero n acc h = h
digits_lack q is (suc k) n acc h =
    let more : lacks q (digit_glyph false (n % 10) ∷ acc) ≡ true = and_from (not (eqb (digit_glyph false (n % 10)) q)) (lacks q acc) (glyph_lacks q is n) h in
    cond_both (eqb (n / 10) 0) (digit_glyph false (n % 10) ∷ acc) (digits_onto k 10 false (n / 10) (digit_glyph false (n % 10) ∷ acc)) (λ ds. lacks q ds ≡ true)
    (λ _. more) (λ _. digits_lack q is k (n / 10) (digit_glyph false (n % 10) ∷ acc) more)

pub decimal_lacks : (q : ℕ) → IsNoTime q → (n : ℕ) → lacks q (decimal n) ≡ true
unfolding fmt.digits
decimal_lacks q is n = digits_lack q is 64 n [] refl
