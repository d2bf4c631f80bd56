-- What the digits so far and one more write is at most what all of them write, and that has at most 19 digits.
use Rattle.std.proofs.Common.{◌≡◌, ℕ, ◌+◌, ◌*◌, ◌^◌, ◌<◌, ◌≤◌, true, List, length, get_or, take, arith}
use Rattle.std.specs.List.{list_all}
use Rattle.std.specs.Char.{digit_value, is_ascii_digit}
use Rattle.std.specs.Str.Parse.{digits_value}
use Rattle.std.proofs.lemmas.Bool.Decides.{nat_tests}
use Rattle.std.proofs.lemmas.Int.Digits.{digits_value_more}
use Rattle.std.proofs.lemmas.List.Sums.{AllPass-from_list_all}
use Rattle.std.proofs.lemmas.Str.Parse.{digits_value-take-le, digits_value_short, numerals_by_value, tells_all_ascii_digits}
use Rattle.oai_front.proofs.fields.number.Goals as goal

bounded : (ds : List ℕ) (i n : ℕ) → i < length ds → length ds ≤ 19 → list_all is_ascii_digit ds ≡ true → n ≡ digits_value 10 (take i ds)
    → n * 10 + digit_value (get_or ds i 0) < 2 ^ 64
bounded ds i n inside few digits so_far =
    omega (
      arith,
      digits_value_more 10 ds i inside,
      digits_value-take-le 10 ds (i + 1) (omega arith),
      digits_value_short (numerals_by_value _ tells_all_ascii_digits) ds 19 digits few,
      so_far,
    )

pub overflow_mul-number : goal.overflow_mul-number
overflow_mul-number c =
    omega (arith, bounded c.args.digits.now c.loop-digit.digit-index c.loop-digit.number c.loop-digit-test.true c.requires.few c.requires.digits c.loop-digit.invariant)

pub overflow_add-number : goal.overflow_add-number
overflow_add-number c =
    let passes = AllPass-from_list_all is_ascii_digit c.args.digits.now c.requires.digits c.loop-digit.digit-index 0 c.loop-digit-test.true in
    let digit : digit_value (get_or c.args.digits.now c.loop-digit.digit-index 0) ≡ c.from.result = grind (arith, nat_tests) in
    omega (arith, bounded c.args.digits.now c.loop-digit.digit-index c.loop-digit.number c.loop-digit-test.true c.requires.few c.requires.digits c.loop-digit.invariant)

pub loop-digit-preserved : goal.loop-digit-preserved
loop-digit-preserved c =
    let passes = AllPass-from_list_all is_ascii_digit c.args.digits.now c.requires.digits c.loop-digit.digit-index 0 c.loop-digit-test.true in
    let digit : digit_value (get_or c.args.digits.now c.loop-digit.digit-index 0) ≡ c.from.result = grind (arith, nat_tests) in
    omega (arith, digits_value_more 10 c.args.digits.now c.loop-digit.digit-index c.loop-digit-test.true, c.loop-digit.invariant)
