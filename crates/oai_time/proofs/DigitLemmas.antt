-- Decimal digits give their number back.
use Rattle.std.proofs.Common.{◌≡◌, ℕ, ◌+◌, ◌-◌, ◌*◌, ◌<◌, min, arith}
use Rattle.oai_time.specs.TimeTexts.{digit}

-- the number that two bytes are read as
abbrev pub read_two : ℕ → ℕ → ℕ
read_two tens ones = 10 * min (tens - 48) 9 + min (ones - 48) 9

pub two_digits_back : (n : ℕ) → n < 100 → read_two (digit 10 n) (digit 1 n) ≡ n
two_digits_back n h = omega arith

pub four_digits_back : (n : ℕ) → n < 10_000 → 100 * read_two (digit 1000 n) (digit 100 n) + read_two (digit 10 n) (digit 1 n) ≡ n
four_digits_back n h = omega arith
