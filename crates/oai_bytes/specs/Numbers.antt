-- Numbers and moments, as lines, log records and arguments spell them. This repository's own.
use Rattle.std.specs.Prelude.{ℕ, ◌+◌, ◌^◌, ◌==◌, ℤ, pos, neg_ℤ, ◌&&◌, nat_lt, List, length, drop, slice_index, Option, Some, None, if◌then◌else◌}
use Rattle.std.specs.Option.{option_map}
use Rattle.std.specs.Str.{all_ascii_digits}
use Rattle.std.specs.Str.Parse.{digits_value}

-- decimal digits, one or more, of a number below the limit
unfoldable pub numeral_below : ℕ → List ℕ → Option ℕ
numeral_below limit text =
    if all_ascii_digits text && nat_lt 0 (length text) && nat_lt (digits_value 10 text) limit then Some (digits_value 10 text) else None

-- a number of 64 bits
abbrev pub number_in : List ℕ → Option ℕ
number_in text = numeral_below (2 ^ 64) text

-- a moment, `-?[0-9]+`, in seconds from 1970 on, from -2^63 to 2^63 - 1; a minus is byte 45
unfoldable pub moment_of : List ℕ → Option ℤ
moment_of text =
    if slice_index text 0 == 45 then option_map (λ n. neg_ℤ (pos n)) (numeral_below (2 ^ 63 + 1) (drop 1 text))
    else option_map pos (numeral_below (2 ^ 63) text)
