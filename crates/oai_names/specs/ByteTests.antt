-- Definitions of the code's own: no public contract cites them.
use Rattle.std.specs.Prelude.{ℕ, Bool, true, ◌==◌, ◌&&◌, ◌||◌, not, nat_lt, List, [], ◌∷◌}
use Rattle.std.specs.Int.{is_in_range}
use Rattle.oai_names.specs.Names.{is_colon}

-- a part of a path ends where these bytes begin
abbrev pub ends_part : List ℕ → Bool
ends_part [] = true
ends_part (b ∷ bytes) = is_colon b

-- the byte is an ASCII character that documents may hold: one from the space on, tab, LF or CR
abbrev pub is_plain_byte : ℕ → Bool
is_plain_byte b = is_in_range 0x20 0x7F b || b == 0x9 || b == 0xA || b == 0xD

-- the byte stands for itself in an element: it is neither markup nor CR
abbrev pub is_bare_byte : ℕ → Bool
is_bare_byte b = not (b == 38) && not (b == 60) && not (b == 62) && not (b == 13)

-- the byte stands for itself in the value of an attribute, behind `&` (38) in ASCII: it is no markup, and neither white
-- space nor the quote
abbrev pub is_bare_in_value : ℕ → Bool
is_bare_in_value b = nat_lt 38 b && not (b == 60) && not (b == 62)
