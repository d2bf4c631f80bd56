-- Words of the code's own, on names of ASCII: no public contract names them.
use Rattle.std.specs.Prelude.{ℕ, Bool, false, ◌&&◌, List, [], ◌∷◌}
use Rattle.std.specs.List.{list_all}
use Rattle.oai_xml.specs.QNames.{is_ascii_start, is_ascii_further, is_start_char}

-- a name of characters of ASCII
abbrev pub is_ascii_ncname : List ℕ → Bool
is_ascii_ncname [] = false
is_ascii_ncname (b ∷ bytes) = is_ascii_start b && list_all is_ascii_further bytes

-- the first character may begin a name
abbrev pub starts_name : List ℕ → Bool
starts_name [] = false
starts_name (c ∷ cs) = is_start_char c
