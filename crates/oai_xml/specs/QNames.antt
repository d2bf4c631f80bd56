-- Names. XML 1.0 (fifth edition), section 2.3; Namespaces in XML 1.0 (third edition), sections 3 and 4.
use Rattle.std.specs.Prelude.{ℕ, Bool, false, ◌==◌, ◌||◌, ◌&&◌, not, nat_le, nat_lt, List, [], ◌∷◌, length, codes, if◌then◌else◌}
use Rattle.std.specs.List.{list_all, position_or_len, before_first, after_first}
use Rattle.std.specs.Int.{is_in_range}
use Rattle.std.specs.Char.{is_ascii_alphabetic, is_ascii_alphanumeric}
use Rattle.std.specs.Str.{chars, is_utf8}
use Rattle.oai_names.specs.Names.{is_one_of, is_colon}

-- [4] NameStartChar ::= ":" | [A-Z] | "_" | [a-z] | [#xC0-#xD6] | [#xD8-#xF6] | [#xF8-#x2FF] | [#x370-#x37D] | [#x37F-#x1FFF]
--     | [#x200C-#x200D] | [#x2070-#x218F] | [#x2C00-#x2FEF] | [#x3001-#xD7FF] | [#xF900-#xFDCF] | [#xFDF0-#xFFFD] | [#x10000-#xEFFFF]
-- without the colon, which no NCName has
abbrev pub is_ascii_start : ℕ → Bool
is_ascii_start c = is_ascii_alphabetic c || c == 95

abbrev pub is_wide_start : ℕ → Bool
is_wide_start c =
    is_in_range 0xC0 0xD6 c || is_in_range 0xD8 0xF6 c || is_in_range 0xF8 0x2FF c || is_in_range 0x370 0x37D c
    || is_in_range 0x37F 0x1FFF c || is_in_range 0x200C 0x200D c || is_in_range 0x2070 0x218F c || is_in_range 0x2C00 0x2FEF c
    || is_in_range 0x3001 0xD7FF c || is_in_range 0xF900 0xFDCF c || is_in_range 0xFDF0 0xFFFD c || is_in_range 0x10000 0xEFFFF c

abbrev pub is_start_char : ℕ → Bool
is_start_char c = is_ascii_start c || is_wide_start c

-- [4a] NameChar ::= NameStartChar | "-" | "." | [0-9] | #xB7 | [#x0300-#x036F] | [#x203F-#x2040], without the colon
abbrev pub is_ascii_further : ℕ → Bool
is_ascii_further c = is_ascii_start c || c == 45 || c == 46 || is_in_range 48 57 c

abbrev pub is_further_char : ℕ → Bool
is_further_char c = is_ascii_further c || (is_wide_start c || c == 0xB7 || is_in_range 0x300 0x36F c || is_in_range 0x203F 0x2040 c)

-- a byte that a name may hold, a colon too: one of the above in ASCII, or any byte of a character beyond it
abbrev pub is_name_byte : ℕ → Bool
is_name_byte b = is_ascii_alphanumeric b || is_one_of (codes "-._:") b || nat_le 128 b

-- [5] Name ::= NameStartChar (NameChar)*, of characters without a colon
abbrev pub are_name_chars : List ℕ → Bool
are_name_chars [] = false
are_name_chars (c ∷ cs) = is_start_char c && list_all is_further_char cs

-- [NS 4] NCName ::= Name - (Char* ':' Char*)
unfoldable pub is_ncname : List ℕ → Bool
is_ncname name = is_utf8 name && are_name_chars (chars name)

-- the name has a prefix: a colon stands in it
abbrev pub is_prefixed : List ℕ → Bool
is_prefixed name = nat_lt (position_or_len is_colon name) (length name)

-- [NS 10] Prefix: what stands before the first colon, if there is one
unfoldable pub prefix_of : List ℕ → List ℕ
prefix_of name = if is_prefixed name then before_first is_colon name else []

-- [NS 11] LocalPart: what stands behind it, or the whole name
unfoldable pub local_of : List ℕ → List ℕ
local_of name = if is_prefixed name then after_first is_colon name else name

-- [NS 7] QName ::= PrefixedName | UnprefixedName; [NS 8] PrefixedName ::= Prefix ':' LocalPart; [NS 9] UnprefixedName ::= LocalPart
unfoldable pub is_qname : List ℕ → Bool
is_qname name = list_all is_name_byte name && (not (is_prefixed name) || is_ncname (prefix_of name)) && is_ncname (local_of name)
