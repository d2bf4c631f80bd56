-- The characters of a document. XML 1.0, section 2.2.
use Rattle.std.specs.Prelude.{ℕ, Bool, ◌==◌, ◌||◌, List}
use Rattle.std.specs.Int.{is_in_range}
use Rattle.std.specs.List.{list_all}
use Rattle.std.specs.Str.{chars}

-- Char ::= #x9 | #xA | #xD | [#x20-#xD7FF] | [#xE000-#xFFFD] | [#x10000-#x10FFFF]
abbrev pub is_xml_char : ℕ → Bool
is_xml_char c =
    c == 0x9 || c == 0xA || c == 0xD
    || is_in_range 0x20 0xD7FF c || is_in_range 0xE000 0xFFFD c || is_in_range 0x10000 0x10FFFF c

-- each character of the text may stand in a document
unfoldable pub is_xml_text : List ℕ → Bool
is_xml_text text = list_all is_xml_char (chars text)
