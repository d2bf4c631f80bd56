-- Short texts in documents: the names, addresses and URLs of a repository. The length is this repository's own.
use Rattle.std.specs.Prelude.{ℕ, Bool, ◌&&◌, nat_lt, nat_le, List, length}
use Rattle.oai_names.specs.Characters.{is_xml_text}
use Rattle.oai_item.specs.declared.short_texts.TheConstants.{MAX_SHORT_TEXT_BYTES}

-- a text of 1 to 512 bytes, of characters that a document may hold (XML 1.0, section 2.2)
unfoldable pub is_short_text : List ℕ → Bool
is_short_text text =
    nat_lt 0 (length text) && nat_le (length text) MAX_SHORT_TEXT_BYTES && is_xml_text text
