-- What the description of a metadata format may say. OAI-PMH 2.0, section 3.4, and XML 1.0.
use Rattle.std.specs.Prelude.{ℕ, Bool, false, ◌==◌, ◌||◌, ◌&&◌, not, nat_le, List, [], ◌∷◌, length, codes}
use Rattle.std.specs.List.{list_all, list_any}
use Rattle.std.specs.Char.{is_ascii_alphabetic, is_ascii_alphanumeric}
use Rattle.std.specs.Str.{bytes_eq}
use Rattle.oai_names.specs.Names.{is_name_of, is_one_of}
use Rattle.oai_item.specs.ShortTexts.{is_short_text}
use Rattle.oai_item.specs.declared.formats.Format.{Format}

-- a character of an element's name after its first (XML 1.0, section 2.3, NameChar): of those in ASCII, all but the
-- colon (Namespaces in XML 1.0, section 3, NCName), so a letter, a digit, `-`, `_` or `.`
abbrev pub is_element_name_byte : ℕ → Bool
is_element_name_byte b = is_ascii_alphanumeric b || is_one_of (codes "-_.") b

-- the first character (XML 1.0, section 2.3, NameStartChar): of those in ASCII, all but the colon (Namespaces in XML
-- 1.0, section 3, NCName), so a letter or `_`
abbrev pub is_first_byte : ℕ → Bool
is_first_byte b = is_ascii_alphabetic b || b == 95

-- an element's name (XML 1.0, section 2.3, Name): a first character, then any number of the others
unfoldable pub is_element_name : List ℕ → Bool
is_element_name [] = false
is_element_name (b ∷ bytes) = is_first_byte b && list_all is_element_name_byte bytes

-- an element's name of at most 64 bytes
abbrev pub is_name : List ℕ → Bool
is_name text = is_name_of is_element_name 64 text

-- the root and each field are such names
abbrev pub are_names : Format → Bool
are_names format = is_name format.root && list_all is_name format.fields

-- white space (XML 1.0, section 2.3, S): space, tab, LF or CR
abbrev pub is_space : ℕ → Bool
is_space b = b == 32 || b == 9 || b == 13 || b == 10

-- a text that may be used as a URI in a document: 1 to 512 bytes, of characters that a document may hold, without white
-- space
unfoldable pub is_uri : List ℕ → Bool
is_uri text = is_short_text text && not (list_any is_space text)

-- the schema and the namespace are such texts
abbrev pub are_uris : Format → Bool
are_uris format = is_uri format.schema && is_uri format.namespace

-- some text of the list occurs again later
abbrev pub has_repeat : List (List ℕ) → Bool
has_repeat [] = false
has_repeat (text ∷ texts) = list_any (bytes_eq text) texts || has_repeat texts

-- the format has at most 256 fields. Whether it may have none is decided where the forms of records are known (`have_forms` of
-- oai_settings)
abbrev pub has_few_fields : Format → Bool
has_few_fields format = nat_le (length format.fields) 256

-- a declared format satisfies these rules: names and URIs as above, at most 256 fields, and no field twice
unfoldable pub is_allowed : Format → Bool
is_allowed format =
    are_names format && are_uris format && has_few_fields format && not (has_repeat format.fields)
