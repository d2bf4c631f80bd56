-- The media type of a body: RFC 9110, sections 5.6.3 and 8.3. White space is trimmed as the grammar of `httparse` trims
-- it.
use Rattle.std.specs.Prelude.{ℕ, Bool, false, ◌==◌, List, map, codes, Option, None, Some}
use Rattle.std.specs.Char.{to_ascii_lowercase}
use Rattle.std.specs.List.{before_first}
use Rattle.std.specs.Str.{bytes_eq}
use Rattle.httparse.specs.Grammar.{trim_ows}

-- the byte is `;`
abbrev pub is_semicolon : ℕ → Bool
is_semicolon b = b == 59

-- the media type without its parameters
abbrev pub media_type : List ℕ → List ℕ
media_type value = trim_ows (before_first is_semicolon value)

-- upper and lower case letters of ASCII are equal: RFC 9110, section 8.3.1
abbrev pub is_form_type : List ℕ → Bool
is_form_type value = bytes_eq (map to_ascii_lowercase (media_type value)) (codes "application/x-www-form-urlencoded")

-- the body is a form, by the field Content-Type
abbrev pub is_form : Option (List ℕ) → Bool
is_form None = false
is_form (Some value) = is_form_type value
