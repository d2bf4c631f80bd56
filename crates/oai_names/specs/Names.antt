-- The grammars of names, over the bytes of a text.
use Rattle.std.specs.Prelude.{◌≡◌, ◌<◌, ℕ, Bool, true, false, ◌==◌, ◌||◌, ◌&&◌, not, nat_le, List, [], ◌∷◌, length, codes, Result, Ok, Err}
use Rattle.std.specs.List.{list_all, list_any, before_first, after_first}
use Rattle.std.specs.Char.{is_ascii_alphabetic, is_ascii_alphanumeric}
use Rattle.std.specs.Str.{bytes_eq}
use Rattle.oai_names.specs.declared.limits.TheConstants.{MAX_PREFIX_BYTES, MAX_IDENTIFIER_BYTES}
use Rattle.oai_names.specs.declared.readings.NameFault.{NameFault}
use Rattle.oai_names.specs.declared.readings.NameFault.TheVariants.{Syntax, TooLong, NoMemory}

-- the number is one of these
abbrev pub is_one_of : List ℕ → ℕ → Bool
is_one_of numbers n = list_any (λ m. m == n) numbers

-- one or more bytes that pass the test
abbrev pub is_some_of : (ℕ → Bool) → List ℕ → Bool
is_some_of passes bytes = not (length bytes == 0) && list_all passes bytes

-- a character of a metadataPrefix: [A-Za-z0-9\-_\.!~\*'\(\)] (OAI-PMH 2.0, section 3.4, and its schema: the unreserved
-- characters of RFC 2396, section 2.3)
abbrev pub is_prefix_byte : ℕ → Bool
is_prefix_byte b = is_ascii_alphanumeric b || is_one_of (codes "-_.!~*'()") b

-- a metadataPrefix is one or more of these
unfoldable pub is_prefix : List ℕ → Bool
is_prefix text = is_some_of is_prefix_byte text

-- a character of a URI scheme after its first (RFC 3986, section 3.1)
abbrev pub is_scheme_byte : ℕ → Bool
is_scheme_byte b = is_ascii_alphanumeric b || is_one_of (codes "+-.") b

-- scheme = ALPHA *( ALPHA / DIGIT / "+" / "-" / "." )
unfoldable pub is_scheme : List ℕ → Bool
is_scheme [] = false
is_scheme (b ∷ bytes) = is_ascii_alphabetic b && list_all is_scheme_byte bytes

-- a character after the scheme's colon: unreserved, reserved, or the percent sign (RFC 3986, sections 2.1 to 2.3)
abbrev pub is_uri_byte : ℕ → Bool
is_uri_byte b = is_ascii_alphanumeric b || is_one_of (codes "-._~:/?#[]@!$&'()*+,;=%") b

-- the byte is a colon
abbrev pub is_colon : ℕ → Bool
is_colon b = b == 58

-- a unique identifier has the characters of a URI: a scheme, a colon, and one or more others (OAI-PMH 2.0, section 2.4)
unfoldable pub is_identifier : List ℕ → Bool
is_identifier text =
    is_scheme (before_first is_colon text) && is_some_of is_uri_byte (after_first is_colon text)

-- ---- names that are stored: of a grammar, and not too long (the lengths are this repository's own)

-- a text of the grammar, of at most that many bytes
abbrev pub is_name_of : (List ℕ → Bool) → ℕ → List ℕ → Bool
is_name_of grammar most text = grammar text && nat_le (length text) most

-- a text that a metadataPrefix may be
abbrev pub may_be_prefix : List ℕ → Bool
may_be_prefix text = is_name_of is_prefix MAX_PREFIX_BYTES text

-- a text that a unique identifier may be
abbrev pub may_be_identifier : List ℕ → Bool
may_be_identifier text = is_name_of is_identifier MAX_IDENTIFIER_BYTES text

-- the result of reading a name of the grammar, of at most that many bytes: the first cause that applies
abbrev pub IsReading : (List ℕ → Bool) → ℕ → List ℕ → Result (List ℕ) NameFault → Type 0
IsReading grammar most text (Ok name) = (name ≡ text) × (is_name_of grammar most text ≡ true)
IsReading grammar most text (Err Syntax) = grammar text ≡ false
IsReading grammar most text (Err TooLong) = (grammar text ≡ true) × (most < length text)
IsReading grammar most text (Err NoMemory) = is_name_of grammar most text ≡ true

-- ---- lists of names

-- the text is one of these
abbrev pub is_among : List (List ℕ) → List ℕ → Bool
is_among texts text = list_any (λ other. bytes_eq text other) texts
