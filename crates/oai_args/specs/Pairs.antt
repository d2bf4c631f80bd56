-- The arguments of a request: pairs of a key and a value, in the type application/x-www-form-urlencoded.
-- OAI-PMH 2.0, section 3.1.1; URL Standard, section 5.1.
use Rattle.std.specs.Prelude.{ℕ, Bool, List, map, filter, bytes_eq}
use Rattle.std.specs.List.{list_all}
use Rattle.std.specs.Str.Lossy.{utf8_lossy}
use Rattle.form_urlencoded.specs.Form.{raw_pairs, decode}
use Rattle.oai_names.specs.Characters.{is_xml_text}
use Rattle.oai_names.specs.Names.{is_among}

-- a key and its value
abbrev pub Pair : Type 0
Pair = List ℕ × List ℕ

-- a key or a value as text: its bytes decoded, with U+FFFD for what is not UTF-8
abbrev pub decoded_text : List ℕ → List ℕ
decoded_text bytes = utf8_lossy (decode bytes)

-- a pair as texts
abbrev pub decoded_pair : Pair → Pair
decoded_pair pair = (decoded_text pair.0, decoded_text pair.1)

-- the pairs of a query
unfoldable pub decoded_pairs : List ℕ → List Pair
decoded_pairs query = map decoded_pair (raw_pairs query)

-- the values given to a key, in order
unfoldable pub values_of : List ℕ → List Pair → List (List ℕ)
values_of key pairs =
    map (λ (pair : Pair). pair.1) (filter (λ (pair : Pair). bytes_eq pair.0 key) pairs)

-- every key is one of these
unfoldable pub has_only_keys : List (List ℕ) → List Pair → Bool
has_only_keys keys pairs = list_all (λ (pair : Pair). is_among keys pair.0) pairs

-- every value is a text of the characters of XML 1.0, section 2.2, so that the answer can repeat it (OAI-PMH 2.0,
-- section 3.2); that others are refused is this repository's own
unfoldable pub has_xml_values : List Pair → Bool
has_xml_values pairs = list_all (λ (pair : Pair). is_xml_text pair.1) pairs
