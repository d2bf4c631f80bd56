-- The tokens of a deposit line whose first member is deposit, without about. RFC 8259, sections 2, 4, 5 and 7.
use Rattle.std.specs.Prelude.{◌≡◌, ◌⊎◌, ℕ, ◌-◌, Bool, true, List, [], ◌∷◌, ◌++◌, length, slice_get, codes, Option, Some, None}
use Rattle.std.specs.List.{flat_map}
use Rattle.json.specs.Token.{Token}
use Rattle.serde_json.specs.Data.{Data}
use Rattle.oai_item.specs.declared.fields.Field.{Field}
use Rattle.oai_item.specs.Item.{is_before}
use Rattle.oai_item.specs.declared.forms.Forms.{Forms}
use Rattle.oai_item.specs.declared.givens.Given.{Given}
use Rattle.oai_item.specs.declared.givens.Given.TheVariants.{Listed, Whole}
use Rattle.oai_json.specs.Json.{json_in}
use Rattle.oai_json.specs.Tokens.{array_tokens, text_tokens}
use Rattle.oai_deposit.specs.Lines.{LineRecord, deposits, shape_of}

-- [NAME,TEXT]
abbrev pub field_tokens : Field → List Token
field_tokens field = array_tokens text_tokens (field.name ∷ field.text ∷ [])

-- [[NAME,TEXT],..], or TEXT
abbrev pub given_tokens : Given → List Token
given_tokens (Listed fields) = array_tokens field_tokens fields
given_tokens (Whole text) = text_tokens text

-- PREFIX:[[NAME,TEXT],..], or PREFIX:TEXT
abbrev pub record_tokens : LineRecord → List Token
record_tokens r = Token.key r.0 ∷ given_tokens r.1

-- {PREFIX:[[NAME,TEXT],..],PREFIX:TEXT,..}
abbrev pub records_tokens : List LineRecord → List Token
records_tokens records = Token.begin_object ∷ (flat_map record_tokens records ++ Token.end_object ∷ [])

-- "sets":[SPEC,..]
abbrev pub sets_member : List (List ℕ) → List Token
sets_member sets = Token.key (codes "sets") ∷ array_tokens text_tokens sets

-- "records":{PREFIX:[[NAME,TEXT],..],PREFIX:TEXT,..}
abbrev pub records_member : List LineRecord → List Token
records_member records = Token.key (codes "records") ∷ records_tokens records

-- these two members in either order, and then the rest
abbrev pub ArePartsBefore : List (List ℕ) → List LineRecord → List Token → List Token → Type 0
ArePartsBefore sets records rest all =
    (all ≡ sets_member sets ++ (records_member records ++ rest)) ⊎ (all ≡ records_member records ++ (sets_member sets ++ rest))

-- {"deposit":ID,"sets":[SPEC,..],"records":{PREFIX:[[NAME,TEXT],..],PREFIX:TEXT,..}}, the last two members in either
-- order, and then the rest
abbrev pub IsDepositBefore : List ℕ → List (List ℕ) → List LineRecord → List Token → List Token → Type 0
IsDepositBefore identifier sets records rest all =
    (parts : List Token) × (all ≡ Token.begin_object ∷ Token.key (codes "deposit") ∷ Token.string identifier ∷ parts)
    × ArePartsBefore sets records (Token.end_object ∷ rest) parts

-- the record, if there is one, precedes the prefix, byte by byte
abbrev pub is_none_or_before : Option LineRecord → List ℕ → Bool
is_none_or_before None prefix = true
is_none_or_before (Some r) prefix = is_before r.0 prefix

-- the last record does
abbrev pub may_follow : List LineRecord → List ℕ → Bool
may_follow records prefix = is_none_or_before (slice_get records (length records - 1)) prefix

-- the line is the deposit of these texts, with nothing about a record
abbrev pub IsDepositLine : Forms → List ℕ → List ℕ → List (List ℕ) → List LineRecord → Type 0
IsDepositLine forms line identifier sets records =
    (d : Data) × (json_in line ≡ Some d) × (shape_of forms d ≡ Some (deposits identifier sets records []))
