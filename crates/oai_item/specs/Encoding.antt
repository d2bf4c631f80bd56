-- How an item is encoded in bytes for storage. This encoding is this repository's own, and no part of OAI-PMH.
use Rattle.std.specs.Prelude.{◌≡◌, ◌<◌, ◌≤◌, ℕ, ℤ, Bool, true, false, List, [], ◌∷◌, ◌++◌, ◌&&◌, length, drop, Result, Ok, Err}
use Rattle.std.specs.Int.{w64, bytes_high_first, cast_unsigned}
use Rattle.std.specs.List.{flat_map, list_all}
use Rattle.std.specs.Str.{is_utf8}
use Rattle.oai_item.specs.declared.decodings.DecodeFault.{DecodeFault}
use Rattle.oai_item.specs.declared.decodings.DecodeFault.TheVariants.{Damaged, NoMemory}
use Rattle.oai_item.specs.declared.fields.Field.{Field}
use Rattle.oai_item.specs.declared.sizes.TooLarge.{TooLarge}
use Rattle.oai_item.specs.declared.sizes.TheConstants.{MAX_ITEM_BYTES}
use Rattle.oai_item.specs.Item.{IsItem, ItemState, Metadata}

-- one byte: 1 for a live item, 0 for a deleted one
abbrev pub encoded_bool : Bool → List ℕ
encoded_bool true = 1 ∷ []
encoded_bool false = 0 ∷ []

-- a datestamp: eight bytes, the highest first, in two's complement
unfoldable pub encoded_stamp : ℤ → List ℕ
encoded_stamp stamp = bytes_high_first 8 (cast_unsigned w64 stamp)

-- a count: four bytes, the highest first
unfoldable pub encoded_count : ℕ → List ℕ
encoded_count n = bytes_high_first 4 n

-- a text: the number of its bytes, and these
unfoldable pub encoded_text : List ℕ → List ℕ
encoded_text text = encoded_count (length text) ++ text

-- a list: the number of its elements, and each of them
unfoldable pub encoded_list : {A : Type 0} → (A → List ℕ) → List A → List ℕ
encoded_list encoded_one elements = encoded_count (length elements) ++ flat_map encoded_one elements

-- a field: its name, and its text
unfoldable pub encoded_field : Field → List ℕ
encoded_field field = encoded_text field.name ++ encoded_text field.text

-- a record of one format: the prefix, and the fields
unfoldable pub encoded_record : Metadata → List ℕ
encoded_record format = encoded_text format.0 ++ encoded_list encoded_field format.1

-- an item: whether it is live, its datestamp, its identifier, its setSpecs, and its records
unfoldable pub encoded : ItemState → List ℕ
encoded item =
    encoded_bool item.live
    ++ encoded_stamp item.stamp
    ++ encoded_text item.identifier
    ++ encoded_list encoded_text item.sets
    ++ encoded_list encoded_record item.formats

-- the result of measuring that many bytes: their number if it is at most `MAX_ITEM_BYTES`, or that they are too many
abbrev pub IsMeasure : ℕ → Result ℕ TooLarge → Type 0
IsMeasure bytes (Ok n) = (n ≡ bytes) × (bytes ≤ MAX_ITEM_BYTES)
IsMeasure bytes (Err _) = MAX_ITEM_BYTES < bytes

-- the name and the text of a field are UTF-8
abbrev pub is_text_field : Field → Bool
is_text_field field = is_utf8 field.name && is_utf8 field.text

-- the prefix of a record and its fields are UTF-8
abbrev pub is_text_record : Metadata → Bool
is_text_record format = is_utf8 format.0 && list_all is_text_field format.1

-- each text of the item is UTF-8, as those of an item in memory are
abbrev pub is_text_item : ItemState → Bool
is_text_item item =
    is_utf8 item.identifier && list_all is_utf8 item.sets && list_all is_text_record item.formats

-- the bytes encode the item: they are exactly its encoding, and not too many; and the item satisfies the rules of items
pub record Spells (bytes : List ℕ) (item : ItemState) : Type 0 where
  pub spelling : bytes ≡ encoded item
  pub few : length bytes ≤ MAX_ITEM_BYTES
  pub valid : IsItem item
  pub texts : is_text_item item ≡ true

-- the result of writing the item at the start of bytes, and the bytes afterwards: how many it wrote, which encode the
-- item, and those behind them are unchanged; or that they are too many, and all are unchanged
abbrev pub IsEncoding : ItemState → List ℕ → Result ℕ TooLarge → List ℕ → Type 0
IsEncoding item old (Ok n) new =
    Spells (encoded item) item × (n ≡ length (encoded item)) × (new ≡ encoded item ++ drop n old)
IsEncoding item old (Err _) new = (MAX_ITEM_BYTES < length (encoded item)) × (new ≡ old)

-- the result of decoding the bytes, all of them: the item that they encode; or that they encode none. Out of memory is
-- possible if they are not too many
abbrev pub IsDecoding : List ℕ → Result ItemState DecodeFault → Type 0
IsDecoding bytes (Ok item) = Spells bytes item
IsDecoding bytes (Err Damaged) = (item : ItemState) → ¬ (Spells bytes item)
IsDecoding bytes (Err NoMemory) = length bytes ≤ MAX_ITEM_BYTES

-- decoding returned that item, unless memory ran out
abbrev pub GivesBack : ItemState → Result ItemState DecodeFault → Type 0
GivesBack item (Ok read) = read ≡ item
GivesBack item (Err Damaged) = ⊥
GivesBack item (Err NoMemory) = Unit {0}
