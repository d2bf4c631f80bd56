-- What bytes begin with in encoded form, and what reading it returns: words of private functions, on which no
-- definition rests.
use Rattle.std.specs.Prelude.{◌≡◌, ◌<◌, ◌≤◌, ◌^◌, ℕ, ℤ, Bool, true, List, ◌++◌, length, drop, Option, None, Some}
use Rattle.std.specs.List.{flat_map, list_all}
use Rattle.std.specs.Str.{is_utf8}
use Rattle.oai_names.specs.Names.{may_be_identifier}
use Rattle.oai_names.specs.Sets.{may_be_set_spec}
use Rattle.oai_item.specs.Encoding.{encoded}
use Rattle.oai_item.specs.Item.{IsStamp, ItemState, Metadata, live_item}
use Rattle.oai_item.specs.Walks.{is_name_text, is_record}
use Rattle.oai_item.specs.declared.in_place.Parts.{Parts}
use Rattle.oai_item.specs.declared.sizes.TheConstants.{MAX_ITEM_BYTES}

-- writing these bytes at the start of others returns how many they are, and leaves what is behind them
abbrev pub Writes : List ℕ → List ℕ → ℕ → List ℕ → Type 0
Writes piece old size new = (size ≡ length piece) × (new ≡ piece ++ drop (length piece) old)

-- the bytes begin with a good value's encoding, and are not too many for an item
pub record Stands {A : Type 0} (spelled : A → List ℕ) (Good : A → Type 0)
    (bytes : List ℕ) : Type 0 where
  pub value : A
  pub rest : List ℕ
  pub good : Good value
  pub parts : bytes ≡ spelled value ++ rest
  pub few : length bytes ≤ MAX_ITEM_BYTES

-- the result of reading a good value from the start of bytes, seen as the value and the remaining bytes: the bytes
-- begin with its encoding, or with no good value's
abbrev pub Reads : {A B : Type 0} → (A → B × List ℕ) → (B → List ℕ) → (B → Type 0)
    → List ℕ → Option A → Type 0
Reads see spelled Good bytes (Some a) =
    Good (see a).0 × (bytes ≡ spelled (see a).0 ++ (see a).1)
Reads see spelled Good bytes None = ¬ (Stands spelled Good bytes)

-- the bytes are the encoding of the good value, and then the rest
abbrev pub IsFront : {A : Type 0} → (A → List ℕ) → (A → Type 0) → A → List ℕ → List ℕ → Type 0
IsFront spelled Good value bytes rest = Good value × (bytes ≡ spelled value ++ rest)

-- that many good elements of a list were read from the start of bytes, and this remains
pub record HasRead {A : Type 0} (spelled : A → List ℕ) (test : A → Bool)
    (bytes : List ℕ) (count : ℕ) (rest : List ℕ) : Type 0 where
  pub elements : List A
  pub good : list_all test elements ≡ true
  pub parts : bytes ≡ flat_map spelled elements ++ rest
  pub many : length elements ≡ count

-- any value
abbrev pub IsAny : Bool → Type 0
IsAny b = Unit {0}

-- a number that fits in four bytes
abbrev pub IsCount : ℕ → Type 0
IsCount n = n < 2 ^ 32

-- a text of UTF-8
abbrev pub IsText : List ℕ → Type 0
IsText text = is_utf8 text ≡ true

-- a name of the grammar
abbrev pub IsNamed : (List ℕ → Bool) → List ℕ → Type 0
IsNamed grammar text = is_name_text grammar text ≡ true

-- such records
abbrev pub are_records : List Metadata → Bool
are_records formats = list_all is_record formats

-- setSpecs
abbrev pub are_sets : List (List ℕ) → Bool
are_sets sets = list_all (is_name_text may_be_set_spec) sets

-- each part of the item is good by itself
pub record HasParts (item : ItemState) : Type 0 where
  pub stamped : IsStamp item.stamp
  pub identified : IsNamed may_be_identifier item.identifier
  pub in_sets : are_sets item.sets ≡ true
  pub of_formats : are_records item.formats ≡ true

-- the bytes encode an item with such parts
pub record SpellsParts (bytes : List ℕ) (item : ItemState) : Type 0 where
  pub spelling : bytes ≡ encoded item
  pub few : length bytes ≤ MAX_ITEM_BYTES
  pub parts : HasParts item

-- an item with these parts
abbrev pub item_with : Bool → ℤ → List ℕ → List (List ℕ) → List Metadata → ItemState
item_with live stamp identifier sets formats = record (live_item identifier stamp sets formats) { live = live }

-- the parts that were read, as an item
abbrev pub item_of : Parts → ItemState
item_of parts = item_with parts.live parts.stamp parts.identifier.now parts.sets parts.records

-- the result of reading the parts of an item
abbrev pub ReadsParts : List ℕ → Option Parts → Type 0
ReadsParts bytes (Some parts) = SpellsParts bytes (item_of parts)
ReadsParts bytes None = (item : ItemState) → ¬ (SpellsParts bytes item)
