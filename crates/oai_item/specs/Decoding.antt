-- The item that bytes encode, as a function: the inverse of `Encoding`. Each function reads from the start of bytes,
-- and returns the value and the remaining bytes. Each reads something from any bytes, and the encoded value where the
-- bytes begin with an encoding.
use Rattle.std.specs.Prelude.{◌≡◌, ◌≤◌, ℕ, ℤ, int_le, nat_le, zero, suc, Bool, ◌==◌, ◌&&◌, if◌then◌else◌, List, [], ◌∷◌, length, take, drop, get_or, Option, Some, None, Result, Ok, Err}
use Rattle.std.specs.Int.{w32, w64, cast_signed, from_be_bytes}
use Rattle.std.specs.Str.{bytes_eq}
use Rattle.oai_names.specs.Names.{may_be_identifier}
use Rattle.oai_time.specs.declared.text.TheConstants.{FIRST_SECOND, LAST_SECOND}
use Rattle.oai_item.specs.declared.decodings.DecodeFault.{DecodeFault}
use Rattle.oai_item.specs.declared.decodings.DecodeFault.TheVariants.{Damaged, NoMemory}
use Rattle.oai_item.specs.declared.fields.Field.{Field}
use Rattle.oai_item.specs.declared.sizes.TheConstants.{MAX_ITEM_BYTES}
use Rattle.oai_item.specs.Encoding.{encoded, is_text_item}
use Rattle.oai_item.specs.Item.{ItemState, Metadata, are_prefixed, are_set_specs, may_be_records}
use Rattle.oai_item.specs.Membership.{none_covers}

-- whether an item is live
unfoldable pub first_bool : List ℕ → Bool × List ℕ
first_bool bytes = (get_or bytes 0 0 == 1, drop 1 bytes)

-- a datestamp
unfoldable pub first_stamp : List ℕ → ℤ × List ℕ
first_stamp bytes = (cast_signed w64 (from_be_bytes w64 (take 8 bytes)), drop 8 bytes)

-- a count
unfoldable pub first_count : List ℕ → ℕ × List ℕ
first_count bytes = (from_be_bytes w32 (take 4 bytes), drop 4 bytes)

-- a text
unfoldable pub first_text : List ℕ → List ℕ × List ℕ
first_text bytes =
    let count = first_count bytes in
    (take count.0 count.1, drop count.0 count.1)

-- that many elements
unfoldable pub first_elements : {A : Type 0} → (List ℕ → A × List ℕ) → ℕ → List ℕ → List A × List ℕ
first_elements first_one zero bytes = ([], bytes)
first_elements first_one (suc n) bytes =
    let one = first_one bytes in
    let others = first_elements first_one n one.1 in
    (one.0 ∷ others.0, others.1)

-- a list
unfoldable pub first_list : {A : Type 0} → (List ℕ → A × List ℕ) → List ℕ → List A × List ℕ
first_list first_one bytes =
    let count = first_count bytes in
    first_elements first_one count.0 count.1

-- a field
unfoldable pub first_field : List ℕ → Field × List ℕ
first_field bytes =
    let name = first_text bytes in
    let text = first_text name.1 in
    (record { name = name.0; text = text.0 }, text.1)

-- a record of one format
unfoldable pub first_record : List ℕ → Metadata × List ℕ
first_record bytes =
    let prefix = first_text bytes in
    let fields = first_list first_field prefix.1 in
    ((prefix.0, fields.0), fields.1)

-- an item
unfoldable pub first_item : List ℕ → ItemState
first_item bytes =
    let live = first_bool bytes in
    let stamp = first_stamp live.1 in
    let identifier = first_text stamp.1 in
    let sets = first_list first_text identifier.1 in
    let formats = first_list first_record sets.1 in
    record {
      identifier = identifier.0;
      stamp = stamp.0;
      live = live.0;
      sets = sets.0;
      formats = formats.0;
    }

-- `IsStamp` as a test
abbrev pub is_stamp : ℤ → Bool
is_stamp stamp = int_le FIRST_SECOND stamp && int_le stamp LAST_SECOND

-- `IsItem` as a test
abbrev pub is_item : ItemState → Bool
is_item item =
    may_be_identifier item.identifier
    && is_stamp item.stamp
    && are_set_specs item.sets
    && none_covers item.sets
    && are_prefixed item.formats
    && may_be_records item.live item.formats

-- `Spells` as a test
abbrev pub spells : List ℕ → ItemState → Bool
spells bytes item =
    bytes_eq bytes (encoded item)
    && nat_le (length bytes) MAX_ITEM_BYTES
    && is_item item
    && is_text_item item

-- the item that the bytes, all of them, encode, if they encode one
unfoldable pub item_in : List ℕ → Option ItemState
item_in bytes = if spells bytes (first_item bytes) then Some (first_item bytes) else None

-- the result of reading an item in place: the item that the bytes encode; or that they encode none. Out of memory is
-- possible if they are not too many
abbrev pub IsReadInPlace : List ℕ → Result ItemState DecodeFault → Type 0
IsReadInPlace bytes (Ok item) = item_in bytes ≡ Some item
IsReadInPlace bytes (Err Damaged) = item_in bytes ≡ None
IsReadInPlace bytes (Err NoMemory) = length bytes ≤ MAX_ITEM_BYTES
