-- What contracts see of the records that an item holds, and of the iterators over them. No definition rests on these
-- words.
use Rattle.std.specs.Prelude.{◌≡◌, ◌≤◌, ℕ, true, List, length}
use Rattle.std.specs.List.{list_all}
use Rattle.oai_item.specs.declared.fields.Field.{Field}
use Rattle.oai_item.specs.declared.held_records.Held.{Held}
use Rattle.oai_item.specs.declared.held_records.Held.TheVariants as held
use Rattle.oai_item.specs.declared.item_records.FieldsLeft.{FieldsLeft}
use Rattle.oai_item.specs.declared.item_records.FieldsLeft.TheVariants as fields
use Rattle.oai_item.specs.declared.item_records.RecordsLeft.{RecordsLeft}
use Rattle.oai_item.specs.declared.item_records.RecordsLeft.TheVariants as records
use Rattle.oai_item.specs.declared.sizes.TheConstants.{MAX_ITEM_BYTES}
use Rattle.oai_item.specs.Decoding.{first_list, first_record}
use Rattle.oai_item.specs.Encoding.{encoded_list, encoded_record}
use Rattle.oai_item.specs.Item.{Metadata}
use Rattle.oai_item.specs.Walks.{is_record}

-- the records that the bytes encode
abbrev pub records_in : List ℕ → List Metadata
records_in bytes = (first_list first_record bytes).0

-- the bytes, all of them, encode records that an item may have
pub record AreWhole (bytes : List ℕ) : Type 0 where
  pub good : list_all is_record (records_in bytes) ≡ true
  pub parts : bytes ≡ encoded_list encoded_record (records_in bytes)
  pub few : length bytes ≤ MAX_ITEM_BYTES

-- the records that an item holds
abbrev pub records_held : Held → List Metadata
records_held (held.Typed those) = those
records_held (held.Spelled bytes) = records_in bytes

-- bytes that hold records are their encoding
abbrev pub AreHeld : Held → Type 0
AreHeld (held.Typed those) = Unit {0}
AreHeld (held.Spelled bytes) = AreWhole bytes

-- the remaining fields of an iterator
abbrev pub fields_to_come : FieldsLeft → List Field
fields_to_come (fields.Typed those) = those.now
fields_to_come (fields.Spelled those) = those

-- the remaining records of an iterator
abbrev pub records_to_come : RecordsLeft → List Metadata
records_to_come (records.Typed those) = those.now
records_to_come (records.Spelled those) = those
