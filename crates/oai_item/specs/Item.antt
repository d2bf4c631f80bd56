-- Items, and the records that they carry. OAI-PMH 2.0, sections 2.3 to 2.6.
use Rattle.std.specs.Prelude.{◌≡◌, ◌≢◌, ℕ, ℤ, Bool, true, false, ◌==◌, ◌&&◌, ◌||◌, not, List, [], ◌∷◌, length, map, find, Option, None, Some, is_some}
use Rattle.std.specs.List.{list_all}
use Rattle.std.specs.Str.{bytes_eq}
use Rattle.std.specs.Ordering.{nat_cmp, is_lt}
use Rattle.std.specs.Cmp.Lexicographic.{slice_cmp}
use Rattle.oai_names.specs.Names.{may_be_identifier, may_be_prefix}
use Rattle.oai_names.specs.Sets.{may_be_set_spec}
use Rattle.oai_time.specs.Stamp.{IsWritable}
use Rattle.oai_item.specs.declared.fields.Field.{Field}
use Rattle.oai_item.specs.Membership.{NoneCovers}

-- a record of one format: its metadataPrefix, and its fields in order
abbrev pub Metadata : Type 0
Metadata = List ℕ × List Field

-- an item: its unique identifier, its datestamp in seconds from 1970 on, whether it is live or deleted, the setSpecs of
-- the sets that it is in, and its record in each of its formats
pub record ItemState : Type 0 where
  pub identifier : List ℕ
  pub stamp : ℤ
  pub live : Bool
  pub sets : List (List ℕ)
  pub formats : List Metadata

-- the first text precedes the second, byte by byte
abbrev pub is_before : List ℕ → List ℕ → Bool
is_before a b = is_lt (slice_cmp nat_cmp a b)

-- each prefix precedes the next, whatever stands under them
abbrev pub are_rising : {A : Type 0} → List (List ℕ × A) → Bool
are_rising [] = true
are_rising (a ∷ []) = true
are_rising (a ∷ b ∷ formats) = is_before a.0 b.0 && are_rising (b ∷ formats)

-- the seconds of the years 0000 to 9999, which a datestamp can name
abbrev pub IsStamp : ℤ → Type 0
IsStamp stamp = IsWritable stamp

-- a live item with these parts
abbrev pub live_item : List ℕ → ℤ → List (List ℕ) → List Metadata → ItemState
live_item identifier stamp sets formats = record {
  identifier = identifier;
  stamp = stamp;
  live = true;
  sets = sets;
  formats = formats;
}

-- the record of that prefix, without its fields
abbrev pub emptied : Metadata → Metadata
emptied format = (format.0, [])

-- the tombstone of an item: the same sets and prefixes, no fields, and the datestamp of its deletion
abbrev pub tombstone_of : ℤ → ItemState → ItemState
tombstone_of stamp item =
    record item { stamp = stamp; live = false; formats = map emptied item.formats }

-- the record with that metadataPrefix
unfoldable pub record_named : List ℕ → List Metadata → Option Metadata
record_named prefix formats = find (λ format. bytes_eq format.0 prefix) formats

-- there is a record with that metadataPrefix
abbrev pub has_record : List ℕ → List Metadata → Bool
has_record prefix formats = is_some (record_named prefix formats)

-- the fields of a record, if there is one
abbrev pub fields_of : Option Metadata → List Field
fields_of None = []
fields_of (Some format) = format.1

-- the fields of the record with that metadataPrefix; none if there is no such record
abbrev pub fields_in : List ℕ → List Metadata → List Field
fields_in prefix formats = fields_of (record_named prefix formats)

-- each is a setSpec, and not too long
unfoldable pub are_set_specs : List (List ℕ) → Bool
are_set_specs sets = list_all may_be_set_spec sets

-- each record has a valid metadataPrefix, and that is not too long
unfoldable pub are_prefixed : List Metadata → Bool
are_prefixed formats = list_all (λ format. may_be_prefix format.0) formats

-- no record has a field
unfoldable pub have_no_fields : List Metadata → Bool
have_no_fields formats = list_all (λ format. length format.1 == 0) formats

-- the records may be those of an item that is live or deleted: at least one, in the order of their prefixes, and
-- without fields if it is deleted
abbrev pub may_be_records : Bool → List Metadata → Bool
may_be_records live formats =
    not (length formats == 0) && are_rising formats && (live || have_no_fields formats)

-- the invariant of an item: its names match their grammars, its datestamp can be written, none of its setSpecs covers
-- another, it has one record a format, in the order of the prefixes, and if it is deleted they have no fields (OAI-PMH
-- 2.0, section 2.5.1)
pub record IsItem (item : ItemState) : Type 0 where
  pub identified : may_be_identifier item.identifier ≡ true
  pub stamped : IsStamp item.stamp
  pub in_sets : are_set_specs item.sets ≡ true
  pub apart : NoneCovers item.sets
  pub prefixed : are_prefixed item.formats ≡ true
  pub rising : are_rising item.formats ≡ true
  pub carries : item.formats ≢ []
  pub deleted : item.live ≡ false → have_no_fields item.formats ≡ true
