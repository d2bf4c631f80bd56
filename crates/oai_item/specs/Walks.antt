-- What contracts see of the iterators over the lists of an encoded item: the remaining elements. No definition rests on
-- these words.
use Rattle.std.specs.Prelude.{◌≡◌, ◌≤◌, ℕ, Bool, true, false, ◌&&◌, List, [], ◌∷◌, ◌++◌, length}
use Rattle.std.specs.List.{before_first, flat_map, list_all}
use Rattle.std.specs.Str.{is_utf8}
use Rattle.oai_names.specs.Names.{may_be_prefix}
use Rattle.oai_names.specs.Sets.{may_be_set_spec}
use Rattle.oai_item.specs.declared.fields.Field.{Field}
use Rattle.oai_item.specs.declared.sizes.TheConstants.{MAX_ITEM_BYTES}
use Rattle.oai_item.specs.Decoding.{first_elements, first_field, first_record, first_text}
use Rattle.oai_item.specs.Elements.{from_nameless, is_nameless}
use Rattle.oai_item.specs.Encoding.{encoded_field, encoded_record, encoded_text, is_text_field}
use Rattle.oai_item.specs.Item.{Metadata}

-- a name of the grammar, as a text
abbrev pub is_name_text : (List ℕ → Bool) → List ℕ → Bool
is_name_text grammar text = grammar text && is_utf8 text

-- fields of texts
abbrev pub are_fields : List Field → Bool
are_fields fields = list_all is_text_field fields

-- a record with a valid prefix, and fields of texts
abbrev pub is_record : Metadata → Bool
is_record format = is_name_text may_be_prefix format.0 && are_fields format.1

-- the elements are good, and the bytes begin with their encoding
pub record AreSpelled {A : Type 0} (spelled : A → List ℕ) (test : A → Bool)
    (bytes : List ℕ) (elements : List A) : Type 0 where
  pub good : list_all test elements ≡ true
  pub behind : List ℕ
  pub parts : bytes ≡ flat_map spelled elements ++ behind
  pub few : length bytes ≤ MAX_ITEM_BYTES

-- that many setSpecs at the start of the bytes
abbrev pub sets_left : ℕ → List ℕ → List (List ℕ)
sets_left count bytes = (first_elements first_text count bytes).0

abbrev pub AreSets : ℕ → List ℕ → Type 0
AreSets count bytes = AreSpelled encoded_text (is_name_text may_be_set_spec) bytes (sets_left count bytes)

-- that many fields
abbrev pub fields_left : ℕ → List ℕ → List Field
fields_left count bytes = (first_elements first_field count bytes).0

abbrev pub AreFields : ℕ → List ℕ → Type 0
AreFields count bytes = AreSpelled encoded_field is_text_field bytes (fields_left count bytes)

-- that many records
abbrev pub records_left : ℕ → List ℕ → List Metadata
records_left count bytes = (first_elements first_record count bytes).0

abbrev pub AreRecords : ℕ → List ℕ → Type 0
AreRecords count bytes = AreSpelled encoded_record is_record bytes (records_left count bytes)

-- ---- up to the first field without a name

-- a field with a name was taken
pub record IsAfterNamed (old : List Field) (field : Field) (new : List Field) : Type 0 where
  pub taken : old ≡ field ∷ new
  pub named : is_nameless field ≡ false

-- none was: there is no field, or the next one has no name
pub record IsUpToNameless (old new : List Field) : Type 0 where
  pub kept : new ≡ old
  pub none : before_first is_nameless old ≡ []
  pub all : from_nameless old ≡ old
