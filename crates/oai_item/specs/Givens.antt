-- What a deposit gives for its formats, and how an item keeps it. This repository's own.
use Rattle.std.specs.Prelude.{◌≡◌, ◌≤◌, ℕ, ◌-◌, Bool, true, List, [], ◌∷◌, ◌++◌, length, map, take, drop, Option, Some, None}
use Rattle.std.specs.List.{list_all}
use Rattle.oai_xml.specs.Documents.{is_canonical}
use Rattle.oai_xml.specs.Roots.{RootName}
use Rattle.oai_item.specs.Elements.{about_in, content_in, element_field, element_in, element_of_content, is_about, root_in}
use Rattle.oai_item.specs.Item.{Metadata, are_rising}
use Rattle.oai_item.specs.declared.fields.Field.{Field}
use Rattle.oai_item.specs.declared.givens.Given.{Given}
use Rattle.oai_item.specs.declared.givens.Given.TheVariants.{Listed, Whole}
use Rattle.oai_item.specs.declared.notes.Note.{Note}

-- what is given for a format: its metadataPrefix, the record itself, and the elements about it
abbrev pub GivenRecord : Type 0
GivenRecord = List ℕ × Given × List (List ℕ)

-- how an item keeps the record itself: a list of fields as it is, an element as one field without a name
abbrev pub kept_fields : Given → List Field
kept_fields (Listed fields) = fields
kept_fields (Whole text) = element_field text ∷ []

-- and behind it the elements about it, each as a field without a name
abbrev pub kept : GivenRecord → Metadata
kept r = (r.0, kept_fields r.1 ++ map element_field r.2)

-- a record that is a list of fields, with nothing about it
abbrev pub listed_record : Metadata → GivenRecord
listed_record r = (r.0, Listed r.1, [])

-- what a record that an item keeps was given as: an element, if its fields keep one
abbrev pub given_of : List Field → Option (List ℕ) → Given
given_of fields None = Listed fields
given_of fields (Some text) = Whole text

abbrev pub given_back : Metadata → GivenRecord
given_back r = (r.0, given_of (content_in r.1) (element_in r.1), about_in r.1)

-- ---- what contracts see of the records of a deposit: as they are kept, and what is noted of them: of an element its root, and how many of the
-- last fields are about the record

-- nothing
abbrev pub no_note : Note
no_note = record { root = None; about = 0 }

-- what is noted of the first record, and of the others
abbrev pub first_noted : List Note → Note × List Note
first_noted [] = (no_note, [])
first_noted (note ∷ notes) = (note, notes)

-- the fields of the record itself, and those about it
abbrev pub noted_content : List Field → Note → List Field
noted_content fields note = take (length fields - note.about) fields

abbrev pub noted_about : List Field → Note → List Field
noted_about fields note = drop (length fields - note.about) fields

-- what was given: an element, if its root is noted, or fields
abbrev pub noted_given : List Field → Option RootName → Given
noted_given fields None = Listed fields
noted_given fields (Some root) = given_of fields (element_of_content fields)

-- the texts of fields
abbrev pub field_texts : List Field → List (List ℕ)
field_texts fields = map (λ field. field.text) fields

abbrev pub noted_record : Metadata → Note → GivenRecord
noted_record r note = (r.0, noted_given (noted_content r.1 note) note.root, field_texts (noted_about r.1 note))

abbrev pub all_given : List Metadata → List Note → List GivenRecord
all_given [] notes = []
all_given (r ∷ records) notes = noted_record r (first_noted notes).0 ∷ all_given records (first_noted notes).1

-- the fields keep an element in canonical text, of that root
abbrev pub IsElementWith : RootName → Option (List ℕ) → Type 0
IsElementWith root None = ⊥
IsElementWith root (Some text) = (is_canonical text ≡ true) × (root_in text ≡ Some root)

-- the record itself is a list of fields, or an element of the root that is noted
abbrev pub IsNotedContent : List Field → Option RootName → Type 0
IsNotedContent fields None = Unit {0}
IsNotedContent fields (Some root) = IsElementWith root (element_of_content fields)

-- and so many of the last fields are elements about it
pub record IsNoted (fields : List Field) (note : Note) : Type 0 where
  pub content : IsNotedContent (noted_content fields note) note.root
  pub few : note.about ≤ length fields
  pub about : list_all is_about (noted_about fields note) ≡ true

abbrev pub AreNoted : List Metadata → List Note → Type 0
AreNoted [] notes = Unit {0}
AreNoted (r ∷ records) notes = IsNoted r.1 (first_noted notes).0 × AreNoted records (first_noted notes).1

-- the prefixes rise, and what is noted is so
pub record AreRecords (records : List Metadata) (notes : List Note) : Type 0 where
  pub rising : are_rising records ≡ true
  pub noted : AreNoted records notes

-- ---- elements that are kept

-- an element is in canonical text
abbrev pub is_none_or_canonical : Option (List ℕ) → Bool
is_none_or_canonical None = true
is_none_or_canonical (Some text) = is_canonical text
