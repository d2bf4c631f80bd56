-- Whether a repository can have the records of an item: in its formats, and with their fields. OAI-PMH 2.0, section
-- 3.4.
use Rattle.std.specs.Prelude.{ℕ, Bool, true, ◌||◌, ◌&&◌, not, ◌==◌, List, [], ◌∷◌, length, Option, None, Some, is_some}
use Rattle.std.specs.List.{list_all}
use Rattle.oai_names.specs.Names.{is_among}
use Rattle.oai_xml.specs.Documents.{is_canonical}
use Rattle.oai_item.specs.Elements.{behind_content, content_in, element_in, is_about, is_element_of, is_nameless, keeps_element_of}
use Rattle.oai_item.specs.Formats.{format_named}
use Rattle.oai_item.specs.Givens.{GivenRecord}
use Rattle.oai_item.specs.Item.{Metadata}
use Rattle.oai_item.specs.declared.fields.Field.{Field}
use Rattle.oai_item.specs.declared.formats.Format.{Format}
use Rattle.oai_item.specs.declared.givens.Given.{Given}
use Rattle.oai_item.specs.declared.givens.Given.TheVariants.{Listed, Whole}

-- the format of the record is one of these
abbrev pub has_format : List Format → Metadata → Bool
has_format formats metadata = is_some (format_named metadata.0 formats)

-- the field has a name, and it is one of the format's
abbrev pub is_listed_in : Format → Field → Bool
is_listed_in format field = not (is_nameless field) && is_among format.fields field.name

-- each field is one of the format's
abbrev pub are_listed_in : Format → List Field → Bool
are_listed_in format fields = list_all (is_listed_in format) fields

-- the record itself: each field is one of the format's, or they keep an element of the format
abbrev pub is_content_of : Format → List Field → Bool
is_content_of format fields = are_listed_in format (content_in fields) || keeps_element_of format (element_in fields)

-- what an item keeps: the record itself, and elements about it; without a format there is no condition
abbrev pub are_fields_of : Option Format → List Field → Bool
are_fields_of None fields = true
are_fields_of (Some format) fields = is_content_of format fields && list_all is_about (behind_content fields)

-- the record may be kept in its format
abbrev pub has_known_fields : List Format → Metadata → Bool
has_known_fields formats metadata = are_fields_of (format_named metadata.0 formats) metadata.1

-- ---- what a deposit gives

-- of a list, each field is one of the format's
abbrev pub are_given_in : Option Format → Given → Bool
are_given_in None given = true
are_given_in (Some format) (Listed fields) = are_listed_in format fields
are_given_in (Some format) (Whole text) = true

abbrev pub has_listed_fields : List Format → GivenRecord → Bool
has_listed_fields formats r = are_given_in (format_named r.0 formats) r.1

-- the format has fields, if it is a list, and if it is an element, it is one of the format
abbrev pub is_given_in : Option Format → Given → Bool
is_given_in None given = true
is_given_in (Some format) (Listed fields) = not (length format.fields == 0)
is_given_in (Some format) (Whole text) = is_element_of format text

-- what is given about a record are elements, and where nothing is given as the record, nothing is given about it
abbrev pub may_have_about : Given → List (List ℕ) → Bool
may_have_about (Listed []) about = length about == 0
may_have_about (Listed (field ∷ fields)) about = list_all is_canonical about
may_have_about (Whole text) about = list_all is_canonical about

abbrev pub is_of_format : List Format → GivenRecord → Bool
is_of_format formats r = is_given_in (format_named r.0 formats) r.1 && may_have_about r.1 r.2
