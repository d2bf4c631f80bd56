-- One line of a deposit: the change that it requests, or the first cause to refuse it. The lines are this repository's
-- own.
use Rattle.std.specs.Prelude.{ℕ, Bool, true, false, not, ◌==◌, ◌&&◌, if◌then◌else◌, List, [], ◌∷◌, length, map, codes, Option, Some, None, option_map, Result, Ok, Err}
use Rattle.std.specs.List.{list_all}
use Rattle.std.specs.Map.{lookup}
use Rattle.std.specs.Str.{bytes_eq}
use Rattle.serde_json.specs.Data.{Data}
use Rattle.serde_json.specs.Find.{get, as_str, as_object}
use Rattle.oai_names.specs.Names.{is_among, may_be_identifier}
use Rattle.oai_names.specs.Optional.{◌>>=◌, each_of, tested}
use Rattle.oai_names.specs.Sets.{may_be_set_spec}
use Rattle.oai_names.specs.Characters.{is_xml_text}
use Rattle.oai_xml.specs.Documents.{canonical}
use Rattle.oai_item.specs.Givens.{GivenRecord, kept}
use Rattle.oai_item.specs.declared.fields.Field.{Field}
use Rattle.oai_item.specs.declared.forms.Forms.{Forms}
use Rattle.oai_item.specs.declared.forms.Forms.TheVariants as form
use Rattle.oai_item.specs.declared.givens.Given.{Given}
use Rattle.oai_item.specs.declared.givens.Given.TheVariants.{Listed, Whole}
use Rattle.oai_item.specs.declared.refusals.LineRefusal.{LineRefusal}
use Rattle.oai_item.specs.declared.refusals.LineRefusal.TheVariants.{BadJson, BadCommand, BadXml, BadIdentifier, BadSetSpec, BadText}
use Rattle.oai_item.specs.Item.{Metadata}
use Rattle.oai_item.specs.ShortTexts.{is_short_text}
use Rattle.oai_deposit.specs.declared.changes.Change.{Change}
use Rattle.oai_deposit.specs.declared.changes.Change.TheVariants as change
use Rattle.oai_json.specs.Json.{json_in, members_in, has_members, has_members_and, elements_of, text_at, texts_at}

-- ---- the shapes. `ShapeLaw` (Shapes.antt) says which objects they are

-- what a line gives under a prefix: the record itself; and texts about one
abbrev pub LineRecord : Type 0
LineRecord = List ℕ × Given

abbrev pub LineAbout : Type 0
LineAbout = List ℕ × List (List ℕ)

-- whether the record itself may be given so
abbrev pub is_of_forms : Forms → Given → Bool
is_of_forms form.Fields (Listed fields) = true
is_of_forms form.Fields (Whole text) = false
is_of_forms form.Elements given = true

abbrev pub are_records_of : Forms → List LineRecord → Bool
are_records_of forms records = list_all (λ r. is_of_forms forms r.1) records

-- whether that may be given about it
abbrev pub may_be_about : Forms → List (List ℕ) → Bool
may_be_about form.Fields about = length about == 0
may_be_about form.Elements about = true

-- whether records, and what is about them, may be given so
abbrev pub are_of_forms : Forms → List GivenRecord → Bool
are_of_forms forms records = list_all (λ r. is_of_forms forms r.1 && may_be_about forms r.2) records

-- the texts of a command: of a deposit or a put, the identifier, the setSpecs, the records and what is about them, where an element is any text; of a
-- deletion, the identifier; of a purge, the bound; of a new set, the setSpec and the setName
pub data Shape : Type 0 where
  deposits : List ℕ → List (List ℕ) → List LineRecord → List LineAbout → Shape
  puts : List ℕ → List (List ℕ) → List LineRecord → List LineAbout → Shape
  deletes : List ℕ → Shape
  purges : List ℕ → Shape
  adds_set : List ℕ → List ℕ → Shape

-- two strings, the name and the text
unfoldable pub pair_of : List Data → Option Field
pair_of [] = None
pair_of (first ∷ []) = None
pair_of (first ∷ second ∷ []) = do
  name ← as_str first
  text ← as_str second
  Some (record { name = name; text = text })
pair_of (first ∷ second ∷ third ∷ further) = None

-- [NAME,TEXT]
unfoldable pub field_of : Data → Option Field
field_of d = elements_of d >>= pair_of

-- [[NAME,TEXT],..]
unfoldable pub field_list_of : Data → Option (List Field)
field_list_of d = elements_of d >>= each_of field_of

-- TEXT, where a record may be an element
abbrev pub element_text : Forms → Data → Option (List ℕ)
element_text form.Fields d = None
element_text form.Elements d = as_str d

-- a text is that of an element, and otherwise fields are given
abbrev pub given_as : Option (List ℕ) → Option (List Field) → Option Given
given_as (Some text) fields = Some (Whole text)
given_as None (Some fields) = Some (Listed fields)
given_as None None = None

-- [[NAME,TEXT],..], or TEXT
unfoldable pub given_read : Forms → Data → Option Given
given_read forms d = given_as (element_text forms d) (field_list_of d)

-- PREFIX:[[NAME,TEXT],..], or PREFIX:TEXT
unfoldable pub record_of : Forms → List ℕ × Data → Option LineRecord
record_of forms m = do
  given ← given_read forms m.1
  Some (m.0, given)

-- {PREFIX:[[NAME,TEXT],..],PREFIX:TEXT,..}
unfoldable pub records_of : Forms → Data → Option (List LineRecord)
records_of forms d = option_map members_in (as_object d) >>= each_of (record_of forms)

-- .. as the member of them
unfoldable pub records_at : Forms → Data → Option (List LineRecord)
records_at forms d = get (codes "records") d >>= records_of forms

-- [TEXT,..]
unfoldable pub text_list_of : Data → Option (List (List ℕ))
text_list_of d = elements_of d >>= each_of as_str

-- PREFIX:[TEXT,..]
unfoldable pub about_of : List ℕ × Data → Option LineAbout
about_of m = do
  texts ← text_list_of m.1
  Some (m.0, texts)

-- {PREFIX:[TEXT,..],..}
unfoldable pub abouts_of : Data → Option (List LineAbout)
abouts_of d = option_map members_in (as_object d) >>= each_of about_of

-- .. which may be missing, and then nothing is given about a record
abbrev pub abouts_if_there : Option Data → Option (List LineAbout)
abouts_if_there None = Some []
abouts_if_there (Some d) = abouts_of d

-- each prefix is that of a record
abbrev pub are_about_records : List LineRecord → List LineAbout → Bool
are_about_records records abouts = list_all (λ a. is_among (map (λ r. r.0) records) a.0) abouts

-- .. as the member of them
unfoldable pub abouts_at : List LineRecord → Data → Option (List LineAbout)
abouts_at records d = abouts_if_there (get (codes "about") d) >>= tested (are_about_records records)

-- {"deposit":ID,"sets":[SPEC,..],"records":{PREFIX:[[NAME,TEXT],..],PREFIX:TEXT,..},"about":{PREFIX:[TEXT,..],..}}
unfoldable pub deposit_shape : Forms → Data → Option Shape
deposit_shape forms d = do
  identifier ← text_at (codes "deposit") d
  sets ← texts_at (codes "sets") d
  records ← records_at forms d
  abouts ← abouts_at records d
  Some (deposits identifier sets records abouts)

-- the names of the members of a deposit
abbrev pub deposit_members : List (List ℕ)
deposit_members = codes "deposit" ∷ codes "sets" ∷ codes "records" ∷ []

-- the name of the one that may be missing, and that is there only where a record may be an element
abbrev pub optional_members : Forms → List (List ℕ)
optional_members form.Fields = []
optional_members form.Elements = codes "about" ∷ []

abbrev pub has_deposit_members : Forms → Data → Bool
has_deposit_members forms d = has_members_and deposit_members (optional_members forms) d

-- {"put":ID,"sets":[SPEC,..],"records":{PREFIX:[[NAME,TEXT],..],PREFIX:TEXT,..},"about":{PREFIX:[TEXT,..],..}}
unfoldable pub put_shape : Forms → Data → Option Shape
put_shape forms d = do
  identifier ← text_at (codes "put") d
  sets ← texts_at (codes "sets") d
  records ← records_at forms d
  abouts ← abouts_at records d
  Some (puts identifier sets records abouts)

-- the names of the members of a put, which is a command where a record may be an element
abbrev pub put_members : List (List ℕ)
put_members = codes "put" ∷ codes "sets" ∷ codes "records" ∷ []

abbrev pub has_put_members : Forms → Data → Bool
has_put_members form.Fields d = false
has_put_members form.Elements d = has_members_and put_members (optional_members form.Elements) d

-- {"delete":ID}
unfoldable pub deletion_shape : Data → Option Shape
deletion_shape d = do
  identifier ← text_at (codes "delete") d
  Some (deletes identifier)

-- the name of the member of a deletion
abbrev pub deletion_members : List (List ℕ)
deletion_members = codes "delete" ∷ []

-- {"purge":BOUND}
unfoldable pub purge_shape : Data → Option Shape
purge_shape d = do
  before ← text_at (codes "purge") d
  Some (purges before)

-- the name of the member of a purge
abbrev pub purge_members : List (List ℕ)
purge_members = codes "purge" ∷ []

-- {"set":SPEC,"name":TEXT}
unfoldable pub set_shape : Data → Option Shape
set_shape d = do
  spec ← text_at (codes "set") d
  name ← text_at (codes "name") d
  Some (adds_set spec name)

-- the names of the members of a new set
abbrev pub set_members : List (List ℕ)
set_members = codes "set" ∷ codes "name" ∷ []

-- a command is an object with exactly the members of one shape, of these forms
unfoldable pub shape_of : Forms → Data → Option Shape
shape_of forms d =
    if has_deposit_members forms d then deposit_shape forms d
    else (if has_members deletion_members d then deletion_shape d
    else (if has_members purge_members d then purge_shape d
    else (if has_members set_members d then set_shape d
    else (if has_put_members forms d then put_shape forms d
    else None))))

-- ---- the records, each with what is about it

-- what is given under that prefix, and nothing if there is no such member
abbrev pub texts_or_none : Option (List (List ℕ)) → List (List ℕ)
texts_or_none None = []
texts_or_none (Some texts) = texts

abbrev pub texts_about : List LineAbout → List ℕ → List (List ℕ)
texts_about abouts prefix = texts_or_none (lookup (bytes_eq prefix) abouts)

abbrev pub with_about : List LineAbout → LineRecord → GivenRecord
with_about abouts r = (r.0, r.1, texts_about abouts r.0)

abbrev pub with_abouts : List LineRecord → List LineAbout → List GivenRecord
with_abouts records abouts = map (with_about abouts) records

-- ---- the elements

-- the canonical text of an element, or the byte of its first fault (XML 1.0; Namespaces in XML 1.0)
abbrev pub read_as_element : Result (List ℕ) ℕ → Result (List ℕ) LineRefusal
read_as_element (Ok element) = Ok element
read_as_element (Err at) = Err (BadXml at)

abbrev pub element_read : List ℕ → Result (List ℕ) LineRefusal
element_read text = read_as_element (canonical text)

-- it, as it is given
abbrev pub as_given : Result (List ℕ) LineRefusal → Result Given LineRefusal
as_given (Ok element) = Ok (Whole element)
as_given (Err refusal) = Err refusal

-- what is given, with the canonical text of an element
abbrev pub given_element : Given → Result Given LineRefusal
given_element (Listed fields) = Ok (Listed fields)
given_element (Whole text) = as_given (element_read text)

-- one before others: the first refusal is that of all
abbrev pub before_others : {A : Type 0} → Result A LineRefusal → Result (List A) LineRefusal → Result (List A) LineRefusal
before_others (Ok one) (Ok others) = Ok (one ∷ others)
before_others (Ok one) (Err refusal) = Err refusal
before_others (Err refusal) others = Err refusal

-- the texts about a record, in order
unfoldable pub about_read : List (List ℕ) → Result (List (List ℕ)) LineRefusal
about_read [] = Ok []
about_read (text ∷ texts) = before_others (element_read text) (about_read texts)

-- the record itself, and then what is about it
abbrev pub before_about : List ℕ → Result Given LineRefusal → Result (List (List ℕ)) LineRefusal → Result GivenRecord LineRefusal
before_about prefix (Ok given) (Ok about) = Ok (prefix, given, about)
before_about prefix (Ok given) (Err refusal) = Err refusal
before_about prefix (Err refusal) about = Err refusal

abbrev pub record_read : GivenRecord → Result GivenRecord LineRefusal
record_read r = before_about r.0 (given_element r.1) (about_read r.2)

-- the records, in the order of their prefixes
unfoldable pub elements_read : List GivenRecord → Result (List GivenRecord) LineRefusal
elements_read [] = Ok []
elements_read (r ∷ records) = before_others (record_read r) (elements_read records)

-- ---- the texts

-- each text of each field may stand in an XML document (XML 1.0, section 2.2)
unfoldable pub have_xml_texts : List Metadata → Bool
have_xml_texts records =
    list_all (λ metadata. list_all (λ field. is_xml_text field.text) metadata.1) records

-- the identifier, the setSpecs and the records of a deposit
abbrev pub DepositParts : Type 0
DepositParts = List ℕ × List (List ℕ) × List GivenRecord

-- these of records whose elements are read
abbrev pub asked_parts : List ℕ → List (List ℕ) → Result (List GivenRecord) LineRefusal → Result DepositParts LineRefusal
asked_parts identifier sets (Err refusal) = Err refusal
asked_parts identifier sets (Ok records) =
    if not (may_be_identifier identifier) then Err BadIdentifier
    else (if not (list_all may_be_set_spec sets) then Err BadSetSpec
    else (if not (have_xml_texts (map kept records)) then Err BadText
    else Ok (identifier, sets, records)))

-- the deposit of these parts, and the put
abbrev pub as_deposit : Result DepositParts LineRefusal → Result Change LineRefusal
as_deposit (Ok parts) = Ok (change.Deposit parts.0 parts.1 parts.2)
as_deposit (Err refusal) = Err refusal

abbrev pub as_put : Result DepositParts LineRefusal → Result Change LineRefusal
as_put (Ok parts) = Ok (change.Put parts.0 parts.1 parts.2)
as_put (Err refusal) = Err refusal

-- the change that a command requests: its elements, its identifier, each of its setSpecs, and the texts of its fields or its setName
-- are tested, in this order. The repository, which knows its granularity, reads the bound of a purge
unfoldable pub asked_change : Shape → Result Change LineRefusal
asked_change (deposits identifier sets records abouts) = as_deposit (asked_parts identifier sets (elements_read (with_abouts records abouts)))
asked_change (puts identifier sets records abouts) = as_put (asked_parts identifier sets (elements_read (with_abouts records abouts)))
asked_change (deletes identifier) =
    if may_be_identifier identifier then Ok (change.Delete identifier) else Err BadIdentifier
asked_change (purges before) = Ok (change.Purge before)
asked_change (adds_set spec name) =
    if not (may_be_set_spec spec) then Err BadSetSpec
    else (if not (is_short_text name) then Err BadText
    else Ok (change.AddSet spec name))

-- ---- the line

-- a value without a shape is no command
abbrev pub change_asked : Option Shape → Result Change LineRefusal
change_asked None = Err BadCommand
change_asked (Some shape) = asked_change shape

-- a line that is no JSON text requests nothing
abbrev pub value_asked : Forms → Option Data → Result Change LineRefusal
value_asked forms None = Err BadJson
value_asked forms (Some d) = change_asked (shape_of forms d)

-- the change that a line requests, where its records have these forms, or the first refusal: of the JSON, of the shape, of the elements, of the
-- texts
unfoldable pub line_of : Forms → List ℕ → Result Change LineRefusal
line_of forms line = value_asked forms (json_in line)
