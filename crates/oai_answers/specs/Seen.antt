-- What the bytes of a document show to a reader: all that the document prints. OAI-PMH 2.0, sections 2.5, 3.2, 3.5, 3.6
-- and 4.
use Rattle.std.specs.Prelude.{◌≡◌, ◌⊎◌, ℕ, Bool, true, if◌then◌else◌, List, [], map, codes, Option, None, Some}
use Rattle.std.specs.Fmt.{decimal}
use Rattle.std.specs.List.{list_all}
use Rattle.std.specs.Str.{bytes_eq}
use Rattle.oai_time.specs.TimeTexts.{datestamp_text, second_text}
use Rattle.oai_time.specs.declared.granularity.Granularity.{Granularity}
use Rattle.oai_item.specs.Elements.{about_in}
use Rattle.oai_item.specs.Formats.{dublin_core}
use Rattle.oai_item.specs.Item.{ItemState, fields_in}
use Rattle.oai_item.specs.Known.{are_fields_of}
use Rattle.oai_item.specs.Rules.{is_allowed}
use Rattle.oai_item.specs.declared.formats.Format.{Format}
use Rattle.oai_answers.specs.Answers.{Attributes, Continuation, DescribedSet, Description, Document, VerbAnswer, arguments_told, completes, fails, gives_record, identifies, lists_formats, lists_headers, lists_records, lists_sets, remains, whole}
use Rattle.oai_answers.specs.MetadataTrees.{element_tree, metadata_tree}
use Rattle.oai_answers.specs.declared.errors.ErrorCode.{ErrorCode}
use Rattle.oai_xml.specs.Documents.{is_canonical}
use Rattle.oai_xml.specs.Trees.{Tree}
use Rattle.oai_item.specs.declared.deleted_record.DeletedRecord.{DeletedRecord}

-- ---- what is seen

-- of a header (section 2.5): whether the record is live, its identifier, its datestamp as it is printed, and its
-- setSpecs in order
pub record SeenHeader : Type 0 where
  pub live : Bool
  pub identifier : List ℕ
  pub datestamp : List ℕ
  pub sets : List (List ℕ)

-- of a record: its header; and, where it is live, the tree of its metadata, and those of the elements about it. `fields_law` says what the tree of
-- metadata shows of fields
pub record SeenRecord : Type 0 where
  pub header : SeenHeader
  pub metadata : Option Tree
  pub about : List Tree

-- of how a list continues (section 3.5): nothing; or a token, with expirationDate, completeListSize and cursor as they
-- are printed; or the empty token, with completeListSize and cursor
pub data SeenToken : Type 0 where
  no_token : SeenToken
  seen_token : List ℕ → List ℕ → List ℕ → List ℕ → SeenToken
  empty_token : List ℕ → List ℕ → SeenToken

-- of Identify (section 4.2): all that it returns, the earliest datestamp as it is printed, and the trees of the elements that describe the
-- repository
pub record SeenIdentity : Type 0 where
  pub name : List ℕ
  pub base : List ℕ
  pub addresses : List (List ℕ)
  pub earliest : List ℕ
  pub deleted : DeletedRecord
  pub granularity : Granularity
  pub descriptions : List Tree

-- of a format in ListMetadataFormats (section 4.4)
pub record SeenOffer : Type 0 where
  pub prefix : List ℕ
  pub schema : List ℕ
  pub namespace : List ℕ

-- of a set (section 4.6): its setSpec, its setName, and the trees of the elements that describe it
pub record SeenSet : Type 0 where
  pub spec : List ℕ
  pub name : List ℕ
  pub descriptions : List Tree

-- of an answer
pub data SeenAnswer : Type 0 where
  seen_error : ErrorCode → SeenAnswer
  seen_identity : SeenIdentity → SeenAnswer
  seen_formats : List SeenOffer → SeenAnswer
  seen_sets : List SeenSet → SeenAnswer
  seen_record : SeenRecord → SeenAnswer
  seen_headers : List SeenHeader → SeenToken → SeenAnswer
  seen_records : List SeenRecord → SeenToken → SeenAnswer

-- of a document: its date as it is printed, the base URL, the arguments as they are written, and the answer
pub record SeenDocument : Type 0 where
  pub date : List ℕ
  pub base : List ℕ
  pub arguments : Attributes
  pub answer : SeenAnswer

-- ---- what a document shows

abbrev pub header_seen : Granularity → ItemState → SeenHeader
header_seen granularity item = record {
  live = item.live;
  identifier = item.identifier;
  datestamp = datestamp_text granularity item.stamp;
  sets = item.sets;
}

-- the record in the format
abbrev pub metadata_seen : Format → ItemState → Option Tree
metadata_seen format item =
    if item.live then Some (metadata_tree format (fields_in format.prefix item.formats)) else None

-- the elements about it
abbrev pub about_seen : Format → ItemState → List Tree
about_seen format item =
    if item.live then map element_tree (about_in (fields_in format.prefix item.formats)) else []

abbrev pub record_seen : Granularity → Format → ItemState → SeenRecord
record_seen granularity format item = record {
  header = header_seen granularity item;
  metadata = metadata_seen format item;
  about = about_seen format item;
}

abbrev pub token_seen : Continuation → SeenToken
token_seen whole = no_token
token_seen (remains expires extent token) = seen_token token (second_text expires) (decimal extent.size) (decimal extent.cursor)
token_seen (completes extent) = empty_token (decimal extent.size) (decimal extent.cursor)

abbrev pub identity_seen : List ℕ → Description → SeenIdentity
identity_seen base d = record {
  name = d.name;
  base = base;
  addresses = d.addresses;
  earliest = datestamp_text d.granularity d.earliest;
  deleted = d.deleted;
  granularity = d.granularity;
  descriptions = map element_tree d.descriptions;
}

abbrev pub offer_seen : Format → SeenOffer
offer_seen format = record { prefix = format.prefix; schema = format.schema; namespace = format.namespace }

abbrev pub set_seen : DescribedSet → SeenSet
set_seen set = record { spec = set.spec; name = set.name; descriptions = map element_tree set.descriptions }

abbrev pub answer_seen : List ℕ → VerbAnswer → SeenAnswer
answer_seen base (fails code) = seen_error code
answer_seen base (identifies d) = seen_identity (identity_seen base d)
answer_seen base (lists_formats formats) = seen_formats (map offer_seen formats)
answer_seen base (lists_sets sets) = seen_sets (map set_seen sets)
answer_seen base (gives_record d) = seen_record (record_seen d.granularity d.format d.item)
answer_seen base (lists_headers page) = seen_headers (map (header_seen page.granularity) page.items) (token_seen page.continuation)
answer_seen base (lists_records format page) = seen_records (map (record_seen page.granularity format) page.items) (token_seen page.continuation)

abbrev pub document_seen : Document → SeenDocument
document_seen d = record {
  date = second_text d.date;
  base = d.base;
  arguments = arguments_told d.answer d.asked;
  answer = answer_seen d.base d.answer;
}

-- ---- the documents for which that holds

-- a format of a repository (section 3.4): oai_dc, or one that satisfies the rules of a declared format
abbrev pub IsGoodFormat : Format → Type 0
IsGoodFormat format = (format ≡ dublin_core) ⊎ (is_allowed format ≡ true)

-- the item's record in the format: each field of the record itself is a field of the format, or they keep an element of it; and what is about it are
-- elements in canonical text
abbrev pub has_own_fields : Format → ItemState → Bool
has_own_fields format item = are_fields_of (Some format) (fields_in format.prefix item.formats)

-- what describes a set are elements in canonical text
abbrev pub has_elements : DescribedSet → Bool
has_elements set = list_all is_canonical set.descriptions

-- the records of an answer are in such formats, with such fields, and what describes a repository or a set are elements in canonical text
abbrev pub IsRegular : VerbAnswer → Type 0
IsRegular (fails code) = Unit {0}
IsRegular (identifies d) = list_all is_canonical d.descriptions ≡ true
IsRegular (lists_formats formats) = Unit {0}
IsRegular (lists_sets sets) = list_all has_elements sets ≡ true
IsRegular (gives_record d) = IsGoodFormat d.format × (has_own_fields d.format d.item ≡ true)
IsRegular (lists_headers page) = Unit {0}
IsRegular (lists_records format page) = IsGoodFormat format × (list_all (has_own_fields format) page.items ≡ true)

-- ---- what trees show of fields

-- of a format: that it is unqualified Dublin Core; or its root, its namespace and its schema
pub data SeenFormat : Type 0 where
  seen_dublin_core : SeenFormat
  seen_declared : List ℕ → List ℕ → List ℕ → SeenFormat

-- oai_dc is known by its prefix
abbrev pub format_seen : Format → SeenFormat
format_seen format =
    if bytes_eq format.prefix (codes "oai_dc") then seen_dublin_core
    else seen_declared format.root format.namespace format.schema
