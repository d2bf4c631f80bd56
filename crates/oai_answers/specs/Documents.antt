-- The bytes of the XML document of an answer: OAI-PMH 2.0, sections 3.2, 3.3, 3.5, 3.6 and 4, and its schema. There is
-- no white space between elements, and an element without content has a start tag and an end tag. Each part is defined
-- before the one that contains it.
use Rattle.std.specs.Prelude.{ℕ, Bool, true, false, if◌then◌else◌, List, [], ◌++◌, codes, Option, Some, None}
use Rattle.std.specs.Fmt.{decimal}
use Rattle.std.specs.List.{flat_map}
use Rattle.std.specs.Str.{bytes_eq}
use Rattle.oai_names.specs.Escapes.{escaped_text, escaped_attribute}
use Rattle.oai_time.specs.TimeTexts.{datestamp_text, second_text}
use Rattle.oai_time.specs.declared.granularity.Granularity.{Granularity}
use Rattle.oai_time.specs.declared.granularity.Granularity.TheVariants.{Day, Second}
use Rattle.oai_item.specs.Elements.{about_in, content_in, element_in}
use Rattle.oai_item.specs.declared.fields.Field.{Field}
use Rattle.oai_item.specs.declared.formats.Format.{Format}
use Rattle.oai_answers.specs.Answers.{Attributes, arguments_told, DescribedSet, Description, Dissemination, Continuation, whole, remains, completes, Page, VerbAnswer, fails, identifies, lists_formats, lists_sets, gives_record, lists_headers, lists_records, Document}
use Rattle.oai_item.specs.Item.{ItemState, fields_in}
use Rattle.oai_answers.specs.Markup.{container, plain, end_tag, element, text_element, spelled_attribute, attribute}
use Rattle.oai_answers.specs.declared.errors.ErrorCode.{ErrorCode}
use Rattle.oai_answers.specs.declared.errors.ErrorCode.TheVariants.{BadVerb, BadArgument, BadResumptionToken, CannotDisseminateFormat, IdDoesNotExist, NoRecordsMatch, NoMetadataFormats, NoSetHierarchy}
use Rattle.oai_item.specs.declared.deleted_record.DeletedRecord.{DeletedRecord}
use Rattle.oai_item.specs.declared.deleted_record.DeletedRecord.TheVariants.{No, Transient, Persistent}
use Rattle.oai_answers.specs.declared.tokens.Extent.{Extent}
use Rattle.oai_answers.specs.declared.request.Argument.{Argument}
use Rattle.oai_answers.specs.declared.request.Argument.TheVariants as argument
use Rattle.oai_answers.specs.declared.metadata.Qualifier.{Qualifier}
use Rattle.oai_answers.specs.declared.metadata.Qualifier.TheVariants.{Dc, Bare}

-- The root and the request. Section 3.2

-- the XML declaration (XML 1.0, section 2.8), a line end, and the start tag of the root, with its namespaces
-- (Namespaces in XML 1.0, section 3) and its schema (XML Schema Part 1, section 2.6.3)
unfoldable pub head : List ℕ
head = codes "<?xml version=\"1.0\" encoding=\"UTF-8\"?>\n<OAI-PMH xmlns=\"http://www.openarchives.org/OAI/2.0/\" xmlns:xsi=\"http://www.w3.org/2001/XMLSchema-instance\" xsi:schemaLocation=\"http://www.openarchives.org/OAI/2.0/ http://www.openarchives.org/OAI/2.0/OAI-PMH.xsd\">"

-- an argument, if it was given
abbrev pub given_attribute : List ℕ → Option (List ℕ) → List ℕ
given_attribute name None = []
given_attribute name (Some value) = attribute name value

-- the name of an argument
abbrev pub argument_name : Argument → List ℕ
argument_name argument.Verb = codes "verb"
argument_name argument.Identifier = codes "identifier"
argument_name argument.MetadataPrefix = codes "metadataPrefix"
argument_name argument.From = codes "from"
argument_name argument.Until = codes "until"
argument_name argument.Set = codes "set"
argument_name argument.ResumptionToken = codes "resumptionToken"

-- the arguments in their order
unfoldable pub attributes : Attributes → List ℕ
attributes asked =
    given_attribute (codes "verb") asked.verb
    ++ given_attribute (codes "identifier") asked.identifier
    ++ given_attribute (codes "metadataPrefix") asked.prefix
    ++ given_attribute (codes "from") asked.from
    ++ given_attribute (codes "until") asked.until
    ++ given_attribute (codes "set") asked.set
    ++ given_attribute (codes "resumptionToken") asked.token

-- the request: its arguments as attributes, and the base URL
unfoldable pub request_element : Document → List ℕ
request_element d =
    plain (codes "<request") ++ attributes (arguments_told d.answer d.asked) ++ plain (codes ">")
    ++ escaped_text d.base
    ++ end_tag (codes "request")

-- Errors. Section 3.6; the texts are this repository's own

-- the code of an error
abbrev pub code_of : ErrorCode → List ℕ
code_of BadVerb = codes "badVerb"
code_of BadArgument = codes "badArgument"
code_of BadResumptionToken = codes "badResumptionToken"
code_of CannotDisseminateFormat = codes "cannotDisseminateFormat"
code_of IdDoesNotExist = codes "idDoesNotExist"
code_of NoRecordsMatch = codes "noRecordsMatch"
code_of NoMetadataFormats = codes "noMetadataFormats"
code_of NoSetHierarchy = codes "noSetHierarchy"

-- the message for a person beside the code
abbrev pub message_of : ErrorCode → List ℕ
message_of BadVerb = codes "The verb is missing, repeated or illegal."
message_of BadArgument = codes "An argument is illegal, missing, repeated or of illegal syntax."
message_of BadResumptionToken = codes "The resumption token is invalid or has expired."
message_of CannotDisseminateFormat = codes "The metadata format is not available."
message_of IdDoesNotExist = codes "No item has this identifier."
message_of NoRecordsMatch = codes "No records match."
message_of NoMetadataFormats = codes "The item has no metadata formats."
message_of NoSetHierarchy = codes "The repository has no sets."

-- an error: its code as an attribute, and its text
unfoldable pub error_element : ErrorCode → List ℕ
error_element code =
    plain (codes "<error")
    ++ spelled_attribute (codes "code") (plain (code_of code))
    ++ plain (codes ">")
    ++ plain (message_of code)
    ++ end_tag (codes "error")

-- Identify. Section 4.2

-- the policy on deleted records
abbrev pub deleted_text : DeletedRecord → List ℕ
deleted_text No = codes "no"
deleted_text Transient = codes "transient"
deleted_text Persistent = codes "persistent"

-- the granularity of datestamps
abbrev pub granularity_text : Granularity → List ℕ
granularity_text Day = codes "YYYY-MM-DD"
granularity_text Second = codes "YYYY-MM-DDThh:mm:ssZ"

-- a repository, at its base URL, with the containers that describe it
unfoldable pub identify_element : List ℕ → Description → List ℕ
identify_element base d = element (codes "Identify")
    (text_element (codes "repositoryName") d.name
    ++ text_element (codes "baseURL") base
    ++ element (codes "protocolVersion") (plain (codes "2.0"))
    ++ flat_map (text_element (codes "adminEmail")) d.addresses
    ++ element (codes "earliestDatestamp") (datestamp_text d.granularity d.earliest)
    ++ element (codes "deletedRecord") (plain (deleted_text d.deleted))
    ++ element (codes "granularity") (plain (granularity_text d.granularity))
    ++ flat_map (container (codes "description")) d.descriptions)

-- Metadata formats. Section 4.4

-- a format, its prefix, its schema and its namespace
unfoldable pub format_element : Format → List ℕ
format_element format = element (codes "metadataFormat")
    (text_element (codes "metadataPrefix") format.prefix
    ++ text_element (codes "schema") format.schema
    ++ text_element (codes "metadataNamespace") format.namespace)

unfoldable pub formats_element : List Format → List ℕ
formats_element formats = element (codes "ListMetadataFormats") (flat_map format_element formats)

-- Sets. Section 4.6

-- a set, its setSpec, its setName and the containers that describe it
unfoldable pub set_element : DescribedSet → List ℕ
set_element set =
    element (codes "set")
    (text_element (codes "setSpec") set.spec
    ++ text_element (codes "setName") set.name
    ++ flat_map (container (codes "setDescription")) set.descriptions)

unfoldable pub sets_element : List DescribedSet → List ℕ
sets_element sets = element (codes "ListSets") (flat_map set_element sets)

-- Metadata. Section 2.5

-- what precedes the name of a field: the prefix of a namespace and a colon, or nothing
abbrev pub qualifier_of : Qualifier → List ℕ
qualifier_of Dc = codes "dc:"
qualifier_of Bare = []

-- a field; the name of its element begins with the prefix of a namespace and a colon, or with nothing
unfoldable pub field_element : List ℕ → Field → List ℕ
field_element qualifier field = text_element (qualifier ++ field.name) field.text

-- the start tag of unqualified Dublin Core, with its namespaces and its schema (the OAI's guidelines for repository
-- implementers, oai_dc)
unfoldable pub dublin_core_start : List ℕ
dublin_core_start = codes "<oai_dc:dc xmlns:oai_dc=\"http://www.openarchives.org/OAI/2.0/oai_dc/\" xmlns:dc=\"http://purl.org/dc/elements/1.1/\" xmlns:xsi=\"http://www.w3.org/2001/XMLSchema-instance\" xsi:schemaLocation=\"http://www.openarchives.org/OAI/2.0/oai_dc/ http://www.openarchives.org/OAI/2.0/oai_dc.xsd\">"

-- unqualified Dublin Core: an element for each field, with the names of DCES 1.1
unfoldable pub dublin_core_metadata : List Field → List ℕ
dublin_core_metadata fields =
    dublin_core_start
    ++ flat_map (field_element (codes "dc:")) fields
    ++ end_tag (codes "oai_dc:dc")

-- the location of the schema of a namespace: the two, with a space between them (XML Schema Part 1, section 2.6.3)
unfoldable pub schema_location : Format → List ℕ
schema_location format = spelled_attribute (codes "xsi:schemaLocation")
    (escaped_attribute format.namespace ++ plain (codes " ") ++ escaped_attribute format.schema)

-- the start tag of a declared format, with its namespaces and its schema: the first is the default one, so that no name
-- in it needs a prefix (Namespaces in XML 1.0, sections 3 and 6.2)
unfoldable pub declared_start : Format → List ℕ
declared_start format =
    plain (codes "<") ++ plain format.root
    ++ attribute (codes "xmlns") format.namespace
    ++ attribute (codes "xmlns:xsi") (codes "http://www.w3.org/2001/XMLSchema-instance")
    ++ schema_location format
    ++ plain (codes ">")

-- a declared format
unfoldable pub declared_metadata : Format → List Field → List ℕ
declared_metadata format fields =
    declared_start format ++ flat_map (field_element []) fields ++ end_tag format.root

-- fields in their format; oai_dc is known by its prefix
unfoldable pub fields_metadata : Format → List Field → List ℕ
fields_metadata format fields =
    if bytes_eq format.prefix (codes "oai_dc") then dublin_core_metadata fields
    else declared_metadata format fields

-- an element is written as it stands: its canonical text declares a default namespace, so no name in it changes its meaning here (Namespaces in
-- XML 1.0, section 6.2)
abbrev pub content_written : Format → List Field → Option (List ℕ) → List ℕ
content_written format fields None = fields_metadata format fields
content_written format fields (Some element) = plain element

-- the metadata of a record: the element that its fields keep as the record itself, or those that are it
unfoldable pub metadata : Format → List Field → List ℕ
metadata format fields = content_written format (content_in fields) (element_in fields)

-- a record behind its header: its metadata, and then each element about it, as it stands
unfoldable pub record_content : Format → List Field → List ℕ
record_content format fields =
    element (codes "metadata") (metadata format fields) ++ flat_map (container (codes "about")) (about_in fields)

-- Headers and records. Sections 2.5, 2.5.1 and 4.1

-- the start tag of a header, with a status if the record is deleted
abbrev pub header_start : Bool → List ℕ
header_start true = plain (codes "<header>")
header_start false = plain (codes "<header status=\"deleted\">")

-- the identifier, the datestamp and the sets of an item
unfoldable pub header_element : Granularity → ItemState → List ℕ
header_element granularity item =
    header_start item.live
    ++ text_element (codes "identifier") item.identifier
    ++ element (codes "datestamp") (datestamp_text granularity item.stamp)
    ++ flat_map (text_element (codes "setSpec")) item.sets
    ++ end_tag (codes "header")

-- what stands in a record behind its header, of the item's record in the format: a deleted record has its header alone
unfoldable pub behind_header : Format → ItemState → List ℕ
behind_header format item = if item.live then record_content format (fields_in format.prefix item.formats) else []

unfoldable pub record_element : Granularity → Format → ItemState → List ℕ
record_element granularity format item =
    element (codes "record") (header_element granularity item ++ behind_header format item)

unfoldable pub get_record_element : Dissemination → List ℕ
get_record_element d = element (codes "GetRecord") (record_element d.granularity d.format d.item)

-- Lists of headers and of records. Sections 3.5, 4.3 and 4.5

-- how many records the whole list has, and how many of them precede this part
unfoldable pub extent_attributes : Extent → List ℕ
extent_attributes extent =
    spelled_attribute (codes "completeListSize") (decimal extent.size)
    ++ spelled_attribute (codes "cursor") (decimal extent.cursor)

-- the element `resumptionToken`: none if the list is whole, otherwise the token, or the empty one if the list ends
-- here. When the token expires is written in seconds, whatever the granularity of the datestamps
unfoldable pub token_element : Continuation → List ℕ
token_element whole = []
token_element (remains expires extent token) =
    plain (codes "<resumptionToken")
    ++ spelled_attribute (codes "expirationDate") (second_text expires)
    ++ extent_attributes extent
    ++ plain (codes ">") ++ escaped_text token ++ end_tag (codes "resumptionToken")
token_element (completes extent) =
    plain (codes "<resumptionToken") ++ extent_attributes extent ++ plain (codes ">")
    ++ end_tag (codes "resumptionToken")

unfoldable pub identifiers_element : Page → List ℕ
identifiers_element page = element (codes "ListIdentifiers")
    (flat_map (header_element page.granularity) page.items ++ token_element page.continuation)

unfoldable pub records_element : Format → Page → List ℕ
records_element format page = element (codes "ListRecords")
    (flat_map (record_element page.granularity format) page.items
    ++ token_element page.continuation)

-- The document. Section 3.2

-- the answer itself
abbrev pub answer_element : List ℕ → VerbAnswer → List ℕ
answer_element base (fails code) = error_element code
answer_element base (identifies d) = identify_element base d
answer_element base (lists_formats formats) = formats_element formats
answer_element base (lists_sets sets) = sets_element sets
answer_element base (gives_record d) = get_record_element d
answer_element base (lists_headers page) = identifiers_element page
answer_element base (lists_records format page) = records_element format page

-- the bytes of the document, with a line end after its last tag
unfoldable pub document : Document → List ℕ
document d =
    head
    ++ element (codes "responseDate") (second_text d.date)
    ++ request_element d
    ++ answer_element d.base d.answer
    ++ plain (codes "</OAI-PMH>\n")
