-- The XML document of an answer, as a tree: OAI-PMH 2.0, sections 3.2, 3.3, 3.5, 3.6 and 4. Each part is defined before
-- the one that contains it.
use Rattle.std.specs.Prelude.{ℕ, Bool, true, false, if◌then◌else◌, List, [], ◌∷◌, ◌++◌, map, codes, Option, Some, None}
use Rattle.std.specs.Fmt.{decimal}
use Rattle.oai_time.specs.TimeTexts.{datestamp_text, second_text}
use Rattle.oai_time.specs.declared.granularity.Granularity.{Granularity}
use Rattle.oai_item.specs.Elements.{about_in}
use Rattle.oai_item.specs.Item.{ItemState, fields_in}
use Rattle.oai_item.specs.declared.fields.Field.{Field}
use Rattle.oai_item.specs.declared.formats.Format.{Format}
use Rattle.oai_xml.specs.Trees.{Attribute, Tree}
use Rattle.oai_answers.specs.Answers.{Attributes, Continuation, DescribedSet, Description, Document, Page, VerbAnswer, arguments_told, completes, fails, gives_record, identifies, lists_formats, lists_headers, lists_records, lists_sets, remains, whole}
use Rattle.oai_answers.specs.Documents.{code_of, deleted_text, granularity_text, message_of}
use Rattle.oai_answers.specs.declared.errors.ErrorCode.{ErrorCode}
use Rattle.oai_answers.specs.declared.tokens.Extent.{Extent}
use Rattle.oai_answers.specs.ElementParts.{bare_leaf, bare_parent, element_attribute, leaf, parent}
use Rattle.oai_answers.specs.MetadataTrees.{element_tree, instance_namespace, metadata_tree}

-- ---- the request. Section 3.2

-- an argument, if it was given
abbrev pub argument_attribute : List ℕ → Option (List ℕ) → List Attribute
argument_attribute name None = []
argument_attribute name (Some value) = element_attribute name value ∷ []

-- the arguments in their order
unfoldable pub arguments : Attributes → List Attribute
arguments asked =
    argument_attribute (codes "verb") asked.verb
    ++ (argument_attribute (codes "identifier") asked.identifier
    ++ (argument_attribute (codes "metadataPrefix") asked.prefix
    ++ (argument_attribute (codes "from") asked.from
    ++ (argument_attribute (codes "until") asked.until
    ++ (argument_attribute (codes "set") asked.set
    ++ argument_attribute (codes "resumptionToken") asked.token)))))

-- the request: its arguments as attributes, and the base URL
unfoldable pub request_tree : Document → Tree
request_tree d = leaf (codes "request") (arguments (arguments_told d.answer d.asked)) d.base

-- ---- errors. Section 3.6

unfoldable pub error_tree : ErrorCode → Tree
error_tree code =
    leaf (codes "error") (element_attribute (codes "code") (code_of code) ∷ []) (message_of code)

-- ---- containers of elements. Sections 2.5, 4.2 and 4.6

-- an element in a container of that name, by its canonical text
unfoldable pub container_tree : List ℕ → List ℕ → Tree
container_tree name text = bare_parent name (element_tree text ∷ [])

-- ---- Identify. Section 4.2

unfoldable pub identify_tree : List ℕ → Description → Tree
identify_tree base d = bare_parent (codes "Identify")
    (bare_leaf (codes "repositoryName") d.name
    ∷ bare_leaf (codes "baseURL") base
    ∷ bare_leaf (codes "protocolVersion") (codes "2.0")
    ∷ (map (bare_leaf (codes "adminEmail")) d.addresses
    ++ bare_leaf (codes "earliestDatestamp") (datestamp_text d.granularity d.earliest)
    ∷ bare_leaf (codes "deletedRecord") (deleted_text d.deleted)
    ∷ bare_leaf (codes "granularity") (granularity_text d.granularity)
    ∷ map (container_tree (codes "description")) d.descriptions))

-- ---- formats and sets. Sections 4.4 and 4.6

unfoldable pub format_tree : Format → Tree
format_tree format = bare_parent (codes "metadataFormat")
    (bare_leaf (codes "metadataPrefix") format.prefix
    ∷ bare_leaf (codes "schema") format.schema
    ∷ bare_leaf (codes "metadataNamespace") format.namespace
    ∷ [])

unfoldable pub formats_tree : List Format → Tree
formats_tree formats = bare_parent (codes "ListMetadataFormats") (map format_tree formats)

unfoldable pub set_tree : DescribedSet → Tree
set_tree set = bare_parent (codes "set")
    (bare_leaf (codes "setSpec") set.spec ∷ bare_leaf (codes "setName") set.name ∷ map (container_tree (codes "setDescription")) set.descriptions)

unfoldable pub sets_tree : List DescribedSet → Tree
sets_tree sets = bare_parent (codes "ListSets") (map set_tree sets)

-- ---- headers and records. Sections 2.5, 2.5.1 and 4.1

-- the status of a deleted record
abbrev pub status : Bool → List Attribute
status true = []
status false = element_attribute (codes "status") (codes "deleted") ∷ []

unfoldable pub header_tree : Granularity → ItemState → Tree
header_tree granularity item = parent (codes "header") (status item.live)
    (bare_leaf (codes "identifier") item.identifier
    ∷ bare_leaf (codes "datestamp") (datestamp_text granularity item.stamp)
    ∷ map (bare_leaf (codes "setSpec")) item.sets)

-- a record behind its header: its metadata, and then each element about it
unfoldable pub content_trees : Format → List Field → List Tree
content_trees format fields =
    bare_parent (codes "metadata") (metadata_tree format fields ∷ [])
    ∷ map (container_tree (codes "about")) (about_in fields)

-- what stands in a record behind its header, of the item's record in the format: a deleted record has its header alone
unfoldable pub trees_behind_header : Format → ItemState → List Tree
trees_behind_header format item =
    if item.live then content_trees format (fields_in format.prefix item.formats) else []

unfoldable pub record_tree : Granularity → Format → ItemState → Tree
record_tree granularity format item =
    bare_parent (codes "record") (header_tree granularity item ∷ trees_behind_header format item)

-- ---- lists of headers and of records. Sections 3.5, 4.3 and 4.5

unfoldable pub extent : Extent → List Attribute
extent e =
    element_attribute (codes "completeListSize") (decimal e.size)
    ∷ element_attribute (codes "cursor") (decimal e.cursor)
    ∷ []

-- the resumption token: none where the list is whole, the empty one where it ends here
unfoldable pub token_trees : Continuation → List Tree
token_trees whole = []
token_trees (remains expires part token) = leaf (codes "resumptionToken")
    (element_attribute (codes "expirationDate") (second_text expires) ∷ extent part) token ∷ []
token_trees (completes part) = leaf (codes "resumptionToken") (extent part) [] ∷ []

unfoldable pub headers_tree : Page → Tree
headers_tree page = bare_parent (codes "ListIdentifiers")
    (map (header_tree page.granularity) page.items ++ token_trees page.continuation)

unfoldable pub records_tree : Format → Page → Tree
records_tree format page = bare_parent (codes "ListRecords")
    (map (record_tree page.granularity format) page.items ++ token_trees page.continuation)

-- ---- the document. Section 3.2

unfoldable pub answer_tree : List ℕ → VerbAnswer → Tree
answer_tree base (fails code) = error_tree code
answer_tree base (identifies d) = identify_tree base d
answer_tree base (lists_formats formats) = formats_tree formats
answer_tree base (lists_sets sets) = sets_tree sets
answer_tree base (gives_record d) =
    bare_parent (codes "GetRecord") (record_tree d.granularity d.format d.item ∷ [])
answer_tree base (lists_headers page) = headers_tree page
answer_tree base (lists_records format page) = records_tree format page

-- the namespace of OAI-PMH, and the location of its schema
unfoldable pub root_attributes : List Attribute
root_attributes =
    element_attribute (codes "xmlns") (codes "http://www.openarchives.org/OAI/2.0/")
    ∷ element_attribute (codes "xmlns:xsi") instance_namespace
    ∷ element_attribute (codes "xsi:schemaLocation") (codes "http://www.openarchives.org/OAI/2.0/ http://www.openarchives.org/OAI/2.0/OAI-PMH.xsd")
    ∷ []

unfoldable pub document_tree : Document → Tree
document_tree d = parent (codes "OAI-PMH") root_attributes
    (bare_leaf (codes "responseDate") (second_text d.date)
    ∷ request_tree d
    ∷ answer_tree d.base d.answer
    ∷ [])

-- ---- the file

-- the XML declaration, and a line end (XML 1.0, section 2.8)
unfoldable pub xml_declaration : List ℕ
xml_declaration = codes "<?xml version=\"1.0\" encoding=\"UTF-8\"?>\n"

unfoldable pub line_end : List ℕ
line_end = codes "\n"
