-- The metadata of a record, as a tree: OAI-PMH 2.0, section 2.5.
use Rattle.std.specs.Prelude.{ℕ, if◌then◌else◌, List, [], ◌∷◌, ◌++◌, map, codes, Option, Some, None, option_and_then}
use Rattle.std.specs.Str.{bytes_eq}
use Rattle.oai_item.specs.Elements.{content_in, element_in}
use Rattle.oai_item.specs.declared.fields.Field.{Field}
use Rattle.oai_item.specs.declared.formats.Format.{Format}
use Rattle.oai_xml.specs.Documents.{tree_in}
use Rattle.oai_xml.specs.Trees.{Attribute, Tree}
use Rattle.oai_answers.specs.ElementParts.{bare_leaf, bare_parent, element_attribute, parent}

-- ---- fields

-- the namespace of XML Schema's attributes in documents (XML Schema Part 1, section 2.6)
unfoldable pub instance_namespace : List ℕ
instance_namespace = codes "http://www.w3.org/2001/XMLSchema-instance"

-- a field; what precedes its name is the prefix of a namespace and a colon, or nothing
unfoldable pub field_tree : List ℕ → Field → Tree
field_tree qualifier field = bare_leaf (qualifier ++ field.name) field.text

unfoldable pub dublin_core_attributes : List Attribute
dublin_core_attributes =
    element_attribute (codes "xmlns:oai_dc") (codes "http://www.openarchives.org/OAI/2.0/oai_dc/")
    ∷ element_attribute (codes "xmlns:dc") (codes "http://purl.org/dc/elements/1.1/")
    ∷ element_attribute (codes "xmlns:xsi") instance_namespace
    ∷ element_attribute (codes "xsi:schemaLocation") (codes "http://www.openarchives.org/OAI/2.0/oai_dc/ http://www.openarchives.org/OAI/2.0/oai_dc.xsd")
    ∷ []

-- unqualified Dublin Core (the OAI's guidelines for repository implementers, oai_dc)
unfoldable pub dublin_core_tree : List Field → Tree
dublin_core_tree fields =
    parent (codes "oai_dc:dc") dublin_core_attributes (map (field_tree (codes "dc:")) fields)

-- the namespaces of a declared format, of which its own is the default one, and its schema
unfoldable pub declared_attributes : Format → List Attribute
declared_attributes format =
    element_attribute (codes "xmlns") format.namespace
    ∷ element_attribute (codes "xmlns:xsi") instance_namespace
    ∷ element_attribute (codes "xsi:schemaLocation") (format.namespace ++ codes " " ++ format.schema)
    ∷ []

unfoldable pub declared_tree : Format → List Field → Tree
declared_tree format fields =
    parent format.root (declared_attributes format) (map (field_tree []) fields)

-- the fields of a record: oai_dc is known by its prefix
unfoldable pub fields_tree : Format → List Field → Tree
fields_tree format fields =
    if bytes_eq format.prefix (codes "oai_dc") then dublin_core_tree fields
    else declared_tree format fields

-- ---- what a record is seen as

-- an element is its own tree
abbrev pub tree_or : Tree → Option Tree → Tree
tree_or fields None = fields
tree_or fields (Some tree) = tree

-- an element in a container: the tree of its text, which is canonical
abbrev pub element_tree : List ℕ → Tree
element_tree text = tree_or (bare_parent [] []) (tree_in text)

-- the metadata of a record: the tree of the element that its fields keep as the record itself, or that of those that are it
unfoldable pub metadata_tree : Format → List Field → Tree
metadata_tree format fields = tree_or (fields_tree format (content_in fields)) (option_and_then tree_in (element_in fields))
