-- What is written of fields is the spelling of their tree; an element that is kept is written as the spelling of its own.
use Rattle.std.proofs.Common.{◌≡◌, ◌∙◌, ℕ, Bool, true, false, cond, List, [], ◌∷◌, ◌++◌, map, codes, Option, None, Some, refl, sym, ap, append_assoc}
use Rattle.std.specs.Prelude.{option_and_then}
use Rattle.std.specs.List.{flat_map}
use Rattle.std.specs.Str.{bytes_eq}
use Rattle.std.proofs.lemmas.Grind.{flat_map-append}
use Rattle.oai_names.specs.Escapes.{attribute_spelling, escaped, escaped_attribute}
use Rattle.oai_item.specs.Elements.{content_in, element_in}
use Rattle.oai_item.specs.Givens.{is_none_or_canonical}
use Rattle.oai_item.specs.declared.fields.Field.{Field}
use Rattle.oai_item.specs.declared.formats.Format.{Format}
use Rattle.oai_xml.specs.Documents.{tree_in}
use Rattle.oai_xml.specs.Trees.{Attribute, spelled, spelled_attribute, start_tag}
use Rattle.oai_xml.specs.Whole.{IsElement}
use Rattle.oai_xml.proofs.CanonicalLemmas.{element_tested, tree_again}
use Rattle.oai_answers.specs.Documents.{content_written, declared_metadata, declared_start, dublin_core_metadata, dublin_core_start, field_element, fields_metadata, metadata, schema_location}
use Rattle.oai_answers.specs.ElementParts.{element_attribute}
use Rattle.oai_answers.specs.Markup.{attribute as text_attribute, plain, spelled_attribute as marked_attribute}
use Rattle.oai_answers.specs.MetadataTrees.{declared_attributes, declared_tree, dublin_core_attributes, dublin_core_tree, field_tree, fields_tree, instance_namespace, metadata_tree, tree_or}
use Rattle.oai_answers.proofs.Written.{attribute_as, attribute_written, bare_leaf_written, each_written, one_attribute, parent_written, start_written, then_attributes}

-- ---- fields

field_written : (qualifier : List ℕ) (field : Field) → field_element qualifier field ≡ spelled (field_tree qualifier field)
unfolding field_element field_tree
field_written qualifier field = bare_leaf_written (qualifier ++ field.name) field.text

dublin_core_begun : dublin_core_start ≡ start_tag (codes "oai_dc:dc") dublin_core_attributes
unfolding dublin_core_start dublin_core_attributes instance_namespace start_tag spelled_attribute escaped
dublin_core_begun = refl

dublin_core_written : (fields : List Field) → dublin_core_metadata fields ≡ spelled (dublin_core_tree fields)
unfolding dublin_core_metadata dublin_core_tree
dublin_core_written fields =
    parent_written dublin_core_start _ (codes "oai_dc:dc") dublin_core_attributes (map (field_tree (codes "dc:")) fields) dublin_core_begun
    (each_written (field_element (codes "dc:")) (field_tree (codes "dc:")) (field_written (codes "dc:")) fields)

location_same : (namespace schema : List ℕ) → escaped_attribute namespace ++ codes " " ++ escaped_attribute schema ≡ escaped_attribute (namespace ++ codes " " ++ schema)
unfolding escaped
location_same namespace schema =
    sym (flat_map-append attribute_spelling (namespace ++ codes " ") schema ∙ ap (λ (w : List ℕ). w ++ flat_map attribute_spelling schema) (flat_map-append attribute_spelling namespace (codes " ")))

-- three attributes behind a name
start_shape : (name a b c end : List ℕ) → name ++ a ++ b ++ c ++ end ≡ name ++ (a ++ b ++ c) ++ end
start_shape name a b c end = simp append_assoc refl

declared_begun : (format : Format) → declared_start format ≡ start_tag format.root (declared_attributes format)
unfolding declared_start declared_attributes schema_location instance_namespace plain
declared_begun format =
    let own : List ℕ = text_attribute (codes "xmlns") format.namespace in
    let xsi : List ℕ = text_attribute (codes "xmlns:xsi") (codes "http://www.w3.org/2001/XMLSchema-instance") in
    let location : List ℕ = marked_attribute (codes "xsi:schemaLocation") (escaped_attribute format.namespace ++ codes " " ++ escaped_attribute format.schema) in
    let first : Attribute = element_attribute (codes "xmlns") format.namespace in
    let second : Attribute = element_attribute (codes "xmlns:xsi") (codes "http://www.w3.org/2001/XMLSchema-instance") in
    let third : Attribute = element_attribute (codes "xsi:schemaLocation") (format.namespace ++ codes " " ++ format.schema) in
    let one = one_attribute own first (attribute_written (codes "xmlns") format.namespace) in
    let two = then_attributes own xsi (first ∷ []) (second ∷ []) one
    (one_attribute xsi second (attribute_written (codes "xmlns:xsi") (codes "http://www.w3.org/2001/XMLSchema-instance"))) in
    let three = then_attributes (own ++ xsi) location (first ∷ second ∷ []) (third ∷ []) two
    (one_attribute location third (attribute_as (codes "xsi:schemaLocation") (format.namespace ++ codes " " ++ format.schema) _ (location_same format.namespace format.schema))) in
    start_shape (60 ∷ format.root) own xsi location (codes ">") ∙ start_written format.root (own ++ xsi ++ location) (first ∷ second ∷ third ∷ []) three

declared_written : (format : Format) (fields : List Field) → declared_metadata format fields ≡ spelled (declared_tree format fields)
unfolding declared_metadata declared_tree
declared_written format fields =
    parent_written (declared_start format) _ format.root (declared_attributes format) (map (field_tree []) fields) (declared_begun format)
    (each_written (field_element []) (field_tree []) (field_written []) fields)

pub fields_written : (format : Format) (fields : List Field) → fields_metadata format fields ≡ spelled (fields_tree format fields)
unfolding fields_metadata fields_tree
fields_written format fields = by_test (bytes_eq format.prefix (codes "oai_dc"))
  where
    by_test : (b : Bool) → cond b (dublin_core_metadata fields) (declared_metadata format fields) ≡ spelled (cond b (dublin_core_tree fields) (declared_tree format fields))
    by_test true = dublin_core_written fields
    by_test false = declared_written format fields

-- ---- elements

-- the tree that a text spells is what is read of it
pub tree_of : (text : List ℕ) (e : IsElement text) → tree_in text ≡ Some e.0
tree_of text e = tree_again text e.0 e.1

element_written : (format : Format) (fields : List Field) (text : List ℕ) → IsElement text
    → plain text ≡ spelled (tree_or (fields_tree format fields) (tree_in text))
unfolding plain
element_written format fields text e = e.1.bytes_are ∙ sym (ap (λ o. spelled (tree_or (fields_tree format fields) o)) (tree_of text e))

content_as : (format : Format) (fields : List Field) (o : Option (List ℕ)) → is_none_or_canonical o ≡ true
    → content_written format fields o ≡ spelled (tree_or (fields_tree format fields) (option_and_then tree_in o))
content_as format fields None is = fields_written format fields
content_as format fields (Some text) is = element_written format fields text (element_tested text is)

-- what is written of a record, where an element that is kept as the record itself is in canonical text
pub metadata_written : (format : Format) (fields : List Field) → is_none_or_canonical (element_in fields) ≡ true → metadata format fields ≡ spelled (metadata_tree format fields)
unfolding metadata metadata_tree
metadata_written format fields is = content_as format (content_in fields) (element_in fields) is
