-- Records, lists, tokens and documents are the spellings of their trees.
use Rattle.std.proofs.Common.{◌≡◌, ◌∙◌, ℕ, Bool, true, false, cond, List, [], ◌∷◌, ◌++◌, map, codes, Some, refl, sym, ap, append_assoc, append-nil}
use Rattle.std.specs.Fmt.{decimal}
use Rattle.std.specs.List.{flat_map, list_all}
use Rattle.std.proofs.lemmas.Bool.{and_parts}
use Rattle.oai_names.specs.Escapes.{escaped, escaped_text}
use Rattle.oai_time.specs.TimeTexts.{datestamp_text, second_text}
use Rattle.oai_time.specs.declared.granularity.Granularity.{Granularity}
use Rattle.oai_item.specs.Elements.{about_in}
use Rattle.oai_item.specs.Item.{ItemState, fields_in}
use Rattle.oai_item.specs.Known.{are_fields_of}
use Rattle.oai_item.specs.declared.fields.Field.{Field}
use Rattle.oai_item.specs.declared.formats.Format.{Format}
use Rattle.oai_xml.specs.Trees.{Attribute, Tree, spelled, spelled_attribute, start_tag}
use Rattle.oai_answers.specs.Answers.{Continuation, Document, Page, VerbAnswer, completes, fails, gives_record, identifies, lists_formats, lists_headers, lists_records, lists_sets, remains, whole}
use Rattle.oai_answers.specs.Documents.{answer_element, behind_header, document, extent_attributes, get_record_element, head, header_element, header_start, identifiers_element, metadata, record_content, record_element, records_element, request_element, token_element}
use Rattle.oai_answers.specs.Markup.{element, end_tag, plain, spelled_attribute as marked_attribute, text_element}
use Rattle.oai_answers.specs.declared.tokens.Extent.{Extent}
use Rattle.oai_answers.specs.ElementParts.{bare_leaf, bare_parent, element_attribute, leaf}
use Rattle.oai_documents.specs.DocumentTrees.{answer_tree, container_tree, content_trees, document_tree, extent, header_tree, headers_tree, line_end, record_tree, records_tree, request_tree, root_attributes, status, token_trees, trees_behind_header, xml_declaration}
use Rattle.oai_answers.specs.MetadataTrees.{instance_namespace, metadata_tree}
use Rattle.oai_answers.specs.Seen.{IsGoodFormat, IsRegular, has_own_fields}
use Rattle.oai_answers.proofs.ElementLemmas.{metadata_written}
use Rattle.oai_answers.proofs.NamedTrees.{about_own, canonical_own}
use Rattle.oai_documents.proofs.Parts.{containers_written, error_written, formats_written, identify_written, request_written, sets_written}
use Rattle.oai_documents.proofs.Unescaped.{datestamp_free, decimal_free, free_text, free_value, second_free}
use Rattle.oai_answers.proofs.Written.{attribute_as, bare_leaf_written, bare_parent_written, each_written, leaf_written, one_attribute, only, parent_written, plain_leaf_written, start_written, then_attributes, then_more, then_one}

-- ---- headers and records

header_begun : (live : Bool) → header_start live ≡ start_tag (codes "header") (status live)
unfolding start_tag spelled_attribute escaped plain
header_begun true = refl
header_begun false = refl

header_shape : (start a b c end : List ℕ) → start ++ a ++ b ++ c ++ end ≡ start ++ (a ++ b ++ c) ++ end
header_shape start a b c end = simp append_assoc refl

header_written : (granularity : Granularity) (item : ItemState) → header_element granularity item ≡ spelled (header_tree granularity item)
unfolding header_element header_tree
header_written granularity item =
    let identifier : Tree = bare_leaf (codes "identifier") item.identifier in
    let datestamp : Tree = bare_leaf (codes "datestamp") (datestamp_text granularity item.stamp) in
    let sets : List Tree = map (bare_leaf (codes "setSpec")) item.sets in
    let one = only _ identifier (bare_leaf_written (codes "identifier") item.identifier) in
    let two = then_one _ _ (identifier ∷ []) datestamp one (plain_leaf_written (codes "datestamp") (datestamp_text granularity item.stamp) (free_text _ (datestamp_free granularity item.stamp))) in
    let three = then_more _ _ (identifier ∷ datestamp ∷ []) sets two (each_written (text_element (codes "setSpec")) (bare_leaf (codes "setSpec")) (bare_leaf_written (codes "setSpec")) item.sets) in
    header_shape (header_start item.live) (text_element (codes "identifier") item.identifier) (element (codes "datestamp") (datestamp_text granularity item.stamp))
    (flat_map (text_element (codes "setSpec")) item.sets) (end_tag (codes "header"))
    ∙ parent_written (header_start item.live) _ (codes "header") (status item.live) (identifier ∷ datestamp ∷ sets) (header_begun item.live) three

content_written : (format : Format) (fields : List Field) → IsGoodFormat format → are_fields_of (Some format) fields ≡ true → record_content format fields ≡ flat_map spelled (content_trees format fields)
unfolding record_content content_trees
content_written format fields good own =
    let inside : Tree = bare_parent (codes "metadata") (metadata_tree format fields ∷ []) in
    let about : List Tree = map (container_tree (codes "about")) (about_in fields) in
    let one = only _ inside (bare_parent_written (codes "metadata") (metadata format fields) (metadata_tree format fields ∷ [])
    (only _ (metadata_tree format fields) (metadata_written format fields (canonical_own format fields good own)))) in
    then_more _ _ (inside ∷ []) about one (containers_written (codes "about") (about_in fields) (about_own format fields own))

part_written : (format : Format) (item : ItemState) → IsGoodFormat format → has_own_fields format item ≡ true → behind_header format item ≡ flat_map spelled (trees_behind_header format item)
unfolding behind_header trees_behind_header
part_written format item good own = by_test item.live
  where
    fields : List Field
    fields = fields_in format.prefix item.formats

    by_test : (b : Bool) → cond b (record_content format fields) [] ≡ flat_map spelled (cond b (content_trees format fields) [])
    by_test true = content_written format fields good own
    by_test false = refl

record_written : (granularity : Granularity) (format : Format) (item : ItemState) → IsGoodFormat format → has_own_fields format item ≡ true → record_element granularity format item ≡ spelled (record_tree granularity format item)
unfolding record_element record_tree
record_written granularity format item good own =
    let header = only _ (header_tree granularity item) (header_written granularity item) in
    bare_parent_written (codes "record") _ (header_tree granularity item ∷ trees_behind_header format item)
    (then_more _ _ (header_tree granularity item ∷ []) (trees_behind_header format item) header (part_written format item good own))

-- ---- tokens

extent_written : (e : Extent) → extent_attributes e ≡ flat_map spelled_attribute (extent e)
unfolding extent_attributes extent
extent_written e =
    let size : Attribute = element_attribute (codes "completeListSize") (decimal e.size) in
    let cursor : Attribute = element_attribute (codes "cursor") (decimal e.cursor) in
    then_attributes _ _ (size ∷ []) (cursor ∷ [])
    (one_attribute _ size (attribute_as (codes "completeListSize") (decimal e.size) (decimal e.size) (sym (free_value (decimal e.size) (decimal_free e.size)))))
    (one_attribute _ cursor (attribute_as (codes "cursor") (decimal e.cursor) (decimal e.cursor) (sym (free_value (decimal e.cursor) (decimal_free e.cursor)))))

no_text : [] ≡ escaped_text []
unfolding escaped
no_text = refl

token_written : (c : Continuation) → token_element c ≡ flat_map spelled (token_trees c)
unfolding token_element token_trees plain
token_written whole = refl
token_written (remains expires part token) =
    let it : Attribute = element_attribute (codes "expirationDate") (second_text expires) in
    let expires_text : List ℕ = marked_attribute (codes "expirationDate") (second_text expires) in
    let one = one_attribute expires_text it (attribute_as (codes "expirationDate") (second_text expires) (second_text expires) (sym (free_value (second_text expires) (second_free expires)))) in
    let both = then_attributes expires_text (extent_attributes part) (it ∷ []) (extent part) one (extent_written part) in
    let begun = start_written (codes "resumptionToken") (expires_text ++ extent_attributes part) (it ∷ extent part) both in
    let shape : codes "<resumptionToken" ++ expires_text ++ extent_attributes part ++ codes ">" ≡ codes "<resumptionToken" ++ (expires_text ++ extent_attributes part) ++ codes ">"
    = ap (λ (w : List ℕ). w ++ codes ">") (append_assoc (codes "<resumptionToken") expires_text (extent_attributes part)) in
    only _ (leaf (codes "resumptionToken") (it ∷ extent part) token) (leaf_written _ token (codes "resumptionToken") (it ∷ extent part) (shape ∙ begun))
token_written (completes part) =
    let begun = start_written (codes "resumptionToken") (extent_attributes part) (extent part) (extent_written part) in
    let start : List ℕ = codes "<resumptionToken" ++ extent_attributes part ++ codes ">" in
    only _ (leaf (codes "resumptionToken") (extent part) [])
    (ap (λ (w : List ℕ). w ++ end_tag (codes "resumptionToken")) (sym (append-nil start) ∙ ap (λ (w : List ℕ). start ++ w) no_text)
    ∙ leaf_written start [] (codes "resumptionToken") (extent part) begun)

-- ---- lists

headers_written : (page : Page) → identifiers_element page ≡ spelled (headers_tree page)
unfolding identifiers_element headers_tree
headers_written page =
    let headers : List Tree = map (header_tree page.granularity) page.items in
    bare_parent_written (codes "ListIdentifiers") _ (headers ++ token_trees page.continuation)
    (then_more _ _ headers (token_trees page.continuation) (each_written (header_element page.granularity) (header_tree page.granularity) (header_written page.granularity) page.items) (token_written page.continuation))

each_record : (granularity : Granularity) (format : Format) (items : List ItemState) → IsGoodFormat format → list_all (has_own_fields format) items ≡ true
    → flat_map (record_element granularity format) items ≡ flat_map spelled (map (record_tree granularity format) items)
each_record granularity format [] good own = refl
each_record granularity format (item ∷ items) good own =
    let parts = and_parts (has_own_fields format item) (list_all (has_own_fields format) items) own in
    ap (λ (w : List ℕ). w ++ flat_map (record_element granularity format) items) (record_written granularity format item good parts.0)
    ∙ ap (λ (w : List ℕ). spelled (record_tree granularity format item) ++ w) (each_record granularity format items good parts.1)

records_written : (format : Format) (page : Page) → IsGoodFormat format → list_all (has_own_fields format) page.items ≡ true → records_element format page ≡ spelled (records_tree format page)
unfolding records_element records_tree
records_written format page good own =
    let records : List Tree = map (record_tree page.granularity format) page.items in
    bare_parent_written (codes "ListRecords") _ (records ++ token_trees page.continuation)
    (then_more _ _ records (token_trees page.continuation)
    (each_record page.granularity format page.items good own) (token_written page.continuation))

-- ---- the document

answer_written : (base : List ℕ) (answer : VerbAnswer) → IsRegular answer → answer_element base answer ≡ spelled (answer_tree base answer)
unfolding answer_tree get_record_element
answer_written base (fails code) regular = error_written code
answer_written base (identifies d) regular = identify_written base d regular
answer_written base (lists_formats formats) regular = formats_written formats
answer_written base (lists_sets sets) regular = sets_written sets regular
answer_written base (gives_record d) regular =
    bare_parent_written (codes "GetRecord") _ (record_tree d.granularity d.format d.item ∷ []) (only _ (record_tree d.granularity d.format d.item) (record_written d.granularity d.format d.item regular.0 regular.1))
answer_written base (lists_headers page) regular = headers_written page
answer_written base (lists_records format page) regular = records_written format page regular.0 regular.1

head_is : head ≡ xml_declaration ++ start_tag (codes "OAI-PMH") root_attributes
unfolding head xml_declaration root_attributes instance_namespace start_tag spelled_attribute escaped
head_is = refl

tail_is : plain (codes "</OAI-PMH>\n") ≡ end_tag (codes "OAI-PMH") ++ line_end
unfolding end_tag plain line_end
tail_is = refl

document_shape : (front start a b c end behind : List ℕ) → front ++ start ++ a ++ b ++ c ++ (end ++ behind) ≡ front ++ (start ++ (a ++ b ++ c) ++ end ++ behind)
document_shape front start a b c end behind = simp append_assoc refl

pub document_written : (d : Document) → IsRegular d.answer → document d ≡ xml_declaration ++ (spelled (document_tree d) ++ line_end)
unfolding document document_tree
document_written d regular =
    let date : Tree = bare_leaf (codes "responseDate") (second_text d.date) in
    let dated : List ℕ = element (codes "responseDate") (second_text d.date) in
    let start : List ℕ = start_tag (codes "OAI-PMH") root_attributes in
    let end : List ℕ = end_tag (codes "OAI-PMH") in
    let one = only dated date (plain_leaf_written (codes "responseDate") (second_text d.date) (free_text (second_text d.date) (second_free d.date))) in
    let two = then_one dated (request_element d) (date ∷ []) (request_tree d) one (request_written d) in
    let three = then_one (dated ++ request_element d) (answer_element d.base d.answer) (date ∷ request_tree d ∷ []) (answer_tree d.base d.answer) two (answer_written d.base d.answer regular) in
    let filled = parent_written start (dated ++ request_element d ++ answer_element d.base d.answer) (codes "OAI-PMH") root_attributes (date ∷ request_tree d ∷ answer_tree d.base d.answer ∷ []) refl three in
    ap (λ (w : List ℕ). w ++ dated ++ request_element d ++ answer_element d.base d.answer ++ plain (codes "</OAI-PMH>\n")) head_is
    ∙ ap (λ (w : List ℕ). xml_declaration ++ start ++ dated ++ request_element d ++ answer_element d.base d.answer ++ w) tail_is
    ∙ document_shape xml_declaration start dated (request_element d) (answer_element d.base d.answer) end line_end
    ∙ ap (λ (w : List ℕ). xml_declaration ++ (w ++ line_end)) filled
