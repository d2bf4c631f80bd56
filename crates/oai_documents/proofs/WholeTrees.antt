-- The tree of each document is whole.
use Rattle.std.proofs.Common.{◌≡◌, ◌∙◌, ◌-◌, inl, inr, ℕ, Bool, true, false, ◌&&◌, ◌||◌, not, eqb, cond, List, [], ◌∷◌, ◌++◌, map, codes, Option, None, Some, refl, sym, ap}
use Rattle.std.specs.Prelude.{option_and_then}
use Rattle.std.specs.List.{list_all}
use Rattle.std.specs.Option.{option_map_or}
use Rattle.std.specs.Str.{bytes_eq}
use Rattle.std.proofs.lemmas.Bool.{and_parts, not-true}
use Rattle.std.proofs.lemmas.Slice.Eq.{bytes_eq-Decides}
use Rattle.oai_names.specs.Names.{is_among}
use Rattle.oai_names.proofs.Lists.{all-weaker}
use Rattle.oai_time.specs.TimeTexts.{datestamp_text, second_text}
use Rattle.oai_time.specs.declared.granularity.Granularity.{Granularity}
use Rattle.oai_item.specs.Formats.{dublin_core}
use Rattle.oai_item.specs.Elements.{about_in, content_in, element_in}
use Rattle.oai_item.specs.Item.{ItemState, fields_in}
use Rattle.oai_item.specs.Known.{are_fields_of}
use Rattle.oai_item.specs.Rules.{are_names, are_uris, has_few_fields, has_repeat, is_allowed, is_name}
use Rattle.oai_item.specs.declared.fields.Field.{Field}
use Rattle.oai_item.specs.declared.formats.Format.{Format}
use Rattle.oai_xml.specs.Ascii.{is_ascii_ncname}
use Rattle.oai_xml.specs.QNames.{prefix_of}
use Rattle.oai_xml.specs.Trees.{Tree}
use Rattle.oai_xml.specs.Namespaces.{Scope, are_alike, are_unlike, is_declaring}
use Rattle.oai_xml.specs.Documents.{is_canonical, tree_in}
use Rattle.oai_xml.specs.Whole.{IsElement, is_whole, is_whole_in}
use Rattle.oai_xml.proofs.CanonicalLemmas.{element_tested, tree_again}
use Rattle.oai_xml.specs.declared.limits.TheConstants.{MAX_DEPTH}
use Rattle.oai_answers.specs.Answers.{Continuation, DescribedSet, Description, Document, Page, VerbAnswer, arguments_told, completes, fails, gives_record, identifies, lists_formats, lists_headers, lists_records, lists_sets, remains, whole}
use Rattle.oai_answers.specs.Documents.{code_of, deleted_text, granularity_text, message_of}
use Rattle.oai_answers.specs.Seen.{IsGoodFormat, IsRegular, has_elements, has_own_fields}
use Rattle.oai_answers.specs.declared.errors.ErrorCode.{ErrorCode}
use Rattle.oai_answers.specs.declared.tokens.Extent.{Extent}
use Rattle.oai_answers.specs.ElementParts.{bare_leaf, bare_parent, element_attribute}
use Rattle.oai_documents.specs.DocumentTrees.{answer_tree, arguments, container_tree, content_trees, document_tree, error_tree, extent, format_tree, formats_tree, header_tree, headers_tree, identify_tree, record_tree, records_tree, request_tree, root_attributes, set_tree, sets_tree, status, token_trees, trees_behind_header}
use Rattle.oai_answers.specs.MetadataTrees.{declared_attributes, declared_tree, dublin_core_attributes, dublin_core_tree, element_tree, field_tree, fields_tree, metadata_tree, tree_or}
use Rattle.oai_answers.proofs.NamedTrees.{about_own, canonical_so, kept_so, listed_among, listed_own}
use Rattle.oai_documents.specs.WellFormed.{HasNamespace, HasFittingElements, fits_in_document, has_fitting_content, has_fitting_elements, is_fitting, may_be_default}
use Rattle.oai_documents.proofs.Deeper.{element_behind, element_behind_more}
use Rattle.oai_documents.proofs.Names.{rule_name}
use Rattle.oai_documents.proofs.Tags.{IsPlainTag, all_whole, and_others, bare_leaf_whole, bare_parent_whole, both, each_whole, leaf_by_tag, leaf_whole, parent_by_tag, parent_whole}
use Rattle.oai_documents.proofs.Scopes.{declared_ready, declared_scope, declared_tag, dublin_core_scope, dublin_core_tag, field_tag, is_reserved, oai_ready, oai_scope, root_scope, root_tag}
use Rattle.oai_documents.proofs.Arguments.{request_tag}

-- ---- elements of OAI-PMH, at a level

abbrev IsSome : ℕ → Type 0
IsSome levels = not (eqb levels 0) ≡ true

abbrev IsFine : ℕ → Tree → Type 0
IsFine levels t = is_whole_in levels oai_scope t ≡ true

fine_leaf : (levels : ℕ) (name text : List ℕ) → IsSome levels → is_ascii_ncname name ≡ true → IsFine levels (bare_leaf name text)
fine_leaf levels name text some is = bare_leaf_whole levels oai_scope name text some oai_ready is

fine_parent : (levels : ℕ) (name : List ℕ) (trees : List Tree) → IsSome levels → is_ascii_ncname name ≡ true → list_all (is_whole_in (levels - 1) oai_scope) trees ≡ true
    → IsFine levels (bare_parent name trees)
fine_parent levels name trees some is all = bare_parent_whole levels oai_scope name trees some oai_ready is all

-- ---- the request, errors, Identify, formats and sets

request_whole : (d : Document) → IsFine 127 (request_tree d)
unfolding request_tree
request_whole d = leaf_whole 127 oai_scope (codes "request") (arguments (arguments_told d.answer d.asked)) d.base refl oai_ready (request_tag (arguments_told d.answer d.asked))

error_tag : (code : List ℕ) → IsPlainTag oai_scope (codes "error") (element_attribute (codes "code") code ∷ [])
unfolding is_declaring prefix_of are_unlike
error_tag code = record { named = refl; plain = refl; unlike = refl; few = refl }

error_whole : (code : ErrorCode) → IsFine 127 (error_tree code)
unfolding error_tree
error_whole code = leaf_whole 127 oai_scope (codes "error") (element_attribute (codes "code") (code_of code) ∷ []) (message_of code) refl oai_ready (error_tag (code_of code))

format_whole : (format : Format) → IsFine 126 (format_tree format)
unfolding format_tree
format_whole format =
    fine_parent 126 (codes "metadataFormat") _ refl refl
    (both (fine_leaf 125 (codes "metadataPrefix") format.prefix refl refl)
    (both (fine_leaf 125 (codes "schema") format.schema refl refl) (both (fine_leaf 125 (codes "metadataNamespace") format.namespace refl refl) refl)))

formats_whole : (formats : List Format) → IsFine 127 (formats_tree formats)
unfolding formats_tree
formats_whole formats = fine_parent 127 (codes "ListMetadataFormats") _ refl refl (all_whole 126 oai_scope format_tree format_whole formats)

-- ---- names of formats and fields

of_these : (p : List ℕ → Bool) (names : List (List ℕ)) (name : List ℕ) → list_all p names ≡ true → is_among names name ≡ true → p name ≡ true
of_these p [] name all there = cc
of_these p (x ∷ names) name all there =
    let parts = and_parts (p x) (list_all p names) all in
    by_test (bytes_eq name x) ((bytes_eq-Decides name x).0) there (of_these p names name parts.1) parts.0
  where
    by_test : (b : Bool) → (b ≡ true → name ≡ x) → (b || is_among names name) ≡ true → (is_among names name ≡ true → p name ≡ true) → p x ≡ true → p name ≡ true
    by_test true same h later first = ap p (same refl) ∙ first
    by_test false same h later first = later h

-- the names of the fields of a format are names of ASCII
dublin_core_names : list_all is_ascii_ncname dublin_core.fields ≡ true
unfolding dublin_core
dublin_core_names = refl

pub allowed_names : (format : Format) → is_allowed format ≡ true → (is_name format.root ≡ true) × (list_all is_name format.fields ≡ true)
unfolding is_allowed
allowed_names format h =
    let repeats = and_parts (are_names format && are_uris format && has_few_fields format) (not (has_repeat format.fields)) h in
    let fields = and_parts (are_names format && are_uris format) (has_few_fields format) repeats.0 in
    let uris = and_parts (are_names format) (are_uris format) fields.0 in
    and_parts (is_name format.root) (list_all is_name format.fields) uris.0

field_names : (format : Format) → IsGoodFormat format → list_all is_ascii_ncname format.fields ≡ true
field_names format (inl same) = ap (λ (f : Format). list_all is_ascii_ncname f.fields) same ∙ dublin_core_names
field_names format (inr allowed) = all-weaker is_name is_ascii_ncname rule_name format.fields (allowed_names format allowed).1

abbrev pub is_named_field : Field → Bool
is_named_field field = is_ascii_ncname field.name

pub fields_named : (format : Format) (fields : List Field) → IsGoodFormat format → list_all (λ (field : Field). is_among format.fields field.name) fields ≡ true → list_all is_named_field fields ≡ true
fields_named format fields good known =
    all-weaker (λ (field : Field). is_among format.fields field.name) is_named_field
    (λ field there. of_these is_ascii_ncname format.fields field.name (field_names format good) there) fields known

-- ---- metadata

pub dublin_core_known : bytes_eq dublin_core.prefix (codes "oai_dc") ≡ true
unfolding dublin_core
dublin_core_known = refl

dublin_core_whole : (fields : List Field) → list_all is_named_field fields ≡ true → IsFine 124 (dublin_core_tree fields)
unfolding dublin_core_tree field_tree
dublin_core_whole fields named =
    parent_by_tag 124 oai_scope (codes "oai_dc:dc") dublin_core_attributes (map (field_tree (codes "dc:")) fields) refl dublin_core_tag
    (each_whole 123 dublin_core_scope (field_tree (codes "dc:")) is_named_field
    (λ field is. leaf_by_tag 123 dublin_core_scope (codes "dc:" ++ field.name) [] field.text refl (field_tag field.name is)) fields named)

declared_whole : (format : Format) (fields : List Field) → is_ascii_ncname format.root ≡ true → is_reserved format.namespace ≡ false → list_all is_named_field fields ≡ true
    → IsFine 124 (declared_tree format fields)
unfolding declared_tree field_tree
declared_whole format fields root none named =
    parent_by_tag 124 oai_scope format.root (declared_attributes format) (map (field_tree []) fields) refl (declared_tag format root none)
    (each_whole 123 (declared_scope format) (field_tree []) is_named_field
    (λ field is. bare_leaf_whole 123 (declared_scope format) field.name field.text refl (declared_ready format) is) fields named)

fields_whole : (format : Format) (fields : List Field) → IsGoodFormat format → is_reserved format.namespace ≡ false → list_all is_named_field fields ≡ true
    → IsFine 124 (fields_tree format fields)
unfolding fields_tree
fields_whole format fields (inl same) none named =
    ap (λ b. is_whole_in 124 oai_scope (cond b (dublin_core_tree fields) (declared_tree format fields))) (ap (λ (f : Format). bytes_eq f.prefix (codes "oai_dc")) same ∙ dublin_core_known)
    ∙ dublin_core_whole fields named
fields_whole format fields (inr allowed) none named = by_test (bytes_eq format.prefix (codes "oai_dc"))
  where
    by_test : (b : Bool) → is_whole_in 124 oai_scope (cond b (dublin_core_tree fields) (declared_tree format fields)) ≡ true
    by_test true = dublin_core_whole fields named
    by_test false = declared_whole format fields (rule_name format.root (allowed_names format allowed).0) none named

-- an element, for which there is room
element_whole : (fields : Tree) (text : List ℕ) (e : IsElement text) → option_map_or fits_in_document (tree_in text) true ≡ true → IsFine 124 (tree_or fields (tree_in text))
element_whole fields text e room =
    ap (λ o. is_whole_in 124 oai_scope (tree_or fields o)) (tree_again text e.0 e.1)
    ∙ element_behind oai_scope e.0 refl (ap (λ o. option_map_or fits_in_document o true) (sym (tree_again text e.0 e.1)) ∙ room) e.1.whole

metadata_whole : (format : Format) (fields : List Field) → IsGoodFormat format → is_reserved format.namespace ≡ false → are_fields_of (Some format) fields ≡ true
    → option_map_or fits_in_document (option_and_then tree_in (element_in fields)) true ≡ true → IsFine 124 (metadata_tree format fields)
unfolding metadata_tree
metadata_whole format fields good none own room = by_element (element_in fields) refl room
  where
    by_element : (o : Option (List ℕ)) → element_in fields ≡ o → option_map_or fits_in_document (option_and_then tree_in o) true ≡ true
        → IsFine 124 (tree_or (fields_tree format (content_in fields)) (option_and_then tree_in o))
    by_element None is room =
        fields_whole format (content_in fields) good none (fields_named format (content_in fields) good (listed_among format (content_in fields) (listed_own format fields is own)))
    by_element (Some text) is room = element_whole (fields_tree format (content_in fields)) text (element_tested text (canonical_so format text (kept_so format fields text is own))) room

-- ---- containers of elements

pub all_both : {A : Type 0} (p q : A → Bool) (xs : List A) → list_all p xs ≡ true → list_all q xs ≡ true → list_all (λ x. p x && q x) xs ≡ true
all_both p q [] one other = refl
all_both p q (x ∷ xs) one other =
    let first = and_parts (p x) (list_all p xs) one in
    let second = and_parts (q x) (list_all q xs) other in
    both (both first.0 second.0) (all_both p q xs first.1 second.1)

-- an element is whole behind the declarations of the document, in a container
element_fits : (text : List ℕ) → (is_canonical text && is_fitting text) ≡ true → IsFine 125 (element_tree text) × IsFine 124 (element_tree text)
element_fits text fit =
    let parts = and_parts (is_canonical text) (is_fitting text) fit in
    let e = element_tested text parts.0 in
    let found = tree_again text e.0 e.1 in
    let room = ap (λ o. option_map_or fits_in_document o true) (sym found) ∙ parts.1 in (
      ap (λ o. is_whole_in 125 oai_scope (tree_or (bare_parent [] []) o)) found ∙ element_behind_more oai_scope e.0 refl room e.1.whole,
      ap (λ o. is_whole_in 124 oai_scope (tree_or (bare_parent [] []) o)) found ∙ element_behind oai_scope e.0 refl room e.1.whole,
    )

container_whole : (name text : List ℕ) → is_ascii_ncname name ≡ true → (is_canonical text && is_fitting text) ≡ true → IsFine 125 (container_tree name text)
unfolding container_tree
container_whole name text is fit = fine_parent 125 name (element_tree text ∷ []) refl is (both (element_fits text fit).1 refl)

containers_whole : (name : List ℕ) (texts : List (List ℕ)) → is_ascii_ncname name ≡ true → list_all is_canonical texts ≡ true → list_all is_fitting texts ≡ true
    → list_all (is_whole_in 125 oai_scope) (map (container_tree name) texts) ≡ true
containers_whole name texts is regular room =
    each_whole 125 oai_scope (container_tree name) (λ text. is_canonical text && is_fitting text) (λ text fit. container_whole name text is fit) texts (all_both is_canonical is_fitting texts regular room)

-- ---- headers and records

header_tag : (live : Bool) → IsPlainTag oai_scope (codes "header") (status live)
unfolding is_declaring prefix_of are_unlike
header_tag true = record { named = refl; plain = refl; unlike = refl; few = refl }
header_tag false = record { named = refl; plain = refl; unlike = refl; few = refl }

header_whole : (levels : ℕ) → IsSome levels → IsSome (levels - 1) → (granularity : Granularity) (item : ItemState) → IsFine levels (header_tree granularity item)
unfolding header_tree
header_whole levels some more granularity item =
    parent_whole levels oai_scope (codes "header") (status item.live) _ some oai_ready (header_tag item.live)
    (both (fine_leaf (levels - 1) (codes "identifier") item.identifier more refl)
    (both (fine_leaf (levels - 1) (codes "datestamp") (datestamp_text granularity item.stamp) more refl)
    (all_whole (levels - 1) oai_scope (bare_leaf (codes "setSpec")) (λ spec. fine_leaf (levels - 1) (codes "setSpec") spec more refl) item.sets)))

content_whole : (format : Format) (fields : List Field) → IsGoodFormat format → is_reserved format.namespace ≡ false → are_fields_of (Some format) fields ≡ true → has_fitting_content fields ≡ true
    → list_all (is_whole_in 125 oai_scope) (content_trees format fields) ≡ true
unfolding content_trees
content_whole format fields good none own room =
    let parts = and_parts (option_map_or fits_in_document (option_and_then tree_in (element_in fields)) true) (list_all is_fitting (about_in fields)) room in
    both (fine_parent 125 (codes "metadata") (metadata_tree format fields ∷ []) refl refl (both (metadata_whole format fields good none own parts.0) refl))
    (containers_whole (codes "about") (about_in fields) refl (about_own format fields own) parts.1)

part_whole : (format : Format) (item : ItemState) → IsGoodFormat format → is_reserved format.namespace ≡ false → has_own_fields format item ≡ true → has_fitting_elements format item ≡ true
    → list_all (is_whole_in 125 oai_scope) (trees_behind_header format item) ≡ true
unfolding trees_behind_header
part_whole format item good none own room = by_test item.live
  where
    by_test : (b : Bool) → list_all (is_whole_in 125 oai_scope) (cond b (content_trees format (fields_in format.prefix item.formats)) []) ≡ true
    by_test true = content_whole format (fields_in format.prefix item.formats) good none own room
    by_test false = refl

record_whole : (granularity : Granularity) (format : Format) (item : ItemState) → IsGoodFormat format → is_reserved format.namespace ≡ false → has_own_fields format item ≡ true → has_fitting_elements format item ≡ true
    → IsFine 126 (record_tree granularity format item)
unfolding record_tree
record_whole granularity format item good none own room =
    fine_parent 126 (codes "record") (header_tree granularity item ∷ trees_behind_header format item) refl refl (both (header_whole 125 refl refl granularity item) (part_whole format item good none own room))

-- ---- lists

extent_tag : (e : Extent) → IsPlainTag oai_scope (codes "resumptionToken") (extent e)
unfolding extent is_declaring prefix_of are_unlike are_alike
extent_tag e = record { named = refl; plain = refl; unlike = refl; few = refl }

remaining_tag : (expires : List ℕ) (e : Extent) → IsPlainTag oai_scope (codes "resumptionToken") (element_attribute (codes "expirationDate") expires ∷ extent e)
unfolding extent is_declaring prefix_of are_unlike are_alike
remaining_tag expires e = record { named = refl; plain = refl; unlike = refl; few = refl }

token_whole : (c : Continuation) → list_all (is_whole_in 126 oai_scope) (token_trees c) ≡ true
unfolding token_trees
token_whole whole = refl
token_whole (remains expires part token) = both (leaf_whole 126 oai_scope (codes "resumptionToken") _ token refl oai_ready (remaining_tag (second_text expires) part)) refl
token_whole (completes part) = both (leaf_whole 126 oai_scope (codes "resumptionToken") (extent part) [] refl oai_ready (extent_tag part)) refl

headers_whole : (page : Page) → IsFine 127 (headers_tree page)
unfolding headers_tree
headers_whole page =
    let headers = all_whole 126 oai_scope (header_tree page.granularity) (header_whole 126 refl refl page.granularity) page.items in
    fine_parent 127 (codes "ListIdentifiers") _ refl refl
    (and_others 126 oai_scope (map (header_tree page.granularity) page.items) (token_trees page.continuation) headers (token_whole page.continuation))

records_whole : (format : Format) (page : Page) → IsGoodFormat format → is_reserved format.namespace ≡ false → list_all (has_own_fields format) page.items ≡ true
    → list_all (has_fitting_elements format) page.items ≡ true → IsFine 127 (records_tree format page)
unfolding records_tree
records_whole format page good none own room =
    let records = each_whole 126 oai_scope (record_tree page.granularity format) (λ item. has_own_fields format item && has_fitting_elements format item)
    (λ item fit. let parts = and_parts (has_own_fields format item) (has_fitting_elements format item) fit in record_whole page.granularity format item good none parts.0 parts.1)
    page.items (all_both (has_own_fields format) (has_fitting_elements format) page.items own room) in
    fine_parent 127 (codes "ListRecords") _ refl refl
    (and_others 126 oai_scope (map (record_tree page.granularity format) page.items) (token_trees page.continuation) records (token_whole page.continuation))

-- ---- Identify, with the elements that describe the repository

description_whole : (text : List ℕ) → (is_canonical text && is_fitting text) ≡ true → IsFine 126 (container_tree (codes "description") text)
unfolding container_tree
description_whole text fit = fine_parent 126 (codes "description") (element_tree text ∷ []) refl refl (both (element_fits text fit).0 refl)

descriptions_whole : (texts : List (List ℕ)) → list_all is_canonical texts ≡ true → list_all is_fitting texts ≡ true
    → list_all (is_whole_in 126 oai_scope) (map (container_tree (codes "description")) texts) ≡ true
descriptions_whole texts regular room =
    each_whole 126 oai_scope (container_tree (codes "description")) (λ text. is_canonical text && is_fitting text) description_whole texts (all_both is_canonical is_fitting texts regular room)

have_room : DescribedSet → Bool
have_room set = list_all is_fitting set.descriptions

set_whole : (set : DescribedSet) → (has_elements set && have_room set) ≡ true → IsFine 126 (set_tree set)
unfolding set_tree have_room
set_whole set fit =
    let parts = and_parts (has_elements set) (list_all is_fitting set.descriptions) fit in
    fine_parent 126 (codes "set") _ refl refl
    (both (fine_leaf 125 (codes "setSpec") set.spec refl refl) (both (fine_leaf 125 (codes "setName") set.name refl refl) (containers_whole (codes "setDescription") set.descriptions refl parts.0 parts.1)))

sets_whole : (sets : List DescribedSet) → list_all has_elements sets ≡ true → list_all (λ (set : DescribedSet). list_all is_fitting set.descriptions) sets ≡ true → IsFine 127 (sets_tree sets)
unfolding sets_tree have_room
sets_whole sets regular room =
    fine_parent 127 (codes "ListSets") _ refl refl (each_whole 126 oai_scope set_tree (λ set. has_elements set && have_room set) set_whole sets (all_both has_elements have_room sets regular room))

identify_whole : (base : List ℕ) (d : Description) → list_all is_canonical d.descriptions ≡ true → list_all is_fitting d.descriptions ≡ true → IsFine 127 (identify_tree base d)
unfolding identify_tree
identify_whole base d regular room =
    let addresses = all_whole 126 oai_scope (bare_leaf (codes "adminEmail")) (λ a. fine_leaf 126 (codes "adminEmail") a refl refl) d.addresses in
    let last = both (fine_leaf 126 (codes "earliestDatestamp") (datestamp_text d.granularity d.earliest) refl refl)
    (both (fine_leaf 126 (codes "deletedRecord") (deleted_text d.deleted) refl refl) (both (fine_leaf 126 (codes "granularity") (granularity_text d.granularity) refl refl) (descriptions_whole d.descriptions regular room))) in
    fine_parent 127 (codes "Identify") _ refl refl
    (both (fine_leaf 126 (codes "repositoryName") d.name refl refl)
    (both (fine_leaf 126 (codes "baseURL") base refl refl)
    (both (fine_leaf 126 (codes "protocolVersion") (codes "2.0") refl refl) (and_others 126 oai_scope (map (bare_leaf (codes "adminEmail")) d.addresses) _ addresses last))))

-- ---- documents

answer_whole : (base : List ℕ) (answer : VerbAnswer) → IsRegular answer → HasNamespace may_be_default answer → HasFittingElements answer → IsFine 127 (answer_tree base answer)
unfolding answer_tree
answer_whole base (fails code) regular own room = error_whole code
answer_whole base (identifies d) regular own room = identify_whole base d regular room
answer_whole base (lists_formats formats) regular own room = formats_whole formats
answer_whole base (lists_sets sets) regular own room = sets_whole sets regular room
answer_whole base (gives_record d) regular own room =
    fine_parent 127 (codes "GetRecord") (record_tree d.granularity d.format d.item ∷ []) refl refl (both (record_whole d.granularity d.format d.item regular.0 (not-true (is_reserved d.format.namespace) own) regular.1 room) refl)
answer_whole base (lists_headers page) regular own room = headers_whole page
answer_whole base (lists_records format page) regular own room = records_whole format page regular.0 (not-true (is_reserved format.namespace) own) regular.1 room

pub document_whole : (d : Document) → IsRegular d.answer → HasNamespace may_be_default d.answer → HasFittingElements d.answer → is_whole (document_tree d) ≡ true
unfolding document_tree
document_whole d regular own room =
    let children : List Tree = bare_leaf (codes "responseDate") (second_text d.date) ∷ request_tree d ∷ answer_tree d.base d.answer ∷ [] in
    let all : list_all (is_whole_in 127 oai_scope) children ≡ true
    = both (fine_leaf 127 (codes "responseDate") (second_text d.date) refl refl) (both (request_whole d) (both (answer_whole d.base d.answer regular own room) refl)) in
    parent_by_tag MAX_DEPTH [] (codes "OAI-PMH") root_attributes children refl root_tag (ap (λ (s : Scope). list_all (is_whole_in 127 s) children) root_scope ∙ all)
