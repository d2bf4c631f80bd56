-- The tree of each document is as the schema asks.
use Rattle.std.proofs.Common.{◌≡◌, ◌∙◌, inl, inr, ℕ, Bool, true, false, ◌&&◌, ◌||◌, not, cond, List, [], ◌∷◌, ◌++◌, map, codes, Option, None, Some, refl, sym, ap, append-nil}
use Rattle.std.specs.Prelude.{option_and_then, option_map}
use Rattle.std.specs.List.{list_all}
use Rattle.std.specs.Option.{unwrap_or}
use Rattle.std.specs.Str.{bytes_eq}
use Rattle.std.proofs.lemmas.Bool.{and_parts, not-true, true≢false}
use Rattle.std.proofs.lemmas.Slice.Eq.{bytes_eq-Decides}
use Rattle.oai_names.specs.Names.{is_among}
use Rattle.oai_time.specs.TimeTexts.{datestamp_text, second_text}
use Rattle.oai_time.specs.declared.granularity.Granularity.{Granularity}
use Rattle.oai_time.specs.declared.granularity.Granularity.TheVariants.{Day, Second}
use Rattle.oai_item.specs.Elements.{about_in, content_in, element_in, has_root_of, is_element_of, is_root_of, root_in}
use Rattle.oai_item.specs.Formats.{dublin_core}
use Rattle.oai_item.specs.Item.{ItemState, fields_in}
use Rattle.oai_item.specs.Known.{are_fields_of}
use Rattle.oai_item.specs.Rules.{are_names, are_uris, has_few_fields, has_repeat, is_allowed, is_uri}
use Rattle.oai_item.specs.ShortTexts.{is_short_text}
use Rattle.oai_item.specs.declared.deleted_record.DeletedRecord.{DeletedRecord}
use Rattle.oai_item.specs.declared.deleted_record.DeletedRecord.TheVariants.{No, Transient, Persistent}
use Rattle.oai_item.specs.declared.fields.Field.{Field}
use Rattle.oai_item.specs.declared.formats.Format.{Format}
use Rattle.oai_xml.specs.Ascii.{is_ascii_ncname}
use Rattle.oai_xml.specs.QNames.{local_of, prefix_of}
use Rattle.oai_xml.specs.Roots.{named_so, root_of}
use Rattle.oai_xml.specs.Trees.{Tree}
use Rattle.oai_xml.specs.Namespaces.{declared, is_declaring, namespace_of, xml_namespace, xmlns_namespace}
use Rattle.oai_xml.specs.Documents.{is_canonical, tree_in}
use Rattle.oai_xml.specs.Whole.{IsElement, names_of, within}
use Rattle.oai_xml.proofs.CanonicalLemmas.{element_tested, tree_again}
use Rattle.oai_answers.specs.Answers.{Attributes, Continuation, DescribedSet, Description, Document, Page, VerbAnswer, arguments_told, completes, fails, gives_record, identifies, lists_formats, lists_headers, lists_records, lists_sets, remains, whole}
use Rattle.oai_answers.specs.Documents.{code_of, deleted_text, granularity_text, message_of}
use Rattle.oai_answers.specs.Seen.{IsGoodFormat, IsRegular, has_own_fields}
use Rattle.oai_answers.proofs.NamedTrees.{kept_so}
use Rattle.oai_answers.specs.declared.errors.ErrorCode.{ErrorCode}
use Rattle.oai_answers.specs.declared.errors.ErrorCode.TheVariants.{BadVerb, BadArgument, BadResumptionToken, CannotDisseminateFormat, IdDoesNotExist, NoRecordsMatch, NoMetadataFormats, NoSetHierarchy}
use Rattle.oai_answers.specs.ElementParts.{bare_leaf, bare_parent}
use Rattle.oai_documents.specs.DocumentTrees.{answer_tree, container_tree, content_trees, document_tree, error_tree, extent, format_tree, formats_tree, header_tree, headers_tree, identify_tree, record_tree, records_tree, request_tree, root_attributes, set_tree, sets_tree, status, token_trees, trees_behind_header}
use Rattle.oai_answers.specs.MetadataTrees.{declared_attributes, declared_tree, dublin_core_attributes, dublin_core_tree, element_tree, fields_tree, instance_namespace, metadata_tree, tree_or}
use Rattle.oai_documents.specs.Schema.{Any, AreAnswerElements, IsContainer, IsError, IsForeign, IsFormatElement, IsFormats, IsHeader, IsHeaders, IsIdentify, IsOfSchema, IsOneOf, IsRecord, IsRecords, IsRequestElement, IsSet, IsSets, IsTextElement, IsTokenElement, One, Optional, Several, ◌⨾◌, error_codes, oai_namespace}
use Rattle.oai_documents.specs.WellFormed.{HasAboutIn, HasMembers, has_about_in, has_root_in, HasNamespace, IsFilled, is_foreign}
use Rattle.oai_documents.proofs.Arguments.{all_chosen, are_given, argument_names, names_given}
use Rattle.oai_documents.proofs.Names.{no_prefix, rule_name}
use Rattle.oai_documents.proofs.Scopes.{instance_scope}
use Rattle.oai_documents.proofs.WholeTrees.{all_both, allowed_names, dublin_core_known}

-- ---- particles

-- one, and then others
first_one : (is : Tree → Type 0) (next : List Tree → Type 0) (t : Tree) (trees : List Tree) → is t → next trees → (One is ⨾ next) (t ∷ trees)
first_one is next t trees h others = (t ∷ [], trees, refl, (t, refl, h), others)

any_of : {A : Type 0} (is : Tree → Type 0) (tree : A → Tree) → ((a : A) → is (tree a)) → (xs : List A) → Any is (map tree xs)
any_of is tree each [] = tt
any_of is tree each (x ∷ xs) = (each x, any_of is tree each xs)

several_of : {A : Type 0} (is : Tree → Type 0) (tree : A → Tree) → ((a : A) → is (tree a)) → (xs : List A) → HasMembers xs → Several is (map tree xs)
several_of is tree each [] none = absurd none
several_of is tree each (x ∷ xs) some = (each x, any_of is tree each xs)

-- where each of the values is as it is asked
any_good : {A : Type 0} (is : Tree → Type 0) (tree : A → Tree) (good : A → Bool) → ((a : A) → good a ≡ true → is (tree a)) → (xs : List A) → list_all good xs ≡ true → Any is (map tree xs)
any_good is tree good each [] all = tt
any_good is tree good each (x ∷ xs) all = let parts = and_parts (good x) (list_all good xs) all in (each x parts.0, any_good is tree good each xs parts.1)

several_good : {A : Type 0} (is : Tree → Type 0) (tree : A → Tree) (good : A → Bool) → ((a : A) → good a ≡ true → is (tree a)) → (xs : List A) → HasMembers xs → list_all good xs ≡ true
    → Several is (map tree xs)
several_good is tree good each [] none all = absurd none
several_good is tree good each (x ∷ xs) some all = let parts = and_parts (good x) (list_all good xs) all in (each x parts.0, any_good is tree good each xs parts.1)

is_text : (name text : List ℕ) → IsTextElement name (bare_leaf name text)
is_text name text = record { name_is = refl; attributes = refl; value = (text, refl, refl) }

one_of : (name : List ℕ) (values : List (List ℕ)) (text : List ℕ) → is_among values text ≡ true → IsOneOf name values (bare_leaf name text)
one_of name values text is = record { name_is = refl; attributes = refl; value = (text, refl, is) }

-- ---- the request and errors

known_arguments : list_all (is_among argument_names) argument_names ≡ true
known_arguments = refl

request_is : (d : Document) → IsRequestElement (request_tree d)
unfolding request_tree
request_is d =
    let asked : Attributes = arguments_told d.answer d.asked in record {
      name_is = refl;
      attributes = ap (list_all (is_among argument_names)) (names_given asked) ∙ all_chosen (is_among argument_names) (are_given asked) argument_names known_arguments;
      value = (d.base, refl, refl);
    }

code_known : (code : ErrorCode) → is_among error_codes (code_of code) ≡ true
code_known BadVerb = refl
code_known BadArgument = refl
code_known BadResumptionToken = refl
code_known CannotDisseminateFormat = refl
code_known IdDoesNotExist = refl
code_known NoRecordsMatch = refl
code_known NoMetadataFormats = refl
code_known NoSetHierarchy = refl

error_is : (code : ErrorCode) → IsError (error_tree code)
unfolding error_tree
error_is code = record { simple = record { name_is = refl; attributes = refl; value = (message_of code, refl, refl) }; code = (code_of code, refl, code_known code) }

-- ---- Identify, formats and sets

deleted_known : (deleted : DeletedRecord) → is_among (codes "no" ∷ codes "persistent" ∷ codes "transient" ∷ []) (deleted_text deleted) ≡ true
deleted_known No = refl
deleted_known Transient = refl
deleted_known Persistent = refl

granularity_known : (granularity : Granularity) → is_among (codes "YYYY-MM-DD" ∷ codes "YYYY-MM-DDThh:mm:ssZ" ∷ []) (granularity_text granularity) ≡ true
granularity_known Day = refl
granularity_known Second = refl

-- an element of another namespace, in its container
container_is : (name text : List ℕ) → has_root_in is_foreign text ≡ true → IsContainer name (container_tree name text)
unfolding container_tree
container_is name text is =
    let namespace : List ℕ = (root_of (element_tree text)).namespace in
    record {
      name_is = refl;
      attributes = refl;
      children = (_, refl, (element_tree text, refl, not-true (bytes_eq namespace oai_namespace || bytes_eq namespace []) is));
    }

containers_are : (name : List ℕ) (texts : List (List ℕ)) → list_all (has_root_in is_foreign) texts ≡ true → Any (IsContainer name) (map (container_tree name) texts)
containers_are name [] all = tt
containers_are name (text ∷ texts) all =
    let parts = and_parts (has_root_in is_foreign text) (list_all (has_root_in is_foreign) texts) all in
    (container_is name text parts.0, containers_are name texts parts.1)

identify_is : (base : List ℕ) (d : Description) → HasMembers d.addresses → list_all (has_root_in is_foreign) d.descriptions ≡ true → IsIdentify (identify_tree base d)
unfolding identify_tree
identify_is base d some own =
    let addresses : List Tree = map (bare_leaf (codes "adminEmail")) d.addresses in
    let earliest : Tree = bare_leaf (codes "earliestDatestamp") (datestamp_text d.granularity d.earliest) in
    let deleted : Tree = bare_leaf (codes "deletedRecord") (deleted_text d.deleted) in
    let granularity : Tree = bare_leaf (codes "granularity") (granularity_text d.granularity) in
    let descriptions : List Tree = map (container_tree (codes "description")) d.descriptions in
    record {
      name_is = refl;
      attributes = refl;
      children = (
        _,
        refl,
        first_one _ _ _ _ (is_text (codes "repositoryName") d.name)
            (first_one _ _ _ _ (is_text (codes "baseURL") base)
            (first_one _ _ _ _ (one_of (codes "protocolVersion") (codes "2.0" ∷ []) (codes "2.0") refl) (
              addresses,
              earliest ∷ deleted ∷ granularity ∷ descriptions,
              refl,
              several_of (IsTextElement (codes "adminEmail")) (bare_leaf (codes "adminEmail")) (is_text (codes "adminEmail")) d.addresses some,
              first_one _ _ _ _ (is_text (codes "earliestDatestamp") (datestamp_text d.granularity d.earliest))
                  (first_one _ _ _ _ (one_of (codes "deletedRecord") (codes "no" ∷ codes "persistent" ∷ codes "transient" ∷ []) (deleted_text d.deleted) (deleted_known d.deleted))
                  (first_one _ _ _ _ (one_of (codes "granularity") (codes "YYYY-MM-DD" ∷ codes "YYYY-MM-DDThh:mm:ssZ" ∷ []) (granularity_text d.granularity) (granularity_known d.granularity)) ([], descriptions, refl, tt, containers_are (codes "description") d.descriptions own))),
            ))),
      );
    }

format_is : (format : Format) → IsFormatElement (format_tree format)
unfolding format_tree
format_is format = record {
  name_is = refl;
  attributes = refl;
  children = (
    _,
    refl,
    first_one _ _ _ _ (is_text (codes "metadataPrefix") format.prefix)
        (first_one _ _ _ _ (is_text (codes "schema") format.schema) (bare_leaf (codes "metadataNamespace") format.namespace, refl, is_text (codes "metadataNamespace") format.namespace)),
  );
}

formats_are : (formats : List Format) → HasMembers formats → IsFormats (formats_tree formats)
unfolding formats_tree
formats_are formats some = record { name_is = refl; attributes = refl; children = (map format_tree formats, refl, several_of IsFormatElement format_tree format_is formats some) }

set_is : (set : DescribedSet) → list_all (has_root_in is_foreign) set.descriptions ≡ true → IsSet (set_tree set)
unfolding set_tree
set_is set own = record {
  name_is = refl;
  attributes = refl;
  children = (_, refl, first_one _ _ _ _ (is_text (codes "setSpec") set.spec) (first_one _ _ _ _ (is_text (codes "setName") set.name) (containers_are (codes "setDescription") set.descriptions own)));
}

each_set : (sets : List DescribedSet) → list_all (λ (set : DescribedSet). list_all (has_root_in is_foreign) set.descriptions) sets ≡ true → Any IsSet (map set_tree sets)
each_set [] own = tt
each_set (set ∷ sets) own =
    let parts = and_parts (list_all (has_root_in is_foreign) set.descriptions) (list_all (λ (set : DescribedSet). list_all (has_root_in is_foreign) set.descriptions) sets) own in
    (set_is set parts.0, each_set sets parts.1)

some_sets : (sets : List DescribedSet) → HasMembers sets → Any IsSet (map set_tree sets) → Several IsSet (map set_tree sets)
some_sets [] none each = absurd none
some_sets (set ∷ sets) some each = each

sets_are : (sets : List DescribedSet) → HasMembers sets → list_all (λ (set : DescribedSet). list_all (has_root_in is_foreign) set.descriptions) sets ≡ true → IsSets (sets_tree sets)
unfolding sets_tree
sets_are sets some own = record {
  name_is = refl;
  attributes = refl;
  children = (map set_tree sets, refl, (map set_tree sets, [], sym (append-nil (map set_tree sets)), some_sets sets some (each_set sets own), inl refl));
}

-- ---- metadata

dublin_core_foreign : (fields : List Field) → IsForeign (dublin_core_tree fields)
unfolding dublin_core_tree named_so dublin_core_attributes instance_namespace declared is_declaring prefix_of local_of namespace_of xml_namespace xmlns_namespace oai_namespace
dublin_core_foreign fields = refl

-- the namespace of a name without a prefix is the default one
default_found : (namespace : List ℕ) → namespace_of (instance_scope namespace) [] ≡ Some namespace
unfolding namespace_of instance_namespace
default_found namespace = refl

declared_within : (format : Format) → within [] (declared_attributes format) ≡ instance_scope format.namespace
unfolding declared_attributes declared is_declaring prefix_of local_of
declared_within format = refl

declared_root : (format : Format) (fields : List Field) → is_ascii_ncname format.root ≡ true → (root_of (declared_tree format fields)).namespace ≡ format.namespace
unfolding declared_tree named_so
declared_root format fields named =
    ap (λ s. unwrap_or (namespace_of s (prefix_of format.root)) []) (declared_within format)
    ∙ ap (λ p. unwrap_or (namespace_of (instance_scope format.namespace) p) []) (no_prefix format.root named)
    ∙ ap (λ found. unwrap_or found []) (default_found format.namespace)

-- a URI is not empty
no_uri : is_uri [] ≡ false
unfolding is_uri is_short_text
no_uri = refl

uri_some : (text : List ℕ) → is_uri text ≡ true → bytes_eq text [] ≡ false
uri_some [] is = absurd (true≢false (sym is ∙ no_uri))
uri_some (b ∷ text) is = refl

allowed_namespace : (format : Format) → is_allowed format ≡ true → is_uri format.namespace ≡ true
unfolding is_allowed
allowed_namespace format h =
    let repeats = and_parts (are_names format && are_uris format && has_few_fields format) (not (has_repeat format.fields)) h in
    let fields = and_parts (are_names format && are_uris format) (has_few_fields format) repeats.0 in
    let uris = and_parts (are_names format) (are_uris format) fields.0 in
    (and_parts (is_uri format.schema) (is_uri format.namespace) uris.1).1

dublin_core_namespace : bytes_eq dublin_core.namespace [] ≡ false
unfolding dublin_core
dublin_core_namespace = refl

some_namespace : (format : Format) → IsGoodFormat format → bytes_eq format.namespace [] ≡ false
some_namespace format (inl same) = ap (λ (f : Format). bytes_eq f.namespace []) same ∙ dublin_core_namespace
some_namespace format (inr allowed) = uri_some format.namespace (allowed_namespace format allowed)

neither : (a b : Bool) → a ≡ false → b ≡ false → (a || b) ≡ false
neither true b first second = first
neither false b first second = second

declared_foreign : (format : Format) (fields : List Field) → is_allowed format ≡ true → bytes_eq format.namespace oai_namespace ≡ false → IsForeign (declared_tree format fields)
declared_foreign format fields allowed other =
    let space = declared_root format fields (rule_name format.root (allowed_names format allowed).0) in
    ap (λ w. bytes_eq w oai_namespace || bytes_eq w []) space
    ∙ neither (bytes_eq format.namespace oai_namespace) (bytes_eq format.namespace []) other (uri_some format.namespace (allowed_namespace format allowed))

fields_foreign : (format : Format) (fields : List Field) → IsGoodFormat format → bytes_eq format.namespace oai_namespace ≡ false → IsForeign (fields_tree format fields)
unfolding fields_tree
fields_foreign format fields (inl same) other =
    ap (λ b. is_own (cond b (dublin_core_tree fields) (declared_tree format fields))) (ap (λ (f : Format). bytes_eq f.prefix (codes "oai_dc")) same ∙ dublin_core_known)
    ∙ dublin_core_foreign fields
  where
    is_own : Tree → Bool
    is_own t = bytes_eq (root_of t).namespace oai_namespace || bytes_eq (root_of t).namespace []
fields_foreign format fields (inr allowed) other = by_test (bytes_eq format.prefix (codes "oai_dc"))
  where
    by_test : (b : Bool) → IsForeign (cond b (dublin_core_tree fields) (declared_tree format fields))
    by_test true = dublin_core_foreign fields
    by_test false = declared_foreign format fields allowed other

-- an element has the namespace of the format that it is of
element_foreign : (format : Format) (fields : Tree) (text : List ℕ) → IsGoodFormat format → bytes_eq format.namespace oai_namespace ≡ false → is_element_of format text ≡ true
    → IsForeign (tree_or fields (tree_in text))
unfolding is_element_of
element_foreign format fields text good other is =
    let parts = and_parts (is_canonical text) (has_root_of format (root_in text)) is in
    let e : IsElement text = element_tested text parts.0 in
    let found = tree_again text e.0 e.1 in
    let root : is_root_of format (root_of e.0) ≡ true = ap (λ o. has_root_of format (option_map root_of o)) (sym found) ∙ parts.1 in
    let same : (root_of e.0).namespace ≡ format.namespace =
    (bytes_eq-Decides (root_of e.0).namespace format.namespace).0 (and_parts (bytes_eq (root_of e.0).namespace format.namespace) _ root).0 in
    ap (λ o. is_own (tree_or fields o)) found ∙ ap (λ w. bytes_eq w oai_namespace || bytes_eq w []) same
    ∙ neither (bytes_eq format.namespace oai_namespace) (bytes_eq format.namespace []) other (some_namespace format good)
  where
    is_own : Tree → Bool
    is_own t = bytes_eq (root_of t).namespace oai_namespace || bytes_eq (root_of t).namespace []

metadata_foreign : (format : Format) (fields : List Field) → IsGoodFormat format → bytes_eq format.namespace oai_namespace ≡ false → are_fields_of (Some format) fields ≡ true
    → IsForeign (metadata_tree format fields)
unfolding metadata_tree
metadata_foreign format fields good other own = by_element (element_in fields) refl
  where
    by_element : (o : Option (List ℕ)) → element_in fields ≡ o → IsForeign (tree_or (fields_tree format (content_in fields)) (option_and_then tree_in o))
    by_element None is = fields_foreign format (content_in fields) good other
    by_element (Some text) is = element_foreign format (fields_tree format (content_in fields)) text good other (kept_so format fields text is own)

-- ---- headers and records

status_known : (live : Bool) → list_all (is_among (codes "status" ∷ [])) (names_of (status live)) ≡ true
status_known true = refl
status_known false = refl

header_is : (granularity : Granularity) (item : ItemState) → IsHeader (header_tree granularity item)
unfolding header_tree
header_is granularity item = record {
  name_is = refl;
  attributes = status_known item.live;
  children = (
    _,
    refl,
    first_one _ _ _ _ (is_text (codes "identifier") item.identifier)
        (first_one _ _ _ _ (is_text (codes "datestamp") (datestamp_text granularity item.stamp)) (any_of (IsTextElement (codes "setSpec")) (bare_leaf (codes "setSpec")) (is_text (codes "setSpec")) item.sets)),
  );
}

content_is : (format : Format) (fields : List Field) → IsGoodFormat format → bytes_eq format.namespace oai_namespace ≡ false → are_fields_of (Some format) fields ≡ true
    → list_all (has_root_in is_foreign) (about_in fields) ≡ true → (Optional (IsContainer (codes "metadata")) ⨾ Any (IsContainer (codes "about"))) (content_trees format fields)
unfolding content_trees
content_is format fields good other own about = (inside ∷ [], map (container_tree (codes "about")) (about_in fields), refl, inr (inside, refl, contained), containers_are (codes "about") (about_in fields) about)
  where
    inside : Tree
    inside = bare_parent (codes "metadata") (metadata_tree format fields ∷ [])

    contained : IsContainer (codes "metadata") inside
    contained = record {
      name_is = refl;
      attributes = refl;
      children = (_, refl, (metadata_tree format fields, refl, metadata_foreign format fields good other own));
    }

part_is : (format : Format) (item : ItemState) → IsGoodFormat format → bytes_eq format.namespace oai_namespace ≡ false → has_own_fields format item ≡ true → has_about_in is_foreign format item ≡ true
    → (Optional (IsContainer (codes "metadata")) ⨾ Any (IsContainer (codes "about"))) (trees_behind_header format item)
unfolding trees_behind_header
part_is format item good other own about = by_test item.live
  where
    fields : List Field
    fields = fields_in format.prefix item.formats

    by_test : (b : Bool) → (Optional (IsContainer (codes "metadata")) ⨾ Any (IsContainer (codes "about"))) (cond b (content_trees format fields) [])
    by_test true = content_is format fields good other own about
    by_test false = ([], [], refl, inl refl, tt)

record_is : (granularity : Granularity) (format : Format) (item : ItemState) → IsGoodFormat format → bytes_eq format.namespace oai_namespace ≡ false → has_own_fields format item ≡ true
    → has_about_in is_foreign format item ≡ true → IsRecord (record_tree granularity format item)
unfolding record_tree
record_is granularity format item good other own about = record {
  name_is = refl;
  attributes = refl;
  children = (header_tree granularity item ∷ trees_behind_header format item, refl, first_one _ _ _ _ (header_is granularity item) (part_is format item good other own about));
}

-- ---- lists

token_is : (c : Continuation) → Optional IsTokenElement (token_trees c)
unfolding token_trees extent
token_is whole = inl refl
token_is (remains expires part token) = inr (_, refl, record { name_is = refl; attributes = refl; value = (token, refl, refl) })
token_is (completes part) = inr (_, refl, record { name_is = refl; attributes = refl; value = ([], refl, refl) })

headers_are : (page : Page) → HasMembers page.items → IsHeaders (headers_tree page)
unfolding headers_tree
headers_are page some =
    let headers : List Tree = map (header_tree page.granularity) page.items in record {
      name_is = refl;
      attributes = refl;
      children = (
        headers ++ token_trees page.continuation,
        refl,
        (headers, token_trees page.continuation, refl, several_of IsHeader (header_tree page.granularity) (header_is page.granularity) page.items some, token_is page.continuation),
      );
    }

records_are : (format : Format) (page : Page) → IsGoodFormat format → bytes_eq format.namespace oai_namespace ≡ false → HasMembers page.items → list_all (has_own_fields format) page.items ≡ true
    → list_all (has_about_in is_foreign format) page.items ≡ true → IsRecords (records_tree format page)
unfolding records_tree
records_are format page good other some own about =
    let records : List Tree = map (record_tree page.granularity format) page.items in record {
      name_is = refl;
      attributes = refl;
      children = (
        records ++ token_trees page.continuation,
        refl,
        (
          records,
          token_trees page.continuation,
          refl,
          several_good IsRecord (record_tree page.granularity format) (λ item. has_own_fields format item && has_about_in is_foreign format item)
              (λ item is. let parts = and_parts (has_own_fields format item) (has_about_in is_foreign format item) is in record_is page.granularity format item good other parts.0 parts.1)
              page.items some (all_both (has_own_fields format) (has_about_in is_foreign format) page.items own about),
          token_is page.continuation,
        ),
      );
    }

-- ---- documents

not_own : (namespace : List ℕ) → is_foreign namespace ≡ true → bytes_eq namespace oai_namespace ≡ false
not_own namespace is = first (bytes_eq namespace oai_namespace) (bytes_eq namespace []) is
  where
    first : (own none : Bool) → not (own || none) ≡ true → own ≡ false
    first true none h = sym h
    first false none h = refl

answer_is : (base : List ℕ) (answer : VerbAnswer) → IsRegular answer → IsFilled answer → HasNamespace is_foreign answer → HasAboutIn is_foreign answer → AreAnswerElements (answer_tree base answer ∷ [])
unfolding answer_tree
answer_is base (fails code) regular filled other about = inl (error_is code, tt)
answer_is base (identifies d) regular filled other about = inr (inl (identify_tree base d, refl, identify_is base d filled other))
answer_is base (lists_formats formats) regular filled other about = inr (inr (inl (formats_tree formats, refl, formats_are formats filled)))
answer_is base (lists_sets sets) regular filled other about = inr (inr (inr (inl (sets_tree sets, refl, sets_are sets filled other))))
answer_is base (gives_record d) regular filled other about =
    inr (inr (inr (inr (inl (
      _,
      refl,
      record {
        name_is = refl;
        attributes = refl;
        children = (_, refl, (record_tree d.granularity d.format d.item, refl, record_is d.granularity d.format d.item regular.0 (not_own d.format.namespace other) regular.1 about));
      },
    )))))
answer_is base (lists_headers page) regular filled other about = inr (inr (inr (inr (inr (inl (headers_tree page, refl, headers_are page filled))))))
answer_is base (lists_records format page) regular filled other about = inr (inr (inr (inr (inr (inr (records_tree format page, refl, records_are format page regular.0 (not_own format.namespace other) filled regular.1 about))))))

pub document_is : (d : Document) → IsRegular d.answer → IsFilled d.answer → HasNamespace is_foreign d.answer → HasAboutIn is_foreign d.answer → IsOfSchema (document_tree d)
unfolding document_tree root_attributes
document_is d regular filled other about = record {
  name_is = refl;
  attributes = refl;
  children = (
    bare_leaf (codes "responseDate") (second_text d.date) ∷ request_tree d ∷ answer_tree d.base d.answer ∷ [],
    refl,
    first_one _ _ _ _ (is_text (codes "responseDate") (second_text d.date)) (first_one _ _ _ _ (request_is d) (answer_is d.base d.answer regular filled other about)),
  );
}
