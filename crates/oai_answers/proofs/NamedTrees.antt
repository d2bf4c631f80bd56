-- The trees of fields of good formats, and of elements that are kept, have names whose bytes are those of names.
use Rattle.std.proofs.Common.{◌≡◌, ◌∙◌, inl, inr, ℕ, Bool, true, false, not, ◌&&◌, ◌||◌, cond, List, [], ◌∷◌, ◌++◌, map, length, codes, Option, None, Some, refl, sym, ap, arith}
use Rattle.std.specs.Prelude.{nat_le, option_and_then}
use Rattle.std.specs.List.{list_all}
use Rattle.std.specs.Str.{bytes_eq}
use Rattle.std.proofs.lemmas.Bool.{and_from, and_parts, true≢false}
use Rattle.std.proofs.lemmas.Bool.Decides.{nat_tests}
use Rattle.std.proofs.lemmas.List.Folds.{list_all-append}
use Rattle.std.proofs.lemmas.Slice.Eq.{bytes_eq-Decides}
use Rattle.oai_names.specs.Names.{is_among}
use Rattle.oai_names.proofs.Lists.{all-weaker}
use Rattle.oai_item.specs.Elements.{about_in, behind_content, content_in, element_in, is_about, is_element_of, is_nameless, keeps_element_of}
use Rattle.oai_item.specs.Formats.{dublin_core}
use Rattle.oai_item.specs.Givens.{field_texts, is_none_or_canonical}
use Rattle.oai_item.specs.Known.{are_fields_of, are_listed_in, is_content_of, is_listed_in}
use Rattle.oai_item.specs.Rules.{are_names, are_uris, has_few_fields, has_repeat, is_allowed, is_element_name, is_element_name_byte, is_first_byte, is_name}
use Rattle.oai_item.specs.declared.fields.Field.{Field}
use Rattle.oai_item.specs.declared.formats.Format.{Format}
use Rattle.oai_item.proofs.GivenLemmas.{kept_element}
use Rattle.oai_xml.specs.Documents.{is_canonical, tree_in}
use Rattle.oai_xml.specs.QNames.{is_name_byte}
use Rattle.oai_xml.specs.Trees.{Tree, text_of}
use Rattle.oai_xml.specs.Whole.{IsElement}
use Rattle.oai_xml.specs.declared.limits.TheConstants.{MAX_DEPTH}
use Rattle.oai_xml.proofs.CanonicalLemmas.{element_tested, tree_again}
use Rattle.oai_xml.proofs.TreeCuts.{content_named, is_named, is_named_tag, tree_named, whole_named}
use Rattle.oai_answers.specs.ElementParts.{in_order}
use Rattle.oai_answers.specs.MetadataTrees.{declared_attributes, declared_tree, dublin_core_attributes, dublin_core_tree, field_tree, fields_tree, metadata_tree, tree_or}
use Rattle.oai_answers.specs.Seen.{IsGoodFormat}
use Rattle.oai_answers.proofs.RecordCuts.{is_plain_content, is_plain_metadata}

-- ---- names of formats

name_byte : (b : ℕ) → is_element_name_byte b ≡ true → is_name_byte b ≡ true
name_byte b h = grind (arith, nat_tests)

first_byte : (b : ℕ) → is_first_byte b ≡ true → is_name_byte b ≡ true
first_byte b h = grind (arith, nat_tests)

name_bytes : (bytes : List ℕ) → list_all is_element_name_byte bytes ≡ true → is_named bytes ≡ true
name_bytes [] h = refl
name_bytes (b ∷ bytes) h =
    let parts = and_parts (is_element_name_byte b) (list_all is_element_name_byte bytes) h in
    and_from (is_name_byte b) (is_named bytes) (name_byte b parts.0) (name_bytes bytes parts.1)

pub rule_named : (name : List ℕ) → is_name name ≡ true → is_named name ≡ true
unfolding is_element_name
rule_named [] h = cc
rule_named (b ∷ bytes) h =
    let size = and_parts (is_first_byte b && list_all is_element_name_byte bytes) (nat_le (length (b ∷ bytes)) 64) h in
    let parts = and_parts (is_first_byte b) (list_all is_element_name_byte bytes) size.0 in
    and_from (is_name_byte b) (is_named bytes) (first_byte b parts.0) (name_bytes bytes parts.1)

rules_named : (names : List (List ℕ)) → list_all is_name names ≡ true → list_all is_named names ≡ true
rules_named [] h = refl
rules_named (name ∷ names) h =
    let parts = and_parts (is_name name) (list_all is_name names) h in
    and_from (is_named name) (list_all is_named names) (rule_named name parts.0) (rules_named names parts.1)

dublin_core_names : list_all is_named dublin_core.fields ≡ true
unfolding dublin_core
dublin_core_names = refl

pub dublin_core_known : bytes_eq dublin_core.prefix (codes "oai_dc") ≡ true
unfolding dublin_core
dublin_core_known = refl

pub names_allowed : (format : Format) → is_allowed format ≡ true → (is_name format.root ≡ true) × (list_all is_name format.fields ≡ true)
unfolding is_allowed
names_allowed format h =
    let repeats = and_parts (are_names format && are_uris format && has_few_fields format) (not (has_repeat format.fields)) h in
    let fields = and_parts (are_names format && are_uris format) (has_few_fields format) repeats.0 in
    let uris = and_parts (are_names format) (are_uris format) fields.0 in
    and_parts (is_name format.root) (list_all is_name format.fields) uris.0

names_good : (format : Format) → IsGoodFormat format → list_all is_named format.fields ≡ true
names_good format (inl same) = ap (λ (f : Format). list_all is_named f.fields) same ∙ dublin_core_names
names_good format (inr allowed) = rules_named format.fields (names_allowed format allowed).1

-- ---- fields

of_these : (names : List (List ℕ)) (name : List ℕ) → list_all is_named names ≡ true → is_among names name ≡ true → is_named name ≡ true
of_these [] name all there = cc
of_these (x ∷ names) name all there =
    let parts = and_parts (is_named x) (list_all is_named names) all in
    by_test (bytes_eq name x) ((bytes_eq-Decides name x).0) there (of_these names name parts.1)
  where
    by_test : (b : Bool) → (b ≡ true → name ≡ x) → (b || is_among names name) ≡ true → (is_among names name ≡ true → is_named name ≡ true) → is_named name ≡ true
    by_test true same h later = ap is_named (same refl) ∙ (and_parts (is_named x) (list_all is_named names) all).0
    by_test false same h later = later h

qualified : (qualifier name : List ℕ) → is_named qualifier ≡ true → is_named name ≡ true → is_named (qualifier ++ name) ≡ true
qualified qualifier name q n = list_all-append is_name_byte qualifier name ∙ and_from (is_named qualifier) (is_named name) q n

text_named : (text : List ℕ) → content_named (text_of text) ≡ true
unfolding content_named text_of
text_named [] = refl
text_named (b ∷ text) = text_named text

field_named : (qualifier : List ℕ) (field : Field) → is_named qualifier ≡ true → is_named field.name ≡ true → tree_named (field_tree qualifier field) ≡ true
unfolding field_tree
field_named qualifier field q n =
    and_from (is_named_tag (qualifier ++ field.name, [])) (content_named (text_of field.text)) (and_from (is_named (qualifier ++ field.name)) true (qualified qualifier field.name q n) refl) (text_named field.text)

order_named : (trees : List Tree) → list_all tree_named trees ≡ true → content_named (in_order trees) ≡ true
unfolding content_named in_order
order_named [] h = refl
order_named (t ∷ trees) h =
    let one = and_parts (tree_named t) (list_all tree_named trees) h in
    let parts = and_parts (is_named_tag (t.name, t.attributes)) (content_named t.content) one.0 in
    and_from (is_named_tag (t.name, t.attributes)) (content_named t.content && content_named (in_order trees)) parts.0
    (and_from (content_named t.content) (content_named (in_order trees)) parts.1 (order_named trees one.1))

-- fields that are listed in a format have names among its own
pub listed_among : (format : Format) (fields : List Field) → are_listed_in format fields ≡ true → list_all (λ (field : Field). is_among format.fields field.name) fields ≡ true
listed_among format fields all =
    all-weaker (is_listed_in format) (λ (field : Field). is_among format.fields field.name)
    (λ field is. (and_parts (not (is_nameless field)) (is_among format.fields field.name) is).1) fields all

each_named : (qualifier : List ℕ) (names : List (List ℕ)) (fields : List Field) → is_named qualifier ≡ true → list_all is_named names ≡ true
    → list_all (λ (field : Field). is_among names field.name) fields ≡ true → list_all tree_named (map (field_tree qualifier) fields) ≡ true
each_named qualifier names [] q all there = refl
each_named qualifier names (field ∷ fields) q all there =
    let parts = and_parts (is_among names field.name) (list_all (λ (f : Field). is_among names f.name) fields) there in
    and_from (tree_named (field_tree qualifier field)) (list_all tree_named (map (field_tree qualifier) fields))
    (field_named qualifier field q (of_these names field.name all parts.0)) (each_named qualifier names fields q all parts.1)

dublin_core_tag : is_named_tag (codes "oai_dc:dc", dublin_core_attributes) ≡ true
unfolding dublin_core_attributes
dublin_core_tag = refl

declared_tag : (format : Format) → is_named format.root ≡ true → is_named_tag (format.root, declared_attributes format) ≡ true
unfolding declared_attributes
declared_tag format root = and_from (is_named format.root) true root refl

dublin_core_tree_named : (names : List (List ℕ)) (fields : List Field) → list_all is_named names ≡ true → list_all (λ (field : Field). is_among names field.name) fields ≡ true
    → tree_named (dublin_core_tree fields) ≡ true
unfolding dublin_core_tree
dublin_core_tree_named names fields all there =
    and_from (is_named_tag (codes "oai_dc:dc", dublin_core_attributes)) (content_named (in_order (map (field_tree (codes "dc:")) fields))) dublin_core_tag
    (order_named (map (field_tree (codes "dc:")) fields) (each_named (codes "dc:") names fields refl all there))

declared_tree_named : (format : Format) (fields : List Field) → is_named format.root ≡ true → list_all is_named format.fields ≡ true → list_all (λ (field : Field). is_among format.fields field.name) fields ≡ true
    → tree_named (declared_tree format fields) ≡ true
unfolding declared_tree
declared_tree_named format fields root all there =
    and_from (is_named_tag (format.root, declared_attributes format)) (content_named (in_order (map (field_tree []) fields))) (declared_tag format root)
    (order_named (map (field_tree []) fields) (each_named [] format.fields fields refl all there))

fields_tree_named : (format : Format) (fields : List Field) → IsGoodFormat format → are_listed_in format fields ≡ true → tree_named (fields_tree format fields) ≡ true
unfolding fields_tree
fields_tree_named format fields (inl same) listed =
    ap (λ b. tree_named (cond b (dublin_core_tree fields) (declared_tree format fields))) (ap (λ (f : Format). bytes_eq f.prefix (codes "oai_dc")) same ∙ dublin_core_known)
    ∙ dublin_core_tree_named format.fields fields (names_good format (inl same)) (listed_among format fields listed)
fields_tree_named format fields (inr allowed) listed = by_test (bytes_eq format.prefix (codes "oai_dc"))
  where
    by_test : (b : Bool) → tree_named (cond b (dublin_core_tree fields) (declared_tree format fields)) ≡ true
    by_test true = dublin_core_tree_named format.fields fields (names_good format (inr allowed)) (listed_among format fields listed)
    by_test false = declared_tree_named format fields (rule_named format.root (names_allowed format allowed).0) (names_good format (inr allowed)) (listed_among format fields listed)

-- ---- elements

-- the record itself, and what is about it
content_own : (format : Format) (fields : List Field) → are_fields_of (Some format) fields ≡ true → (is_content_of format fields ≡ true) × (list_all is_about (behind_content fields) ≡ true)
content_own format fields own = and_parts (is_content_of format fields) (list_all is_about (behind_content fields)) own

-- fields that keep an element as the record itself keep one of the format, since no format lists a field without a name
pub kept_so : (format : Format) (fields : List Field) (text : List ℕ) → element_in fields ≡ Some text → are_fields_of (Some format) fields ≡ true → is_element_of format text ≡ true
kept_so format fields text is own =
    by_test (are_listed_in format (content_in fields)) (ap (are_listed_in format) (kept_element (content_in fields) text is))
    (ap (λ o. are_listed_in format (content_in fields) || keeps_element_of format o) (sym is) ∙ (content_own format fields own).0)
  where
    by_test : (b : Bool) → b ≡ false → (b || is_element_of format text) ≡ true → is_element_of format text ≡ true
    by_test false unlisted h = h
    by_test true unlisted h = absurd (true≢false unlisted)

pub canonical_so : (format : Format) (text : List ℕ) → is_element_of format text ≡ true → is_canonical text ≡ true
unfolding is_element_of
canonical_so format text is = (and_parts (is_canonical text) _ is).0

tree_kept : (fields : Tree) (text : List ℕ) (e : IsElement text) → tree_named (tree_or fields (tree_in text)) ≡ true
tree_kept fields text e = ap (λ o. tree_named (tree_or fields o)) (tree_again text e.0 e.1) ∙ whole_named MAX_DEPTH [] e.0 e.1.whole

-- ---- both

only_listed : (b : Bool) → (b || false) ≡ true → b ≡ true
only_listed true h = refl
only_listed false h = h

-- fields that keep no element as the record itself are listed in the format
pub listed_own : (format : Format) (fields : List Field) → element_in fields ≡ None → are_fields_of (Some format) fields ≡ true → are_listed_in format (content_in fields) ≡ true
listed_own format fields is own =
    only_listed (are_listed_in format (content_in fields)) (ap (λ o. are_listed_in format (content_in fields) || keeps_element_of format o) (sym is) ∙ (content_own format fields own).0)

plain_metadata : (format : Format) (fields : List Field) → IsGoodFormat format → are_fields_of (Some format) fields ≡ true → is_plain_metadata (format, fields) ≡ true
unfolding metadata_tree
plain_metadata format fields good own = by_element (element_in fields) refl
  where
    content : List Field
    content = content_in fields

    by_element : (o : Option (List ℕ)) → element_in fields ≡ o
        → (tree_named (tree_or (fields_tree format content) (option_and_then tree_in o)) && is_none_or_canonical o) ≡ true
    by_element None is = and_from (tree_named (fields_tree format content)) true (fields_tree_named format content good (listed_own format fields is own)) refl
    by_element (Some text) is =
        let canonical : is_canonical text ≡ true = canonical_so format text (kept_so format fields text is own) in
        and_from (tree_named (tree_or (fields_tree format content) (tree_in text))) (is_canonical text) (tree_kept (fields_tree format content) text (element_tested text canonical)) canonical

pub canonical_own : (format : Format) (fields : List Field) → IsGoodFormat format → are_fields_of (Some format) fields ≡ true → is_none_or_canonical (element_in fields) ≡ true
canonical_own format fields good own = (and_parts (tree_named (metadata_tree format fields)) (is_none_or_canonical (element_in fields)) (plain_metadata format fields good own)).1

-- ---- elements about a record

each_canonical : (fields : List Field) → list_all is_about fields ≡ true → list_all is_canonical (field_texts fields) ≡ true
each_canonical [] all = refl
each_canonical (field ∷ fields) all =
    let parts = and_parts (is_about field) (list_all is_about fields) all in
    and_from (is_canonical field.text) (list_all is_canonical (field_texts fields)) (and_parts (is_nameless field) (is_canonical field.text) parts.0).1 (each_canonical fields parts.1)

pub about_own : (format : Format) (fields : List Field) → are_fields_of (Some format) fields ≡ true → list_all is_canonical (about_in fields) ≡ true
about_own format fields own = each_canonical (behind_content fields) (content_own format fields own).1

pub plain_content : (format : Format) (fields : List Field) → IsGoodFormat format → are_fields_of (Some format) fields ≡ true → is_plain_content (format, fields) ≡ true
plain_content format fields good own =
    and_from (is_plain_metadata (format, fields)) (list_all is_canonical (about_in fields)) (plain_metadata format fields good own) (about_own format fields own)
