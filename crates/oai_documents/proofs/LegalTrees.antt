-- Where the texts of a document are legal, its tree is.
use Rattle.std.proofs.Common.{◌≡◌, ◌∙◌, ◌+◌, ◌<◌, inl, inr, ℕ, ℤ, Bool, true, false, ◌&&◌, not, eqb, cond, List, [], ◌∷◌, ◌++◌, map, codes, Option, None, Some, refl, sym, ap, subst, arith}
use Rattle.std.specs.Fmt.{decimal}
use Rattle.std.specs.Prelude.{find, option_and_then}
use Rattle.std.specs.List.{flat_map, list_all}
use Rattle.std.specs.Str.{bytes_eq}
use Rattle.std.proofs.lemmas.Bool.{and_parts, cases_Bool, eq-eqb, eqb-true, true≢false}
use Rattle.std.proofs.lemmas.Bool.Decides.{nat_tests}
use Rattle.std.proofs.lemmas.List.Folds.{list_all-append}
use Rattle.oai_names.proofs.Cuts.{all-map, lacks}
use Rattle.oai_names.proofs.Lists.{all-weaker}
use Rattle.oai_time.specs.TimeTexts.{datestamp_text, second_text}
use Rattle.oai_time.specs.declared.granularity.Granularity.{Granularity}
use Rattle.oai_time.specs.declared.granularity.Granularity.TheVariants.{Day, Second}
use Rattle.oai_lists.specs.Tokens.{token_text}
use Rattle.oai_lists.specs.declared.tokens.Token.{Token}
use Rattle.oai_item.specs.Formats.{dublin_core}
use Rattle.oai_item.specs.Elements.{about_in, behind_content, content_in, element_in}
use Rattle.oai_item.specs.Known.{are_fields_of}
use Rattle.oai_item.proofs.Contents.{content_and_behind}
use Rattle.oai_item.proofs.GivenLemmas.{kept_element}
use Rattle.oai_item.specs.Item.{ItemState, Metadata, fields_in, fields_of, record_named}
use Rattle.oai_item.specs.declared.deleted_record.DeletedRecord.{DeletedRecord}
use Rattle.oai_item.specs.declared.deleted_record.DeletedRecord.TheVariants.{No, Transient, Persistent}
use Rattle.oai_item.specs.declared.fields.Field.{Field}
use Rattle.oai_item.specs.declared.formats.Format.{Format}
use Rattle.oai_answers.specs.Answers.{Attributes, Continuation, DescribedSet, Description, Document, Page, VerbAnswer, arguments_told, completes, fails, gives_record, identifies, lists_formats, lists_headers, lists_records, lists_sets, remains, whole}
use Rattle.oai_answers.specs.Documents.{code_of, deleted_text, granularity_text, message_of}
use Rattle.oai_answers.specs.Seen.{IsGoodFormat, IsRegular, has_elements, has_own_fields}
use Rattle.oai_answers.specs.declared.errors.ErrorCode.{ErrorCode}
use Rattle.oai_answers.specs.declared.errors.ErrorCode.TheVariants.{BadVerb, BadArgument, BadResumptionToken, CannotDisseminateFormat, IdDoesNotExist, NoRecordsMatch, NoMetadataFormats, NoSetHierarchy}
use Rattle.oai_answers.specs.declared.tokens.Extent.{Extent}
use Rattle.oai_answers.proofs.Printed.{IsNoTime, datestamp_lacks, decimal_lacks, second_lacks}
use Rattle.oai_xml.specs.Ascii.{is_ascii_ncname}
use Rattle.oai_xml.specs.LegalTexts.{are_elements_legal, is_legal_attribute, is_legal_tag, is_legal_text, leading_text}
use Rattle.oai_xml.specs.QNames.{is_ascii_further}
use Rattle.oai_xml.specs.Documents.{is_canonical, tree_in}
use Rattle.oai_xml.specs.Trees.{Attribute, Tree, end_tag, spelled, spelled_content, start_tag, text_of}
use Rattle.oai_xml.specs.Whole.{IsElement}
use Rattle.oai_xml.proofs.CanonicalLemmas.{element_tested, tree_again}
use Rattle.oai_xml.proofs.Spellings.{tree_spelled}
use Rattle.oai_xml.proofs.LegalSpellings.{Legal, both as both_legal, end_legal, is_plain, legal, nothing_legal, plain, spelled_legal, start_legal, tested}
use Rattle.oai_answers.specs.ElementParts.{bare_leaf, bare_parent, element_attribute, in_order, leaf, parent}
use Rattle.oai_documents.specs.DocumentTrees.{answer_tree, argument_attribute, arguments, container_tree, content_trees, document_tree, error_tree, extent, format_tree, formats_tree, header_tree, headers_tree, identify_tree, record_tree, records_tree, request_tree, root_attributes, set_tree, sets_tree, status, token_trees, trees_behind_header}
use Rattle.oai_answers.specs.MetadataTrees.{declared_attributes, declared_tree, dublin_core_attributes, dublin_core_tree, element_tree, field_tree, fields_tree, instance_namespace, metadata_tree, tree_or}
use Rattle.oai_answers.proofs.NamedTrees.{about_own, canonical_so, kept_so, listed_among, listed_own}
use Rattle.oai_answers.proofs.Written.{in_order_spelled}
use Rattle.oai_documents.specs.Texts.{have_legal_arguments, is_legal_argument, is_legal_field, is_legal_format, is_legal_item, is_legal_record}
use Rattle.oai_documents.proofs.Names.{all_further, rule_name}
use Rattle.oai_documents.proofs.Tags.{both}
use Rattle.oai_documents.proofs.WholeTrees.{allowed_names, fields_named, is_named_field}

-- ---- texts

abbrev pub IsText : List ℕ → Type 0
IsText text = is_legal_text text ≡ true

-- characters of ASCII
pub plain_text : (text : List ℕ) → list_all is_plain text ≡ true → IsText text
plain_text text all = tested text (plain text all)

no_text : IsText []
no_text = plain_text [] refl

text_behind : (front back : List ℕ) → IsText front → IsText back → IsText (front ++ back)
text_behind front back first second = tested (front ++ back) (both_legal front back (legal front first) (legal back second))

-- ---- times and numbers: what has no byte that no time has is of digits and letters

never : (b : ℕ) → not (eqb b b) ≡ true → ⊥
never b is = true≢false (sym is ∙ ap not (eq-eqb b b refl))

apart : (c b : ℕ) → is_plain c ≡ true → is_plain b ≡ false → not (eqb c b) ≡ true
apart c b first second =
    elim (cases_Bool (eqb c b)) [
      | inl same ↦ absurd (true≢false (sym first ∙ ap is_plain (eqb-true c b same) ∙ second))
      | inr other ↦ ap not other
    ]

digit_plain : (d : ℕ) → d < 10 → is_plain (48 + d) ≡ true
digit_plain d small = grind (arith, nat_tests)

no_time : (b : ℕ) → is_plain b ≡ false → IsNoTime b
no_time b out = record {
  digit = λ d small. apart (48 + d) b (digit_plain d small) out;
  dash = both (apart 45 b refl out) refl;
  letter_t = both (apart 84 b refl out) refl;
  colon = both (apart 58 b refl out) refl;
  letter_z = both (apart 90 b refl out) refl;
}

plain_time : (bytes : List ℕ) → ((q : ℕ) → IsNoTime q → lacks q bytes ≡ true) → list_all is_plain bytes ≡ true
plain_time [] all = refl
plain_time (b ∷ bytes) all = both (here (is_plain b) refl) (plain_time bytes (λ q is. (and_parts (not (eqb b q)) (lacks q bytes) (all q is)).1))
  where
    here : (p : Bool) → is_plain b ≡ p → is_plain b ≡ true
    here true is = is
    here false is = absurd (never b (and_parts (not (eqb b b)) (lacks b bytes) (all b (no_time b is))).0)

second_legal : (seconds : ℤ) → IsText (second_text seconds)
second_legal seconds = plain_text (second_text seconds) (plain_time (second_text seconds) (λ q is. second_lacks q is seconds))

datestamp_legal : (granularity : Granularity) (seconds : ℤ) → IsText (datestamp_text granularity seconds)
datestamp_legal granularity seconds = plain_text (datestamp_text granularity seconds) (plain_time (datestamp_text granularity seconds) (λ q is. datestamp_lacks q is granularity seconds))

decimal_plain : (n : ℕ) → list_all is_plain (decimal n) ≡ true
decimal_plain n = plain_time (decimal n) (λ q is. decimal_lacks q is n)

decimal_legal : (n : ℕ) → IsText (decimal n)
decimal_legal n = plain_text (decimal n) (decimal_plain n)

pub token_legal : (token : Token) → IsText (token_text token)
unfolding token_text
token_legal token =
    plain_text (decimal token.list ++ 46 ∷ decimal token.cursor)
    (list_all-append is_plain (decimal token.list) (46 ∷ decimal token.cursor) ∙ both (decimal_plain token.list) (both refl (decimal_plain token.cursor)))

-- ---- names

further_plain : (b : ℕ) → is_ascii_further b ≡ true → is_plain b ≡ true
further_plain b is = grind (arith, nat_tests, is)

name_plain : (name : List ℕ) → is_ascii_ncname name ≡ true → list_all is_plain name ≡ true
name_plain name is = all-weaker is_ascii_further is_plain further_plain name (all_further name is)

-- ---- elements

-- the bytes of an element are legal
abbrev pub is_fine : Tree → Bool
is_fine t = is_legal_text (spelled t)

abbrev IsFine : Tree → Type 0
IsFine t = is_fine t ≡ true

text_first : (text : List ℕ) → leading_text (text_of text) ≡ text
unfolding text_of leading_text
text_first [] = refl
text_first (b ∷ text) = ap (λ (w : List ℕ). b ∷ w) (text_first text)

text_alone : (text : List ℕ) → are_elements_legal (text_of text) ≡ true
unfolding text_of are_elements_legal
text_alone [] = refl
text_alone (b ∷ text) = text_alone text

trees_legal : (trees : List Tree) → list_all is_fine trees ≡ true → Legal (flat_map spelled trees)
trees_legal [] all = nothing_legal
trees_legal (t ∷ trees) all =
    let parts = and_parts (is_fine t) (list_all is_fine trees) all in both_legal (spelled t) (flat_map spelled trees) (legal (spelled t) parts.0) (trees_legal trees parts.1)

leaf_legal : (name : List ℕ) (attributes : List Attribute) (text : List ℕ) → is_legal_tag name attributes ≡ true → IsText text → IsFine (leaf name attributes text)
leaf_legal name attributes text tag is = spelled_legal (leaf name attributes text) (both tag (both (ap is_legal_text (text_first text) ∙ is) (text_alone text)))

parent_legal : (name : List ℕ) (attributes : List Attribute) (trees : List Tree) → is_legal_tag name attributes ≡ true → list_all is_fine trees ≡ true → IsFine (parent name attributes trees)
parent_legal name attributes trees tag all =
    tested (spelled (parent name attributes trees)) (subst Legal (sym (tree_spelled (parent name attributes trees)))
    (both_legal (start_tag name attributes) _ (start_legal name attributes tag)
    (both_legal (spelled_content (in_order trees)) (end_tag name) (subst Legal (sym (in_order_spelled trees)) (trees_legal trees all)) (end_legal name attributes tag))))

bare_tag : (name : List ℕ) → list_all is_plain name ≡ true → is_legal_tag name [] ≡ true
bare_tag name is = both (plain_text name is) refl

fine_leaf : (name text : List ℕ) → list_all is_plain name ≡ true → IsText text → IsFine (bare_leaf name text)
fine_leaf name text is legal_so = leaf_legal name [] text (bare_tag name is) legal_so

fine_parent : (name : List ℕ) (trees : List Tree) → list_all is_plain name ≡ true → list_all is_fine trees ≡ true → IsFine (bare_parent name trees)
fine_parent name trees is all = parent_legal name [] trees (bare_tag name is) all

fine_attribute : (name value : List ℕ) → list_all is_plain name ≡ true → IsText value → is_legal_attribute (element_attribute name value) ≡ true
fine_attribute name value is legal_so = both (plain_text name is) legal_so

each_fine : {A : Type 0} (tree : A → Tree) (good : A → Bool) → ((a : A) → good a ≡ true → IsFine (tree a)) → (xs : List A) → list_all good xs ≡ true → list_all is_fine (map tree xs) ≡ true
each_fine tree good is [] all = refl
each_fine tree good is (x ∷ xs) all = let parts = and_parts (good x) (list_all good xs) all in both (is x parts.0) (each_fine tree good is xs parts.1)

and_more : (xs ys : List Tree) → list_all is_fine xs ≡ true → list_all is_fine ys ≡ true → list_all is_fine (xs ++ ys) ≡ true
and_more xs ys first second = list_all-append is_fine xs ys ∙ both first second

-- ---- the request and errors

given_legal : (name : List ℕ) (value : Option (List ℕ)) → list_all is_plain name ≡ true → is_legal_argument value ≡ true → list_all is_legal_attribute (argument_attribute name value) ≡ true
given_legal name None is legal_so = refl
given_legal name (Some value) is legal_so = both (fine_attribute name value is legal_so) refl

given_more : (xs ys : List Attribute) → list_all is_legal_attribute xs ≡ true → list_all is_legal_attribute ys ≡ true → list_all is_legal_attribute (xs ++ ys) ≡ true
given_more xs ys first second = list_all-append is_legal_attribute xs ys ∙ both first second

arguments_legal : (a : Attributes) → have_legal_arguments a ≡ true → list_all is_legal_attribute (arguments a) ≡ true
unfolding arguments
arguments_legal a is =
    let seven = and_parts _ (is_legal_argument a.token) is in
    let six = and_parts _ (is_legal_argument a.set) seven.0 in
    let five = and_parts _ (is_legal_argument a.until) six.0 in
    let four = and_parts _ (is_legal_argument a.from) five.0 in
    let three = and_parts _ (is_legal_argument a.prefix) four.0 in
    let two = and_parts (is_legal_argument a.verb) (is_legal_argument a.identifier) three.0 in
    given_more (argument_attribute (codes "verb") a.verb) _ (given_legal (codes "verb") a.verb refl two.0)
    (given_more (argument_attribute (codes "identifier") a.identifier) _ (given_legal (codes "identifier") a.identifier refl two.1)
    (given_more (argument_attribute (codes "metadataPrefix") a.prefix) _ (given_legal (codes "metadataPrefix") a.prefix refl three.1)
    (given_more (argument_attribute (codes "from") a.from) _ (given_legal (codes "from") a.from refl four.1)
    (given_more (argument_attribute (codes "until") a.until) _ (given_legal (codes "until") a.until refl five.1)
    (given_more (argument_attribute (codes "set") a.set) _ (given_legal (codes "set") a.set refl six.1) (given_legal (codes "resumptionToken") a.token refl seven.1))))))

told_legal : (answer : VerbAnswer) (asked : Attributes) → have_legal_arguments asked ≡ true → have_legal_arguments (arguments_told answer asked) ≡ true
told_legal (fails BadVerb) asked is = refl
told_legal (fails BadArgument) asked is = refl
told_legal (fails BadResumptionToken) asked is = is
told_legal (fails CannotDisseminateFormat) asked is = is
told_legal (fails IdDoesNotExist) asked is = is
told_legal (fails NoRecordsMatch) asked is = is
told_legal (fails NoMetadataFormats) asked is = is
told_legal (fails NoSetHierarchy) asked is = is
told_legal (identifies d) asked is = is
told_legal (lists_formats formats) asked is = is
told_legal (lists_sets sets) asked is = is
told_legal (gives_record d) asked is = is
told_legal (lists_headers page) asked is = is
told_legal (lists_records format page) asked is = is

request_fine : (d : Document) → IsText d.base → have_legal_arguments d.asked ≡ true → IsFine (request_tree d)
unfolding request_tree
request_fine d base asked =
    leaf_legal (codes "request") (arguments (arguments_told d.answer d.asked)) d.base
    (both (plain_text (codes "request") refl) (arguments_legal (arguments_told d.answer d.asked) (told_legal d.answer d.asked asked))) base

code_legal : (code : ErrorCode) → IsText (code_of code)
code_legal BadVerb = plain_text (code_of BadVerb) refl
code_legal BadArgument = plain_text (code_of BadArgument) refl
code_legal BadResumptionToken = plain_text (code_of BadResumptionToken) refl
code_legal CannotDisseminateFormat = plain_text (code_of CannotDisseminateFormat) refl
code_legal IdDoesNotExist = plain_text (code_of IdDoesNotExist) refl
code_legal NoRecordsMatch = plain_text (code_of NoRecordsMatch) refl
code_legal NoMetadataFormats = plain_text (code_of NoMetadataFormats) refl
code_legal NoSetHierarchy = plain_text (code_of NoSetHierarchy) refl

message_legal : (code : ErrorCode) → IsText (message_of code)
message_legal BadVerb = plain_text (message_of BadVerb) refl
message_legal BadArgument = plain_text (message_of BadArgument) refl
message_legal BadResumptionToken = plain_text (message_of BadResumptionToken) refl
message_legal CannotDisseminateFormat = plain_text (message_of CannotDisseminateFormat) refl
message_legal IdDoesNotExist = plain_text (message_of IdDoesNotExist) refl
message_legal NoRecordsMatch = plain_text (message_of NoRecordsMatch) refl
message_legal NoMetadataFormats = plain_text (message_of NoMetadataFormats) refl
message_legal NoSetHierarchy = plain_text (message_of NoSetHierarchy) refl

error_fine : (code : ErrorCode) → IsFine (error_tree code)
unfolding error_tree
error_fine code =
    leaf_legal (codes "error") (element_attribute (codes "code") (code_of code) ∷ []) (message_of code)
    (both (plain_text (codes "error") refl) (both (fine_attribute (codes "code") (code_of code) refl (code_legal code)) refl)) (message_legal code)

-- ---- Identify, formats and sets

deleted_legal : (deleted : DeletedRecord) → IsText (deleted_text deleted)
deleted_legal No = plain_text (deleted_text No) refl
deleted_legal Transient = plain_text (deleted_text Transient) refl
deleted_legal Persistent = plain_text (deleted_text Persistent) refl

granularity_legal : (granularity : Granularity) → IsText (granularity_text granularity)
granularity_legal Day = plain_text (granularity_text Day) refl
granularity_legal Second = plain_text (granularity_text Second) refl

format_fine : (format : Format) → is_legal_format format ≡ true → IsFine (format_tree format)
unfolding format_tree
format_fine format is =
    let three = and_parts (is_legal_text format.prefix && is_legal_text format.schema) (is_legal_text format.namespace) is in
    let two = and_parts (is_legal_text format.prefix) (is_legal_text format.schema) three.0 in
    fine_parent (codes "metadataFormat") _ refl
    (both (fine_leaf (codes "metadataPrefix") format.prefix refl two.0)
    (both (fine_leaf (codes "schema") format.schema refl two.1) (both (fine_leaf (codes "metadataNamespace") format.namespace refl three.1) refl)))

formats_fine : (formats : List Format) → list_all is_legal_format formats ≡ true → IsFine (formats_tree formats)
unfolding formats_tree
formats_fine formats all = fine_parent (codes "ListMetadataFormats") _ refl (each_fine format_tree is_legal_format format_fine formats all)

-- ---- metadata

-- a field of such a name, with such a text
abbrev is_good_field : Field → Bool
is_good_field field = is_named_field field && is_legal_field field

all_and : {A : Type 0} (p q : A → Bool) (xs : List A) → list_all p xs ≡ true → list_all q xs ≡ true → list_all (λ (x : A). p x && q x) xs ≡ true
all_and p q [] first second = refl
all_and p q (x ∷ xs) first second =
    let one = and_parts (p x) (list_all p xs) first in
    let other = and_parts (q x) (list_all q xs) second in
    both (both one.0 other.0) (all_and p q xs one.1 other.1)

field_fine : (qualifier : List ℕ) (field : Field) → list_all is_plain qualifier ≡ true → is_good_field field ≡ true → IsFine (field_tree qualifier field)
unfolding field_tree
field_fine qualifier field front is =
    let parts = and_parts (is_named_field field) (is_legal_field field) is in
    fine_leaf (qualifier ++ field.name) field.text (list_all-append is_plain qualifier field.name ∙ both front (name_plain field.name parts.0)) parts.1

dublin_core_legal : list_all is_legal_attribute dublin_core_attributes ≡ true
unfolding dublin_core_attributes instance_namespace
dublin_core_legal =
    both (fine_attribute (codes "xmlns:oai_dc") (codes "http://www.openarchives.org/OAI/2.0/oai_dc/") refl (plain_text (codes "http://www.openarchives.org/OAI/2.0/oai_dc/") refl))
    (both (fine_attribute (codes "xmlns:dc") (codes "http://purl.org/dc/elements/1.1/") refl (plain_text (codes "http://purl.org/dc/elements/1.1/") refl))
    (both (fine_attribute (codes "xmlns:xsi") (codes "http://www.w3.org/2001/XMLSchema-instance") refl (plain_text (codes "http://www.w3.org/2001/XMLSchema-instance") refl))
    (both
    (fine_attribute (codes "xsi:schemaLocation") (codes "http://www.openarchives.org/OAI/2.0/oai_dc/ http://www.openarchives.org/OAI/2.0/oai_dc.xsd") refl
    (plain_text (codes "http://www.openarchives.org/OAI/2.0/oai_dc/ http://www.openarchives.org/OAI/2.0/oai_dc.xsd") refl)) refl)))

dublin_core_fine : (fields : List Field) → list_all is_good_field fields ≡ true → IsFine (dublin_core_tree fields)
unfolding dublin_core_tree
dublin_core_fine fields all =
    parent_legal (codes "oai_dc:dc") dublin_core_attributes (map (field_tree (codes "dc:")) fields) (both (plain_text (codes "oai_dc:dc") refl) dublin_core_legal)
    (each_fine (field_tree (codes "dc:")) is_good_field (λ field is. field_fine (codes "dc:") field refl is) fields all)

declared_legal : (format : Format) → is_legal_format format ≡ true → list_all is_legal_attribute (declared_attributes format) ≡ true
unfolding declared_attributes instance_namespace
declared_legal format is =
    let three = and_parts (is_legal_text format.prefix && is_legal_text format.schema) (is_legal_text format.namespace) is in
    let two = and_parts (is_legal_text format.prefix) (is_legal_text format.schema) three.0 in
    both (fine_attribute (codes "xmlns") format.namespace refl three.1)
    (both (fine_attribute (codes "xmlns:xsi") (codes "http://www.w3.org/2001/XMLSchema-instance") refl (plain_text (codes "http://www.w3.org/2001/XMLSchema-instance") refl))
    (both (fine_attribute (codes "xsi:schemaLocation") (format.namespace ++ codes " " ++ format.schema) refl (text_behind (format.namespace ++ codes " ") format.schema (text_behind format.namespace (codes " ") three.1 (plain_text (codes " ") refl)) two.1)) refl))

dublin_core_root : list_all is_plain dublin_core.root ≡ true
unfolding dublin_core
dublin_core_root = refl

root_plain : (format : Format) → IsGoodFormat format → list_all is_plain format.root ≡ true
root_plain format (inl same) = ap (λ (f : Format). list_all is_plain f.root) same ∙ dublin_core_root
root_plain format (inr allowed) = name_plain format.root (rule_name format.root (allowed_names format allowed).0)

declared_fine : (format : Format) (fields : List Field) → IsGoodFormat format → is_legal_format format ≡ true → list_all is_good_field fields ≡ true → IsFine (declared_tree format fields)
unfolding declared_tree
declared_fine format fields good is all =
    parent_legal format.root (declared_attributes format) (map (field_tree []) fields) (both (plain_text format.root (root_plain format good)) (declared_legal format is))
    (each_fine (field_tree []) is_good_field (λ field so. field_fine [] field refl so) fields all)

fields_fine : (format : Format) (fields : List Field) → IsGoodFormat format → is_legal_format format ≡ true → list_all is_good_field fields ≡ true → IsFine (fields_tree format fields)
unfolding fields_tree
fields_fine format fields good is all = by_test (bytes_eq format.prefix (codes "oai_dc"))
  where
    by_test : (b : Bool) → IsFine (cond b (dublin_core_tree fields) (declared_tree format fields))
    by_test true = dublin_core_fine fields all
    by_test false = declared_fine format fields good is all

-- the text of an element is its spelling
element_fine : (fields : Tree) (text : List ℕ) (e : IsElement text) → IsText text → IsFine (tree_or fields (tree_in text))
element_fine fields text e is = ap (λ o. is_fine (tree_or fields o)) (tree_again text e.0 e.1) ∙ ap is_legal_text (sym e.1.bytes_are) ∙ is

-- the fields that are the record itself, and the elements about it
content_and_about : (fields : List Field) → list_all is_legal_field fields ≡ true → (list_all is_legal_field (content_in fields) ≡ true) × (list_all is_legal_text (about_in fields) ≡ true)
content_and_about fields all =
    let parts = and_parts (list_all is_legal_field (content_in fields)) (list_all is_legal_field (behind_content fields))
    (sym (list_all-append is_legal_field (content_in fields) (behind_content fields)) ∙ ap (list_all is_legal_field) (content_and_behind fields) ∙ all) in
    (parts.0, all-map (λ (field : Field). field.text) is_legal_text (behind_content fields) ∙ parts.1)

metadata_fine : (format : Format) (fields : List Field) → IsGoodFormat format → is_legal_format format ≡ true → are_fields_of (Some format) fields ≡ true → list_all is_legal_field (content_in fields) ≡ true
    → IsFine (metadata_tree format fields)
unfolding metadata_tree
metadata_fine format fields good is own all = by_element (element_in fields) refl
  where
    by_element : (o : Option (List ℕ)) → element_in fields ≡ o → IsFine (tree_or (fields_tree format (content_in fields)) (option_and_then tree_in o))
    by_element None none =
        let named = fields_named format (content_in fields) good (listed_among format (content_in fields) (listed_own format fields none own)) in
        fields_fine format (content_in fields) good is (all_and is_named_field is_legal_field (content_in fields) named all)
    by_element (Some text) found =
        let legal_so : (is_legal_text text && true) ≡ true = ap (list_all is_legal_field) (sym (kept_element (content_in fields) text found)) ∙ all in
        element_fine (fields_tree format (content_in fields)) text (element_tested text (canonical_so format text (kept_so format fields text found own))) (and_parts (is_legal_text text) true legal_so).0

-- ---- containers of elements

container_fine : (name text : List ℕ) → list_all is_plain name ≡ true → (is_canonical text && is_legal_text text) ≡ true → IsFine (container_tree name text)
unfolding container_tree
container_fine name text is fit =
    let parts = and_parts (is_canonical text) (is_legal_text text) fit in
    fine_parent name (element_tree text ∷ []) is (both (element_fine (bare_parent [] []) text (element_tested text parts.0) parts.1) refl)

containers_fine : (name : List ℕ) (texts : List (List ℕ)) → list_all is_plain name ≡ true → list_all is_canonical texts ≡ true → list_all is_legal_text texts ≡ true
    → list_all is_fine (map (container_tree name) texts) ≡ true
containers_fine name texts is regular all =
    each_fine (container_tree name) (λ text. is_canonical text && is_legal_text text) (λ text fit. container_fine name text is fit) texts (all_and is_canonical is_legal_text texts regular all)

-- ---- headers and records

status_legal : (live : Bool) → is_legal_tag (codes "header") (status live) ≡ true
status_legal true = both (plain_text (codes "header") refl) refl
status_legal false = both (plain_text (codes "header") refl) (both (fine_attribute (codes "status") (codes "deleted") refl (plain_text (codes "deleted") refl)) refl)

header_fine : (granularity : Granularity) (item : ItemState) → is_legal_item item ≡ true → IsFine (header_tree granularity item)
unfolding header_tree
header_fine granularity item is =
    let three = and_parts (is_legal_text item.identifier && list_all is_legal_text item.sets) (list_all is_legal_record item.formats) is in
    let two = and_parts (is_legal_text item.identifier) (list_all is_legal_text item.sets) three.0 in
    parent_legal (codes "header") (status item.live) _ (status_legal item.live)
    (both (fine_leaf (codes "identifier") item.identifier refl two.0)
    (both (fine_leaf (codes "datestamp") (datestamp_text granularity item.stamp) refl (datestamp_legal granularity item.stamp))
    (each_fine (bare_leaf (codes "setSpec")) is_legal_text (λ spec so. fine_leaf (codes "setSpec") spec refl so) item.sets two.1)))

-- the fields of the record that is found
found_legal : (prefix : List ℕ) (records : List Metadata) → list_all is_legal_record records ≡ true → list_all is_legal_field (fields_in prefix records) ≡ true
unfolding record_named
found_legal prefix [] all = refl
found_legal prefix (r ∷ records) all =
    let parts = and_parts (is_legal_record r) (list_all is_legal_record records) all in by_test (bytes_eq r.0 prefix) parts.0 (found_legal prefix records parts.1)
  where
    by_test : (b : Bool) → is_legal_record r ≡ true → list_all is_legal_field (fields_of (find (λ (m : Metadata). bytes_eq m.0 prefix) records)) ≡ true
        → list_all is_legal_field (fields_of (cond b (Some r) (find (λ (m : Metadata). bytes_eq m.0 prefix) records))) ≡ true
    by_test true here later = here
    by_test false here later = later

content_fine : (format : Format) (fields : List Field) → IsGoodFormat format → is_legal_format format ≡ true → are_fields_of (Some format) fields ≡ true → list_all is_legal_field fields ≡ true
    → list_all is_fine (content_trees format fields) ≡ true
unfolding content_trees
content_fine format fields good is own all =
    let parts = content_and_about fields all in
    both (fine_parent (codes "metadata") (metadata_tree format fields ∷ []) refl (both (metadata_fine format fields good is own parts.0) refl))
    (containers_fine (codes "about") (about_in fields) refl (about_own format fields own) parts.1)

part_fine : (format : Format) (item : ItemState) → IsGoodFormat format → is_legal_format format ≡ true → has_own_fields format item ≡ true → is_legal_item item ≡ true
    → list_all is_fine (trees_behind_header format item) ≡ true
unfolding trees_behind_header
part_fine format item good is own legal_so = by_test item.live
  where
    fields : List Field
    fields = fields_in format.prefix item.formats

    all : list_all is_legal_field fields ≡ true
    all =
        (found_legal format.prefix item.formats (and_parts (is_legal_text item.identifier && list_all is_legal_text item.sets) (list_all is_legal_record item.formats) legal_so).1)

    by_test : (b : Bool) → list_all is_fine (cond b (content_trees format fields) []) ≡ true
    by_test true = content_fine format fields good is own all
    by_test false = refl

abbrev is_good_item : Format → ItemState → Bool
is_good_item format item = has_own_fields format item && is_legal_item item

record_fine : (granularity : Granularity) (format : Format) (item : ItemState) → IsGoodFormat format → is_legal_format format ≡ true → is_good_item format item ≡ true → IsFine (record_tree granularity format item)
unfolding record_tree
record_fine granularity format item good is so =
    let parts = and_parts (has_own_fields format item) (is_legal_item item) so in
    fine_parent (codes "record") (header_tree granularity item ∷ trees_behind_header format item) refl (both (header_fine granularity item parts.1) (part_fine format item good is parts.0 parts.1))

-- ---- lists

-- the token, if there is one
abbrev pub is_legal_token : Continuation → Bool
is_legal_token whole = true
is_legal_token (remains expires part token) = is_legal_text token
is_legal_token (completes part) = true

extent_legal : (e : Extent) → list_all is_legal_attribute (extent e) ≡ true
unfolding extent
extent_legal e =
    both (fine_attribute (codes "completeListSize") (decimal e.size) refl (decimal_legal e.size)) (both (fine_attribute (codes "cursor") (decimal e.cursor) refl (decimal_legal e.cursor)) refl)

token_fine : (c : Continuation) → is_legal_token c ≡ true → list_all is_fine (token_trees c) ≡ true
unfolding token_trees
token_fine whole is = refl
token_fine (remains expires part token) is =
    both (leaf_legal (codes "resumptionToken") (element_attribute (codes "expirationDate") (second_text expires) ∷ extent part) token
    (both (plain_text (codes "resumptionToken") refl) (both (fine_attribute (codes "expirationDate") (second_text expires) refl (second_legal expires)) (extent_legal part))) is) refl
token_fine (completes part) is = both (leaf_legal (codes "resumptionToken") (extent part) [] (both (plain_text (codes "resumptionToken") refl) (extent_legal part)) no_text) refl

headers_fine : (page : Page) → list_all is_legal_item page.items ≡ true → is_legal_token page.continuation ≡ true → IsFine (headers_tree page)
unfolding headers_tree
headers_fine page all token =
    fine_parent (codes "ListIdentifiers") _ refl
    (and_more (map (header_tree page.granularity) page.items) (token_trees page.continuation)
    (each_fine (header_tree page.granularity) is_legal_item (header_fine page.granularity) page.items all) (token_fine page.continuation token))

records_fine : (format : Format) (page : Page) → IsGoodFormat format → is_legal_format format ≡ true → list_all (has_own_fields format) page.items ≡ true → list_all is_legal_item page.items ≡ true
    → is_legal_token page.continuation ≡ true → IsFine (records_tree format page)
unfolding records_tree
records_fine format page good is own all token =
    fine_parent (codes "ListRecords") _ refl
    (and_more (map (record_tree page.granularity format) page.items) (token_trees page.continuation)
    (each_fine (record_tree page.granularity format) (is_good_item format) (λ item so. record_fine page.granularity format item good is so) page.items (all_and (has_own_fields format) is_legal_item page.items own all))
    (token_fine page.continuation token))

-- ---- Identify, with the elements that describe the repository

identify_fine : (base : List ℕ) (d : Description) → IsText base → IsText d.name → list_all is_legal_text d.addresses ≡ true → list_all is_canonical d.descriptions ≡ true
    → list_all is_legal_text d.descriptions ≡ true → IsFine (identify_tree base d)
unfolding identify_tree
identify_fine base d url name all regular its =
    let addresses = each_fine (bare_leaf (codes "adminEmail")) is_legal_text (λ a is. fine_leaf (codes "adminEmail") a refl is) d.addresses all in
    let last = both (fine_leaf (codes "earliestDatestamp") (datestamp_text d.granularity d.earliest) refl (datestamp_legal d.granularity d.earliest))
    (both (fine_leaf (codes "deletedRecord") (deleted_text d.deleted) refl (deleted_legal d.deleted))
    (both (fine_leaf (codes "granularity") (granularity_text d.granularity) refl (granularity_legal d.granularity)) (containers_fine (codes "description") d.descriptions refl regular its))) in
    fine_parent (codes "Identify") _ refl
    (both (fine_leaf (codes "repositoryName") d.name refl name)
    (both (fine_leaf (codes "baseURL") base refl url)
    (both (fine_leaf (codes "protocolVersion") (codes "2.0") refl (plain_text (codes "2.0") refl)) (and_more (map (bare_leaf (codes "adminEmail")) d.addresses) _ addresses last))))

-- ---- sets, with the elements that describe them

abbrev pub is_legal_described : DescribedSet → Bool
is_legal_described set = is_legal_text set.spec && is_legal_text set.name && list_all is_legal_text set.descriptions

set_fine : (set : DescribedSet) → (has_elements set && is_legal_described set) ≡ true → IsFine (set_tree set)
unfolding set_tree
set_fine set fit =
    let both_parts = and_parts (has_elements set) (is_legal_described set) fit in
    let three = and_parts (is_legal_text set.spec && is_legal_text set.name) (list_all is_legal_text set.descriptions) both_parts.1 in
    let two = and_parts (is_legal_text set.spec) (is_legal_text set.name) three.0 in
    fine_parent (codes "set") _ refl
    (both (fine_leaf (codes "setSpec") set.spec refl two.0)
    (both (fine_leaf (codes "setName") set.name refl two.1) (containers_fine (codes "setDescription") set.descriptions refl both_parts.0 three.1)))

sets_fine : (sets : List DescribedSet) → list_all has_elements sets ≡ true → list_all is_legal_described sets ≡ true → IsFine (sets_tree sets)
unfolding sets_tree
sets_fine sets regular all =
    fine_parent (codes "ListSets") _ refl (each_fine set_tree (λ set. has_elements set && is_legal_described set) set_fine sets (all_and has_elements is_legal_described sets regular all))

-- ---- documents

-- the texts of an answer are legal
abbrev pub IsLegalAnswer : VerbAnswer → Type 0
IsLegalAnswer (fails code) = Unit {0}
IsLegalAnswer (identifies d) = (is_legal_text d.name ≡ true) × (list_all is_legal_text d.addresses ≡ true) × (list_all is_legal_text d.descriptions ≡ true)
IsLegalAnswer (lists_formats formats) = list_all is_legal_format formats ≡ true
IsLegalAnswer (lists_sets sets) = list_all is_legal_described sets ≡ true
IsLegalAnswer (gives_record d) = (is_legal_format d.format ≡ true) × (is_legal_item d.item ≡ true)
IsLegalAnswer (lists_headers page) = (list_all is_legal_item page.items ≡ true) × (is_legal_token page.continuation ≡ true)
IsLegalAnswer (lists_records format page) = (is_legal_format format ≡ true) × (list_all is_legal_item page.items ≡ true) × (is_legal_token page.continuation ≡ true)

answer_fine : (base : List ℕ) (answer : VerbAnswer) → IsText base → IsRegular answer → IsLegalAnswer answer → IsFine (answer_tree base answer)
unfolding answer_tree
answer_fine base (fails code) url regular so = error_fine code
answer_fine base (identifies d) url regular so = identify_fine base d url so.0 so.1 regular so.2
answer_fine base (lists_formats formats) url regular so = formats_fine formats so
answer_fine base (lists_sets sets) url regular so = sets_fine sets regular so
answer_fine base (gives_record d) url regular so =
    fine_parent (codes "GetRecord") (record_tree d.granularity d.format d.item ∷ []) refl (both (record_fine d.granularity d.format d.item regular.0 so.0 (both regular.1 so.1)) refl)
answer_fine base (lists_headers page) url regular so = headers_fine page so.0 so.1
answer_fine base (lists_records format page) url regular so = records_fine format page regular.0 so.0 regular.1 so.1 so.2

root_legal : is_legal_tag (codes "OAI-PMH") root_attributes ≡ true
unfolding root_attributes instance_namespace
root_legal =
    both (plain_text (codes "OAI-PMH") refl)
    (both (fine_attribute (codes "xmlns") (codes "http://www.openarchives.org/OAI/2.0/") refl (plain_text (codes "http://www.openarchives.org/OAI/2.0/") refl))
    (both (fine_attribute (codes "xmlns:xsi") (codes "http://www.w3.org/2001/XMLSchema-instance") refl (plain_text (codes "http://www.w3.org/2001/XMLSchema-instance") refl))
    (both
    (fine_attribute (codes "xsi:schemaLocation") (codes "http://www.openarchives.org/OAI/2.0/ http://www.openarchives.org/OAI/2.0/OAI-PMH.xsd") refl
    (plain_text (codes "http://www.openarchives.org/OAI/2.0/ http://www.openarchives.org/OAI/2.0/OAI-PMH.xsd") refl)) refl)))

pub document_legal : (d : Document) → IsText d.base → have_legal_arguments d.asked ≡ true → IsRegular d.answer → IsLegalAnswer d.answer → is_legal_text (spelled (document_tree d)) ≡ true
unfolding document_tree
document_legal d url asked regular so =
    parent_legal (codes "OAI-PMH") root_attributes (bare_leaf (codes "responseDate") (second_text d.date) ∷ request_tree d ∷ answer_tree d.base d.answer ∷ []) root_legal
    (both (fine_leaf (codes "responseDate") (second_text d.date) refl (second_legal d.date)) (both (request_fine d url asked) (both (answer_fine d.base d.answer url regular so) refl)))
