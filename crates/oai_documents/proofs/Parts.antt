-- The request, errors, Identify, formats and sets are the spellings of their trees.
use Rattle.std.proofs.Common.{◌≡◌, ◌∙◌, ℕ, List, [], ◌∷◌, ◌++◌, map, codes, Option, None, Some, refl, sym, ap, true, append-nil, append_assoc}
use Rattle.std.specs.List.{flat_map, list_all}
use Rattle.std.proofs.lemmas.Bool.{and_parts}
use Rattle.oai_time.specs.TimeTexts.{datestamp_text}
use Rattle.oai_item.specs.declared.formats.Format.{Format}
use Rattle.oai_xml.specs.Documents.{is_canonical}
use Rattle.oai_xml.specs.Trees.{Attribute, Tree, spelled, spelled_attribute}
use Rattle.oai_xml.proofs.CanonicalLemmas.{element_tested, tree_again}
use Rattle.oai_answers.specs.Answers.{Attributes, DescribedSet, Description, Document, arguments_told}
use Rattle.oai_answers.specs.Documents.{attributes, code_of, deleted_text, error_element, format_element, formats_element, given_attribute, granularity_text, identify_element, message_of, request_element, set_element, sets_element}
use Rattle.oai_answers.specs.Seen.{has_elements}
use Rattle.oai_answers.specs.Markup.{container, end_tag, plain, spelled_attribute as marked_attribute, text_element}
use Rattle.oai_answers.specs.declared.errors.ErrorCode.{ErrorCode}
use Rattle.oai_answers.specs.ElementParts.{bare_leaf, bare_parent, element_attribute}
use Rattle.oai_answers.specs.MetadataTrees.{element_tree, tree_or}
use Rattle.oai_documents.specs.DocumentTrees.{argument_attribute, arguments, container_tree, error_tree, format_tree, formats_tree, identify_tree, request_tree, set_tree, sets_tree}
use Rattle.oai_documents.proofs.Unescaped.{code_same, datestamp_free, deleted_same, free_text, granularity_same, message_same, version_same}
use Rattle.oai_answers.proofs.Written.{attribute_as, attribute_written, bare_leaf_written, bare_parent_written, each_written, leaf_written, one_attribute, only, plain_leaf_written, start_written, then_attributes, then_more, then_one}

-- ---- the request

given_written : (name : List ℕ) (value : Option (List ℕ)) → given_attribute name value ≡ flat_map spelled_attribute (argument_attribute name value)
given_written name None = refl
given_written name (Some value) = one_attribute _ (element_attribute name value) (attribute_written name value)

-- seven lists, one behind the other, from the left or from the right
seven : {A : Type 0} (a b c d e f g : List A) → a ++ b ++ c ++ d ++ e ++ f ++ g ≡ a ++ (b ++ (c ++ (d ++ (e ++ (f ++ g)))))
seven a b c d e f g = simp append_assoc refl

arguments_written : (asked : Attributes) → attributes asked ≡ flat_map spelled_attribute (arguments asked)
unfolding attributes arguments
arguments_written asked =
    let verb = given_written (codes "verb") asked.verb in
    let identifier = given_written (codes "identifier") asked.identifier in
    let prefix = given_written (codes "metadataPrefix") asked.prefix in
    let from = given_written (codes "from") asked.from in
    let until = given_written (codes "until") asked.until in
    let set = given_written (codes "set") asked.set in
    let token = given_written (codes "resumptionToken") asked.token in
    seven (given_attribute (codes "verb") asked.verb) (given_attribute (codes "identifier") asked.identifier) (given_attribute (codes "metadataPrefix") asked.prefix)
    (given_attribute (codes "from") asked.from) (given_attribute (codes "until") asked.until) (given_attribute (codes "set") asked.set) (given_attribute (codes "resumptionToken") asked.token)
    ∙ then_attributes _ _ _ _ verb (then_attributes _ _ _ _ identifier (then_attributes _ _ _ _ prefix (then_attributes _ _ _ _ from
    (then_attributes _ _ _ _ until (then_attributes _ _ _ _ set token)))))

pub request_written : (d : Document) → request_element d ≡ spelled (request_tree d)
unfolding request_element request_tree plain
request_written d =
    let asked : Attributes = arguments_told d.answer d.asked in
    leaf_written _ d.base (codes "request") (arguments asked) (start_written (codes "request") (attributes asked) (arguments asked) (arguments_written asked))

-- ---- errors

pub error_written : (code : ErrorCode) → error_element code ≡ spelled (error_tree code)
unfolding error_element error_tree plain
error_written code =
    let it : Attribute = element_attribute (codes "code") (code_of code) in
    let code_is = one_attribute (marked_attribute (codes "code") (code_of code)) it (attribute_as (codes "code") (code_of code) (code_of code) (sym (code_same code))) in
    let start : List ℕ = codes "<error" ++ marked_attribute (codes "code") (code_of code) ++ codes ">" in
    ap (λ (w : List ℕ). start ++ w ++ end_tag (codes "error")) (sym (message_same code))
    ∙ leaf_written start (message_of code) (codes "error") (it ∷ []) (start_written (codes "error") (marked_attribute (codes "code") (code_of code)) (it ∷ []) code_is)

-- ---- Identify

-- an element in a container is the spelling of its tree
container_written : (name text : List ℕ) → is_canonical text ≡ true → container name text ≡ spelled (container_tree name text)
unfolding container container_tree plain
container_written name text is =
    let e = element_tested text is in
    bare_parent_written name text (element_tree text ∷ [])
    (e.1.bytes_are ∙ ap (λ o. spelled (tree_or (bare_parent [] []) o)) (sym (tree_again text e.0 e.1)) ∙ sym (append-nil (spelled (element_tree text))))

pub containers_written : (name : List ℕ) (texts : List (List ℕ)) → list_all is_canonical texts ≡ true
    → flat_map (container name) texts ≡ flat_map spelled (map (container_tree name) texts)
containers_written name [] all = refl
containers_written name (text ∷ texts) all =
    let parts = and_parts (is_canonical text) (list_all is_canonical texts) all in
    ap (λ (w : List ℕ). w ++ flat_map (container name) texts) (container_written name text parts.0)
    ∙ ap (λ (w : List ℕ). spelled (container_tree name text) ++ w) (containers_written name texts parts.1)

four_more : (front : List Tree) (a b c : Tree) (others : List Tree) → front ++ a ∷ [] ++ b ∷ [] ++ c ∷ [] ++ others ≡ front ++ a ∷ b ∷ c ∷ others
four_more front a b c others = simp append_assoc refl

pub identify_written : (base : List ℕ) (d : Description) → list_all is_canonical d.descriptions ≡ true → identify_element base d ≡ spelled (identify_tree base d)
unfolding identify_element identify_tree plain
identify_written base d all =
    let name : Tree = bare_leaf (codes "repositoryName") d.name in
    let url : Tree = bare_leaf (codes "baseURL") base in
    let version : Tree = bare_leaf (codes "protocolVersion") (codes "2.0") in
    let addresses : List Tree = map (bare_leaf (codes "adminEmail")) d.addresses in
    let earliest : Tree = bare_leaf (codes "earliestDatestamp") (datestamp_text d.granularity d.earliest) in
    let deleted : Tree = bare_leaf (codes "deletedRecord") (deleted_text d.deleted) in
    let granularity : Tree = bare_leaf (codes "granularity") (granularity_text d.granularity) in
    let one = only _ name (bare_leaf_written (codes "repositoryName") d.name) in
    let two = then_one _ _ (name ∷ []) url one (bare_leaf_written (codes "baseURL") base) in
    let three = then_one _ _ (name ∷ url ∷ []) version two (plain_leaf_written (codes "protocolVersion") (codes "2.0") version_same) in
    let four = then_more _ _ (name ∷ url ∷ version ∷ []) addresses three (each_written (text_element (codes "adminEmail")) (bare_leaf (codes "adminEmail")) (bare_leaf_written (codes "adminEmail")) d.addresses) in
    let five = then_one _ _ (name ∷ url ∷ version ∷ addresses) earliest four
    (plain_leaf_written (codes "earliestDatestamp") (datestamp_text d.granularity d.earliest) (free_text _ (datestamp_free d.granularity d.earliest))) in
    let six = then_one _ _ (name ∷ url ∷ version ∷ (addresses ++ earliest ∷ [])) deleted five (plain_leaf_written (codes "deletedRecord") (deleted_text d.deleted) (deleted_same d.deleted)) in
    let seven = then_one _ _ (name ∷ url ∷ version ∷ (addresses ++ earliest ∷ [] ++ deleted ∷ [])) granularity six
    (plain_leaf_written (codes "granularity") (granularity_text d.granularity) (granularity_same d.granularity)) in
    let descriptions : List Tree = map (container_tree (codes "description")) d.descriptions in
    let eight = then_more _ _ (name ∷ url ∷ version ∷ (addresses ++ earliest ∷ [] ++ deleted ∷ [] ++ granularity ∷ [])) descriptions seven (containers_written (codes "description") d.descriptions all) in
    bare_parent_written (codes "Identify") _ (name ∷ url ∷ version ∷ (addresses ++ earliest ∷ deleted ∷ granularity ∷ descriptions))
    (eight ∙ ap (λ (w : List Tree). flat_map spelled (name ∷ url ∷ version ∷ w)) (four_more addresses earliest deleted granularity descriptions))

-- ---- formats

format_written : (format : Format) → format_element format ≡ spelled (format_tree format)
unfolding format_element format_tree
format_written format =
    let prefix : Tree = bare_leaf (codes "metadataPrefix") format.prefix in
    let schema : Tree = bare_leaf (codes "schema") format.schema in
    let namespace : Tree = bare_leaf (codes "metadataNamespace") format.namespace in
    let one = only _ prefix (bare_leaf_written (codes "metadataPrefix") format.prefix) in
    let two = then_one _ _ (prefix ∷ []) schema one (bare_leaf_written (codes "schema") format.schema) in
    let three = then_one _ _ (prefix ∷ schema ∷ []) namespace two (bare_leaf_written (codes "metadataNamespace") format.namespace) in
    bare_parent_written (codes "metadataFormat") _ (prefix ∷ schema ∷ namespace ∷ []) three

pub formats_written : (formats : List Format) → formats_element formats ≡ spelled (formats_tree formats)
unfolding formats_element formats_tree
formats_written formats =
    bare_parent_written (codes "ListMetadataFormats") _ (map format_tree formats) (each_written format_element format_tree format_written formats)

-- ---- sets

set_written : (set : DescribedSet) → has_elements set ≡ true → set_element set ≡ spelled (set_tree set)
unfolding set_element set_tree
set_written set all =
    let spec : Tree = bare_leaf (codes "setSpec") set.spec in
    let name : Tree = bare_leaf (codes "setName") set.name in
    let descriptions : List Tree = map (container_tree (codes "setDescription")) set.descriptions in
    let one = only _ spec (bare_leaf_written (codes "setSpec") set.spec) in
    let two = then_one _ _ (spec ∷ []) name one (bare_leaf_written (codes "setName") set.name) in
    bare_parent_written (codes "set") _ (spec ∷ name ∷ descriptions)
    (then_more _ _ (spec ∷ name ∷ []) descriptions two (containers_written (codes "setDescription") set.descriptions all))

each_set_written : (sets : List DescribedSet) → list_all has_elements sets ≡ true → flat_map set_element sets ≡ flat_map spelled (map set_tree sets)
each_set_written [] all = refl
each_set_written (set ∷ sets) all =
    let parts = and_parts (has_elements set) (list_all has_elements sets) all in
    ap (λ (w : List ℕ). w ++ flat_map set_element sets) (set_written set parts.0) ∙ ap (λ (w : List ℕ). spelled (set_tree set) ++ w) (each_set_written sets parts.1)

pub sets_written : (sets : List DescribedSet) → list_all has_elements sets ≡ true → sets_element sets ≡ spelled (sets_tree sets)
unfolding sets_element sets_tree
sets_written sets all = bare_parent_written (codes "ListSets") _ (map set_tree sets) (each_set_written sets all)
