-- The start tags that declare namespaces: of the root, of Dublin Core, and of a declared format.
use Rattle.std.proofs.Common.{◌≡◌, ◌∙◌, ℕ, Bool, true, false, ◌&&◌, ◌||◌, not, List, [], ◌∷◌, ◌++◌, codes, refl, sym, ap, subst}
use Rattle.std.specs.List.{list_all}
use Rattle.std.specs.Option.{is_some}
use Rattle.std.specs.Str.{bytes_eq}
use Rattle.std.proofs.lemmas.Bool.{or_right}
use Rattle.oai_item.specs.declared.formats.Format.{Format}
use Rattle.oai_xml.specs.Ascii.{is_ascii_ncname}
use Rattle.oai_xml.specs.QNames.{is_prefixed, is_qname, local_of, prefix_of}
use Rattle.oai_xml.specs.Namespaces.{Scope, are_alike, are_unlike, declared, is_bound, is_declaring, is_legal, may_bind, namespace_of, xml_namespace, xmlns_namespace}
use Rattle.oai_xml.specs.Whole.{are_names_whole, is_tag_whole, names_of, within}
use Rattle.oai_documents.specs.DocumentTrees.{root_attributes}
use Rattle.oai_answers.specs.MetadataTrees.{declared_attributes, dublin_core_attributes, instance_namespace}
use Rattle.oai_documents.proofs.Names.{no_prefix, plain_qname, prefix_is, prefixed_qname}
use Rattle.oai_documents.proofs.Tags.{IsReady, both, own_bound}

-- the namespace is one of those that `xml` and `xmlns` are bound to
abbrev pub is_reserved : List ℕ → Bool
is_reserved namespace = bytes_eq namespace xml_namespace || bytes_eq namespace xmlns_namespace

-- ---- the names that stand in these tags

default_name : is_qname (codes "xmlns") ≡ true
default_name = plain_qname (codes "xmlns") refl

instance_name : is_qname (codes "xmlns:xsi") ≡ true
instance_name = prefixed_qname (codes "xmlns") (codes "xsi") refl refl

location_name : is_qname (codes "xsi:schemaLocation") ≡ true
location_name = prefixed_qname (codes "xsi") (codes "schemaLocation") refl refl

-- ---- the root

abbrev pub instance_scope : List ℕ → Scope
instance_scope namespace = record { prefix = []; namespace = namespace } ∷ record { prefix = codes "xsi"; namespace = instance_namespace } ∷ []

-- what is in force in the root
abbrev pub oai_scope : Scope
oai_scope = instance_scope (codes "http://www.openarchives.org/OAI/2.0/")

pub root_scope : within [] root_attributes ≡ oai_scope
unfolding root_attributes declared is_declaring prefix_of local_of
root_scope = refl

root_names : are_names_whole (within [] root_attributes) (declared root_attributes) (codes "OAI-PMH") (names_of root_attributes) ≡ true
unfolding are_names_whole root_attributes instance_namespace declared is_declaring prefix_of local_of may_bind xml_namespace xmlns_namespace namespace_of is_bound are_alike are_unlike
root_names = refl

root_qnames : list_all is_qname (names_of root_attributes) ≡ true
unfolding root_attributes
root_qnames = both default_name (both instance_name (both location_name refl))

pub root_tag : is_tag_whole [] (codes "OAI-PMH") root_attributes ≡ true
unfolding is_tag_whole
root_tag = both (both (plain_qname (codes "OAI-PMH") refl) root_qnames) root_names

pub oai_ready : IsReady oai_scope
unfolding namespace_of instance_namespace
oai_ready = record { default = refl; few = refl }

-- ---- Dublin Core

-- what is in force in its root
abbrev pub dublin_core_scope : Scope
dublin_core_scope = within oai_scope dublin_core_attributes

dublin_core_names : are_names_whole dublin_core_scope (declared dublin_core_attributes) (codes "oai_dc:dc") (names_of dublin_core_attributes) ≡ true
unfolding are_names_whole dublin_core_attributes instance_namespace declared is_declaring prefix_of local_of may_bind xml_namespace xmlns_namespace namespace_of is_bound are_alike are_unlike
dublin_core_names = refl

dublin_core_qnames : list_all is_qname (names_of dublin_core_attributes) ≡ true
unfolding dublin_core_attributes
dublin_core_qnames =
    both (prefixed_qname (codes "xmlns") (codes "oai_dc") refl refl) (both (prefixed_qname (codes "xmlns") (codes "dc") refl refl) (both instance_name (both location_name refl)))

pub dublin_core_tag : is_tag_whole oai_scope (codes "oai_dc:dc") dublin_core_attributes ≡ true
unfolding is_tag_whole
dublin_core_tag = both (both (prefixed_qname (codes "oai_dc") (codes "dc") refl refl) dublin_core_qnames) dublin_core_names

-- a field of it
dc_bound : (name : List ℕ) → prefix_of name ≡ codes "dc" → is_bound dublin_core_scope name ≡ true
unfolding is_bound dublin_core_attributes instance_namespace declared is_declaring prefix_of local_of namespace_of xml_namespace xmlns_namespace
dc_bound name is = or_right (not (is_prefixed name)) _ (ap (λ w. is_some (namespace_of dublin_core_scope w)) is)

field_names : (name : List ℕ) → prefix_of name ≡ codes "dc" → are_names_whole dublin_core_scope [] name [] ≡ true
unfolding are_names_whole dublin_core_attributes instance_namespace declared is_declaring prefix_of local_of namespace_of xml_namespace xmlns_namespace are_unlike
field_names name is =
    let apart : not (bytes_eq (prefix_of name) (codes "xmlns")) ≡ true = ap (λ w. not (bytes_eq w (codes "xmlns"))) is in
    both refl (both (both (both (both refl apart) (dc_bound name is)) refl) refl)

same_dublin_core : within dublin_core_scope [] ≡ dublin_core_scope
unfolding dublin_core_attributes declared is_declaring prefix_of
same_dublin_core = refl

pub field_tag : (name : List ℕ) → is_ascii_ncname name ≡ true → is_tag_whole dublin_core_scope (codes "dc:" ++ name) [] ≡ true
unfolding is_tag_whole declared
field_tag name is =
    let names = ap (λ w. are_names_whole w [] (codes "dc:" ++ name) []) same_dublin_core ∙ field_names (codes "dc:" ++ name) (prefix_is (codes "dc") name refl) in
    both (both (prefixed_qname (codes "dc") name refl is) refl) names

-- ---- a declared format

-- what is in force in its root
abbrev pub declared_scope : Format → Scope
declared_scope format = within oai_scope (declared_attributes format)

declared_is : (format : Format) → declared (declared_attributes format) ≡ instance_scope format.namespace
unfolding declared_attributes declared is_declaring prefix_of local_of
declared_is format = refl

legal_tests : (x y : Bool) → (x || y) ≡ false → (not x && not y && true) ≡ true
legal_tests true y none = cc
legal_tests false true none = cc
legal_tests false false none = refl

all_legal : (namespace : List ℕ) → is_reserved namespace ≡ false → list_all is_legal (instance_scope namespace) ≡ true
unfolding may_bind xml_namespace xmlns_namespace instance_namespace
all_legal namespace none = both (legal_tests (bytes_eq namespace xml_namespace) (bytes_eq namespace xmlns_namespace) none) refl

declared_rest : (namespace : List ℕ) → list_all (is_bound (oai_scope ++ instance_scope namespace)) (codes "xmlns" ∷ codes "xmlns:xsi" ∷ codes "xsi:schemaLocation" ∷ []) ≡ true
unfolding instance_namespace is_bound prefix_of namespace_of xml_namespace xmlns_namespace
declared_rest namespace = refl

declared_unlike : (namespace : List ℕ) → are_unlike (oai_scope ++ instance_scope namespace) (codes "xmlns" ∷ codes "xmlns:xsi" ∷ codes "xsi:schemaLocation" ∷ []) ≡ true
unfolding instance_namespace are_unlike are_alike prefix_of local_of namespace_of xml_namespace xmlns_namespace
declared_unlike namespace = refl

scope_ready : (namespace : List ℕ) → IsReady (oai_scope ++ instance_scope namespace)
unfolding namespace_of instance_namespace
scope_ready namespace = record { default = refl; few = refl }

declared_names : (root namespace : List ℕ) → is_ascii_ncname root ≡ true → is_reserved namespace ≡ false
    → are_names_whole (oai_scope ++ instance_scope namespace) (instance_scope namespace) root (codes "xmlns" ∷ codes "xmlns:xsi" ∷ codes "xsi:schemaLocation" ∷ []) ≡ true
unfolding are_names_whole
declared_names root namespace named none =
    let scope : Scope = oai_scope ++ instance_scope namespace in
    let apart : not (bytes_eq (prefix_of root) (codes "xmlns")) ≡ true = ap (λ w. not (bytes_eq w (codes "xmlns"))) (no_prefix root named) in
    both (scope_ready namespace).default (both (both (both (both (both (both refl (scope_ready namespace).few) (all_legal namespace none)) apart) (own_bound scope root named)) (declared_rest namespace)) (declared_unlike namespace))

declared_qnames : (format : Format) → list_all is_qname (names_of (declared_attributes format)) ≡ true
unfolding declared_attributes
declared_qnames format = both default_name (both instance_name (both location_name refl))

names_are : (format : Format) → names_of (declared_attributes format) ≡ codes "xmlns" ∷ codes "xmlns:xsi" ∷ codes "xsi:schemaLocation" ∷ []
unfolding declared_attributes
names_are format = refl

pub declared_tag : (format : Format) → is_ascii_ncname format.root ≡ true → is_reserved format.namespace ≡ false → is_tag_whole oai_scope format.root (declared_attributes format) ≡ true
unfolding is_tag_whole
declared_tag format named none =
    let names : are_names_whole (declared_scope format) (declared (declared_attributes format)) format.root (names_of (declared_attributes format)) ≡ true
    = ap (λ w. are_names_whole (oai_scope ++ w) w format.root (names_of (declared_attributes format))) (declared_is format)
    ∙ ap (λ w. are_names_whole (oai_scope ++ instance_scope format.namespace) (instance_scope format.namespace) format.root w) (names_are format)
    ∙ declared_names format.root format.namespace named none in
    both (both (plain_qname format.root named) (declared_qnames format)) names

pub declared_ready : (format : Format) → IsReady (declared_scope format)
declared_ready format = subst IsReady (ap (λ (w : Scope). oai_scope ++ w) (sym (declared_is format))) (scope_ready format.namespace)
