-- What the laws of documents ask of an answer, besides the rules of formats.
use Rattle.std.specs.Prelude.{◌≡◌, ℕ, suc, Bool, true, ◌||◌, ◌&&◌, ◌+◌, not, nat_le, if◌then◌else◌, List, [], ◌∷◌, length, option_and_then}
use Rattle.std.specs.List.{list_all}
use Rattle.std.specs.Option.{option_map_or}
use Rattle.std.specs.Str.{bytes_eq}
use Rattle.oai_item.specs.Elements.{about_in, element_in}
use Rattle.oai_item.specs.Item.{ItemState, fields_in}
use Rattle.oai_item.specs.declared.fields.Field.{Field}
use Rattle.oai_item.specs.declared.formats.Format.{Format}
use Rattle.oai_answers.specs.Answers.{DescribedSet, VerbAnswer, fails, gives_record, identifies, lists_formats, lists_headers, lists_records, lists_sets}
use Rattle.oai_answers.specs.MetadataTrees.{element_tree}
use Rattle.oai_xml.specs.Documents.{tree_in}
use Rattle.oai_xml.specs.Roots.{root_of}
use Rattle.oai_xml.specs.Namespaces.{declared, xml_namespace, xmlns_namespace}
use Rattle.oai_xml.specs.Trees.{Content, Tree, nothing, byte, element}
use Rattle.oai_documents.specs.Schema.{oai_namespace}

-- ---- namespaces

-- the namespace may be declared as the default one: it is none of those that `xml` and `xmlns` are bound to (Namespaces
-- in XML 1.0, section 3)
abbrev pub may_be_default : List ℕ → Bool
may_be_default namespace = not (bytes_eq namespace xml_namespace || bytes_eq namespace xmlns_namespace)

-- there is a namespace, and it is not that of OAI-PMH: what `##other` stands for in its schema (XML Schema 1.0, part 1, section 3.10.1)
abbrev pub is_foreign : List ℕ → Bool
is_foreign namespace = not (bytes_eq namespace oai_namespace || bytes_eq namespace [])

-- the namespace of an element's root passes the test
abbrev pub has_root_in : (List ℕ → Bool) → List ℕ → Bool
has_root_in passes text = passes (root_of (element_tree text)).namespace

-- the format of the records in an answer has a namespace that passes the test, and so has the root of each element that describes a
-- repository or a set
abbrev pub HasNamespace : (List ℕ → Bool) → VerbAnswer → Type 0
HasNamespace passes (fails code) = Unit {0}
HasNamespace passes (identifies d) = list_all (has_root_in passes) d.descriptions ≡ true
HasNamespace passes (lists_formats formats) = Unit {0}
HasNamespace passes (lists_sets sets) = list_all (λ (set : DescribedSet). list_all (has_root_in passes) set.descriptions) sets ≡ true
HasNamespace passes (gives_record d) = passes d.format.namespace ≡ true
HasNamespace passes (lists_headers page) = Unit {0}
HasNamespace passes (lists_records format page) = passes format.namespace ≡ true

-- what is about records was deposited with them: the root of each element about the item's record in the format has a namespace that passes the test
abbrev pub has_about_in : (List ℕ → Bool) → Format → ItemState → Bool
has_about_in passes format item = list_all (has_root_in passes) (about_in (fields_in format.prefix item.formats))

-- for each record in an answer
abbrev pub HasAboutIn : (List ℕ → Bool) → VerbAnswer → Type 0
HasAboutIn passes (fails code) = Unit {0}
HasAboutIn passes (identifies d) = Unit {0}
HasAboutIn passes (lists_formats formats) = Unit {0}
HasAboutIn passes (lists_sets sets) = Unit {0}
HasAboutIn passes (gives_record d) = has_about_in passes d.format d.item ≡ true
HasAboutIn passes (lists_headers page) = Unit {0}
HasAboutIn passes (lists_records format page) = list_all (has_about_in passes format) page.items ≡ true

-- ---- elements that are records

abbrev pub larger : ℕ → ℕ → ℕ
larger a b = if nat_le a b then b else a

-- how many elements stand within one another in contents
unfoldable pub levels_of : Content → ℕ
levels_of nothing = 0
levels_of (byte b rest) = levels_of rest
levels_of (element name attributes inside rest) = larger (suc (levels_of inside)) (levels_of rest)

-- and how many declarations of namespaces come into force in them
unfoldable pub declarations_of : Content → ℕ
declarations_of nothing = 0
declarations_of (byte b rest) = declarations_of rest
declarations_of (element name attributes inside rest) = larger (length (declared attributes) + declarations_of inside) (declarations_of rest)

-- in a document the element stands within four others and two declarations: with those there are at most 128 of each, as many as `tree_in` reads
-- (limits of this repository's own: XML sets none)
abbrev pub fits_in_document : Tree → Bool
fits_in_document t = nat_le (levels_of t.content) 123 && nat_le (length (declared t.attributes) + declarations_of t.content) 126

-- an element in a container; around one that describes a repository stands one element less
abbrev pub is_fitting : List ℕ → Bool
is_fitting text = option_map_or fits_in_document (tree_in text) true

-- the element that is a record, and those about it
abbrev pub has_fitting_content : List Field → Bool
has_fitting_content fields = option_map_or fits_in_document (option_and_then tree_in (element_in fields)) true && list_all is_fitting (about_in fields)

abbrev pub has_fitting_elements : Format → ItemState → Bool
has_fitting_elements format item = has_fitting_content (fields_in format.prefix item.formats)

-- for each element that the answer shows as a record, about one, or as a description
abbrev pub HasFittingElements : VerbAnswer → Type 0
HasFittingElements (fails code) = Unit {0}
HasFittingElements (identifies d) = list_all is_fitting d.descriptions ≡ true
HasFittingElements (lists_formats formats) = Unit {0}
HasFittingElements (lists_sets sets) = list_all (λ (set : DescribedSet). list_all is_fitting set.descriptions) sets ≡ true
HasFittingElements (gives_record d) = has_fitting_elements d.format d.item ≡ true
HasFittingElements (lists_headers page) = Unit {0}
HasFittingElements (lists_records format page) = list_all (has_fitting_elements format) page.items ≡ true

-- ---- lists

-- the list has something in it
abbrev pub HasMembers : {A : Type 0} → List A → Type 0
HasMembers [] = ⊥
HasMembers (x ∷ xs) = Unit {0}

-- each list of the answer has: where it would not, the protocol has an error in its place (OAI-PMH 2.0, section 3.6)
abbrev pub IsFilled : VerbAnswer → Type 0
IsFilled (fails code) = Unit {0}
IsFilled (identifies d) = HasMembers d.addresses
IsFilled (lists_formats formats) = HasMembers formats
IsFilled (lists_sets sets) = HasMembers sets
IsFilled (gives_record d) = Unit {0}
IsFilled (lists_headers page) = HasMembers page.items
IsFilled (lists_records format page) = HasMembers page.items
