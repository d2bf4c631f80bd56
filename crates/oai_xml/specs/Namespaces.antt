-- What the attributes of a start tag declare, and what its names stand for. Namespaces in XML 1.0 (third edition), sections 3 to 6.
use Rattle.std.specs.Prelude.{ℕ, Bool, true, ◌==◌, ◌||◌, ◌&&◌, not, List, [], ◌∷◌, length, codes, map, reverse, find, filter, Option, Some, if◌then◌else◌}
use Rattle.std.specs.List.{list_all}
use Rattle.std.specs.Option.{option_map, is_some, unwrap_or}
use Rattle.std.specs.Str.{bytes_eq}
use Rattle.oai_xml.specs.Trees.{Attribute}
use Rattle.oai_xml.specs.QNames.{is_prefixed, prefix_of, local_of}

-- the namespaces that two prefixes are bound to with no declaration (section 3)
unfoldable pub xml_namespace : List ℕ
xml_namespace = codes "http://www.w3.org/XML/1998/namespace"

unfoldable pub xmlns_namespace : List ℕ
xmlns_namespace = codes "http://www.w3.org/2000/xmlns/"

-- a prefix, and the namespace that it is bound to; the default namespace has the empty prefix
pub record Declaration : Type 0 where
  pub prefix : List ℕ
  pub namespace : List ℕ

-- the declarations in force at a place, the newest last
abbrev pub Scope : Type 0
Scope = List Declaration

-- [NS 1] NSAttName ::= PrefixedAttName | DefaultAttName; [NS 2] PrefixedAttName ::= 'xmlns:' NCName; [NS 3] DefaultAttName ::= 'xmlns'
abbrev pub is_default_name : List ℕ → Bool
is_default_name name = bytes_eq name (codes "xmlns")

unfoldable pub is_declaring : List ℕ → Bool
is_declaring name = is_default_name name || bytes_eq (prefix_of name) (codes "xmlns")

-- the prefix that it declares
abbrev pub declared_prefix : List ℕ → List ℕ
declared_prefix name = if is_default_name name then [] else local_of name

-- what such an attribute declares
abbrev pub declaration_of : Attribute → Declaration
declaration_of a = record { prefix = declared_prefix a.name; namespace = a.value }

-- all that the attributes of a tag declare, in order
unfoldable pub declared : List Attribute → List Declaration
declared attributes = map declaration_of (filter (λ a. is_declaring a.name) attributes)

-- `xml` is bound to its own namespace, and nothing else is
abbrev pub is_xml_legal : List ℕ → List ℕ → Bool
is_xml_legal prefix namespace = if bytes_eq prefix (codes "xml") then bytes_eq namespace xml_namespace else not (bytes_eq namespace xml_namespace)

-- a prefix may be bound so (section 3): nothing is declared of `xmlns`; `xml` is declared as what it is, and nothing else is; nothing is bound to
-- the namespace of `xmlns`; no prefix is undeclared by an empty value
unfoldable pub may_bind : List ℕ → List ℕ → Bool
may_bind prefix namespace =
    not (bytes_eq prefix (codes "xmlns")) && is_xml_legal prefix namespace && not (bytes_eq namespace xmlns_namespace)
    && (length prefix == 0 || not (length namespace == 0))

-- a declaration is legal
abbrev pub is_legal : Declaration → Bool
is_legal d = may_bind d.prefix d.namespace

-- the newest declaration of the prefix
abbrev pub newest : Scope → List ℕ → Option Declaration
newest scope prefix = find (λ d. bytes_eq d.prefix prefix) (reverse scope)

-- the namespace that the prefix is bound to, if it is bound
unfoldable pub namespace_of : Scope → List ℕ → Option (List ℕ)
namespace_of scope prefix =
    if bytes_eq prefix (codes "xml") then Some xml_namespace
    else (if bytes_eq prefix (codes "xmlns") then Some xmlns_namespace
    else option_map (λ d. d.namespace) (newest scope prefix))

-- a name that has a prefix has one that is bound (section 5, Prefix Declared)
unfoldable pub is_bound : Scope → List ℕ → Bool
is_bound scope name = not (is_prefixed name) || is_some (namespace_of scope (prefix_of name))

-- the namespace of an attribute's name that has a prefix
abbrev pub space_of : Scope → List ℕ → List ℕ
space_of scope name = unwrap_or (namespace_of scope (prefix_of name)) []

-- two attributes of one tag that may not stand together: their names are one (XML 1.0, section 3.1, Unique Att Spec), or have prefixes, one
-- local part and one namespace (section 6.3, Attributes Unique)
unfoldable pub are_alike : Scope → List ℕ → List ℕ → Bool
are_alike scope name other =
    bytes_eq name other
    || (is_prefixed name && is_prefixed other && bytes_eq (local_of name) (local_of other) && bytes_eq (space_of scope name) (space_of scope other))

unfoldable pub are_unlike : Scope → List (List ℕ) → Bool
are_unlike scope [] = true
are_unlike scope (name ∷ names) = list_all (λ other. not (are_alike scope name other)) names && are_unlike scope names
