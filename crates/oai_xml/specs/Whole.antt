-- When a tree is whole: its names, its namespaces and its size are legal, each where it stands. And when bytes are an element.
use Rattle.std.specs.Prelude.{◌≡◌, ℕ, Bool, true, ◌==◌, ◌&&◌, ◌-◌, not, nat_le, List, [], ◌++◌, length, map}
use Rattle.std.specs.List.{list_all}
use Rattle.std.specs.Option.{is_some}
use Rattle.std.specs.Str.{IsUtf8, bytes_eq}
use Rattle.std.specs.Prelude.{codes}
use Rattle.oai_names.specs.Characters.{is_xml_text}
use Rattle.oai_xml.specs.Trees.{Attribute, Content, Tree, nothing, byte, element, spelled}
use Rattle.oai_xml.specs.QNames.{is_qname, prefix_of}
use Rattle.oai_xml.specs.Namespaces.{Declaration, Scope, declared, is_legal, namespace_of, is_bound, are_unlike}
use Rattle.oai_xml.specs.declared.limits.TheConstants.{MAX_DEPTH, MAX_ATTRIBUTES, MAX_DECLARATIONS}

-- the names of the attributes
abbrev pub names_of : List Attribute → List (List ℕ)
names_of attributes = map (λ a. a.name) attributes

-- a default namespace is declared, if only as none: so that no name changes its meaning where the element stands in another one
abbrev pub has_default : Scope → Bool
has_default scope = is_some (namespace_of scope [])

-- the names of a start tag may stand together: where all that is in force is the scope, of which these are the declarations of the tag
unfoldable pub are_names_whole : Scope → List Declaration → List ℕ → List (List ℕ) → Bool
are_names_whole scope declarations name names =
    has_default scope
    && (nat_le (length names) MAX_ATTRIBUTES
    && nat_le (length scope) MAX_DECLARATIONS
    && list_all is_legal declarations
    && not (bytes_eq (prefix_of name) (codes "xmlns"))
    && is_bound scope name
    && list_all (is_bound scope) names
    && are_unlike scope names)

-- what is in force within the tag
abbrev pub within : Scope → List Attribute → Scope
within scope attributes = scope ++ declared attributes

-- a start tag is whole within that scope
unfoldable pub is_tag_whole : Scope → List ℕ → List Attribute → Bool
is_tag_whole scope name attributes =
    is_qname name && list_all is_qname (names_of attributes)
    && are_names_whole (within scope attributes) (declared attributes) name (names_of attributes)

-- contents are whole within that scope, where so many levels of elements may still come
unfoldable pub is_content_whole : ℕ → Scope → Content → Bool
is_content_whole levels scope nothing = true
is_content_whole levels scope (byte b rest) = is_content_whole levels scope rest
is_content_whole levels scope (element name attributes inside rest) =
    not (levels == 0) && is_tag_whole scope name attributes
    && is_content_whole (levels - 1) (within scope attributes) inside && is_content_whole levels scope rest

-- an element is whole there
unfoldable pub is_whole_in : ℕ → Scope → Tree → Bool
is_whole_in levels scope t =
    not (levels == 0) && is_tag_whole scope t.name t.attributes && is_content_whole (levels - 1) (within scope t.attributes) t.content

-- a tree is whole by itself
abbrev pub is_whole : Tree → Bool
is_whole t = is_whole_in MAX_DEPTH [] t

-- ---- bytes that are an element

-- the bytes are the spelling of the tree, which is whole and of XML's characters
pub record SpellsTree (bytes : List ℕ) (tree : Tree) : Type 0 where
  pub whole : is_whole tree ≡ true
  pub bytes_are : bytes ≡ spelled tree
  pub characters : is_xml_text bytes ≡ true
  pub utf8 : IsUtf8 bytes

abbrev pub IsElement : List ℕ → Type 0
IsElement bytes = (tree : Tree) × SpellsTree bytes tree
