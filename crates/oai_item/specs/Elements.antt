-- Records that are whole XML elements, and elements about a record: how an item keeps them, and when a record is one of a format. Namespaces in
-- XML 1.0, sections 2.1 and 4; OAI-PMH 2.0, sections 2.5 and 3.4.
use Rattle.std.specs.Prelude.{ℕ, Bool, false, ◌==◌, ◌&&◌, if◌then◌else◌, List, [], ◌∷◌, length, map, drop, Option, Some, None, option_map}
use Rattle.std.specs.List.{before_first, position_or_len}
use Rattle.std.specs.Str.{bytes_eq}
use Rattle.oai_xml.specs.Documents.{is_canonical, tree_in}
use Rattle.oai_xml.specs.QNames.{local_of}
use Rattle.oai_xml.specs.Roots.{RootName, root_of}
use Rattle.oai_item.specs.declared.fields.Field.{Field}
use Rattle.oai_item.specs.declared.formats.Format.{Format}

-- ---- how it is kept

-- an element is the text of a field without a name, the record itself as well as one about it. No format has a field of that name
abbrev pub element_field : List ℕ → Field
element_field text = record { name = []; text = text }

abbrev pub is_nameless : Field → Bool
is_nameless field = length field.name == 0

-- what was given as the record itself: the first field, and those behind it up to the first without a name
abbrev pub content_in : List Field → List Field
content_in [] = []
content_in (field ∷ fields) = field ∷ before_first is_nameless fields

-- from the first without a name on
abbrev pub from_nameless : List Field → List Field
from_nameless fields = drop (position_or_len is_nameless fields) fields

-- what was given about the record: the fields behind that
abbrev pub behind_content : List Field → List Field
behind_content [] = []
behind_content (field ∷ fields) = from_nameless fields

-- the elements about a record
abbrev pub about_in : List Field → List (List ℕ)
about_in fields = map (λ field. field.text) (behind_content fields)

-- the text of a field that has no name
abbrev pub nameless_text : Field → Option (List ℕ)
nameless_text field = if is_nameless field then Some field.text else None

-- the element that is the content of a record: it is one field, which has no name
abbrev pub element_of_content : List Field → Option (List ℕ)
element_of_content [] = None
element_of_content (field ∷ []) = nameless_text field
element_of_content (field ∷ other ∷ fields) = None

-- the element that fields keep as the record itself
abbrev pub element_in : List Field → Option (List ℕ)
element_in fields = element_of_content (content_in fields)

-- an element about a record: it has no name, and is in canonical text
abbrev pub is_about : Field → Bool
is_about field = is_nameless field && is_canonical field.text

-- ---- when it is of a format

-- the root is in the format's namespace, and has the local part of the name that the format gives its root
abbrev pub is_root_of : Format → RootName → Bool
is_root_of format root = bytes_eq root.namespace format.namespace && bytes_eq root.local (local_of format.root)

abbrev pub has_root_of : Format → Option RootName → Bool
has_root_of format None = false
has_root_of format (Some root) = is_root_of format root

-- the root of the element that the text is
abbrev pub root_in : List ℕ → Option RootName
root_in text = option_map root_of (tree_in text)

-- the text is an element, and its root is the format's. Nothing within the root is looked at
unfoldable pub is_element_of : Format → List ℕ → Bool
is_element_of format text = is_canonical text && has_root_of format (root_in text)

-- fields keep such an element
abbrev pub keeps_element_of : Format → Option (List ℕ) → Bool
keeps_element_of format None = false
keeps_element_of format (Some text) = is_element_of format text
