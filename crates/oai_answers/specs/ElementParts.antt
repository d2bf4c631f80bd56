-- Elements from their parts. XML 1.0 (fifth edition), section 3.
use Rattle.std.specs.Prelude.{ℕ, List, [], ◌∷◌}
use Rattle.oai_xml.specs.Trees.{Attribute, Content, Tree, nothing, element, text_of}

abbrev pub element_attribute : List ℕ → List ℕ → Attribute
element_attribute name value = record { name = name; value = value }

-- elements, in this order, and nothing else
unfoldable pub in_order : List Tree → Content
in_order [] = nothing
in_order (t ∷ trees) = element t.name t.attributes t.content (in_order trees)

-- an element that contains elements
abbrev pub parent : List ℕ → List Attribute → List Tree → Tree
parent name attributes children =
    record { name = name; attributes = attributes; content = in_order children }

-- an element that contains a text
abbrev pub leaf : List ℕ → List Attribute → List ℕ → Tree
leaf name attributes text =
    record { name = name; attributes = attributes; content = text_of text }

-- the same without attributes
abbrev pub bare_parent : List ℕ → List Tree → Tree
bare_parent name children = parent name [] children

abbrev pub bare_leaf : List ℕ → List ℕ → Tree
bare_leaf name text = leaf name [] text
