-- Trees whose texts are legal. XML 1.0 (fifth edition), sections 2.2 and 4.3.3.
use Rattle.std.specs.Prelude.{ℕ, Bool, true, ◌&&◌, List, [], ◌∷◌}
use Rattle.std.specs.List.{list_all}
use Rattle.std.specs.Str.{is_utf8}
use Rattle.oai_names.specs.Characters.{is_xml_text}
use Rattle.oai_xml.specs.Trees.{Attribute, Content, Tree, nothing, byte, element}

-- a text in UTF-8, of characters that XML allows
abbrev pub is_legal_text : List ℕ → Bool
is_legal_text text = is_utf8 text && is_xml_text text

-- the text that contents begin with, up to their first element
unfoldable pub leading_text : Content → List ℕ
leading_text nothing = []
leading_text (byte b rest) = b ∷ leading_text rest
leading_text (element name attributes inside rest) = []

-- the name and the value of an attribute are such texts
abbrev pub is_legal_attribute : Attribute → Bool
is_legal_attribute a = is_legal_text a.name && is_legal_text a.value

abbrev pub is_legal_tag : List ℕ → List Attribute → Bool
is_legal_tag name attributes = is_legal_text name && list_all is_legal_attribute attributes

-- so are the names, the values and the texts of the elements among the contents, and the texts behind these elements
unfoldable pub are_elements_legal : Content → Bool
are_elements_legal nothing = true
are_elements_legal (byte b rest) = are_elements_legal rest
are_elements_legal (element name attributes inside rest) =
    is_legal_tag name attributes
    && (is_legal_text (leading_text inside) && are_elements_legal inside)
    && (is_legal_text (leading_text rest) && are_elements_legal rest)

-- all texts in an element
abbrev pub is_legal_tree : Tree → Bool
is_legal_tree t =
    is_legal_tag t.name t.attributes && (is_legal_text (leading_text t.content) && are_elements_legal t.content)
