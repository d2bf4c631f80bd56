-- An XML element as a tree, and the bytes that it is spelled in. XML 1.0 (fifth edition), sections 2 and 3.
use Rattle.std.specs.Prelude.{ℕ, List, [], ◌∷◌, ◌++◌}
use Rattle.std.specs.List.{flat_map}
use Rattle.oai_names.specs.Escapes.{text_spelling, escaped_attribute}

-- an attribute, as its start tag has it; declarations of namespaces are attributes too
pub record Attribute : Type 0 where
  pub name : List ℕ  -- as it is written, with its prefix
  pub value : List ℕ  -- the value itself, with no escape

-- what stands in an element: nothing; a byte of text, and what follows it; or an element, by its name, its attributes and what stands in it, and
-- what follows it. So texts are never empty, nor side by side
pub data Content : Type 0 where
  nothing : Content
  byte : ℕ → Content → Content
  element : List ℕ → List Attribute → Content → Content → Content

-- an element
pub record Tree : Type 0 where
  pub name : List ℕ
  pub attributes : List Attribute
  pub content : Content

-- ---- how it is spelled: in canonical bytes

-- one space, the name, and the value between double quotes
unfoldable pub spelled_attribute : Attribute → List ℕ
spelled_attribute a = 32 ∷ (a.name ++ 61 ∷ 34 ∷ (escaped_attribute a.value ++ 34 ∷ []))

unfoldable pub start_tag : List ℕ → List Attribute → List ℕ
start_tag name attributes = 60 ∷ (name ++ (flat_map spelled_attribute attributes ++ 62 ∷ []))

unfoldable pub end_tag : List ℕ → List ℕ
end_tag name = 60 ∷ 47 ∷ (name ++ 62 ∷ [])

unfoldable pub spelled_content : Content → List ℕ
spelled_content nothing = []
spelled_content (byte b rest) = text_spelling b ++ spelled_content rest
spelled_content (element name attributes inside rest) =
    start_tag name attributes ++ (spelled_content inside ++ (end_tag name ++ spelled_content rest))

-- an end tag always, also where nothing stands in the element
unfoldable pub spelled : Tree → List ℕ
spelled t = start_tag t.name t.attributes ++ (spelled_content t.content ++ end_tag t.name)

-- ---- contents one behind the other

-- these contents, and then those
unfoldable pub followed_by : Content → Content → Content
followed_by nothing more = more
followed_by (byte b rest) more = byte b (followed_by rest more)
followed_by (element name attributes inside rest) more = element name attributes inside (followed_by rest more)

-- a text
unfoldable pub text_of : List ℕ → Content
text_of [] = nothing
text_of (b ∷ bytes) = byte b (text_of bytes)

-- an element that stands alone
abbrev pub alone : Tree → Content
alone t = element t.name t.attributes t.content nothing
