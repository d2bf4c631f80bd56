-- How a text is escaped where it stands in a document. XML 1.0, sections 2.4, 2.11 and 3.3.3.
use Rattle.std.specs.Prelude.{ℕ, ◌==◌, if◌then◌else◌, List, [], ◌∷◌, codes}
use Rattle.std.specs.List.{flat_map}
use Rattle.oai_names.specs.declared.escapes.Place.{Place}
use Rattle.oai_names.specs.declared.escapes.Place.TheVariants.{Element, Attribute}

-- a byte in the text of an element: markup is escaped, and so is CR, which a reader would take for a line end
abbrev pub text_spelling : ℕ → List ℕ
text_spelling b =
    if b == 38 then codes "&amp;"
    else (if b == 60 then codes "&lt;"
    else (if b == 62 then codes "&gt;"
    else (if b == 13 then codes "&#13;"
    else b ∷ [])))

-- a byte in the value of an attribute: also the quote, and the white space that a reader would turn into a space
abbrev pub attribute_spelling : ℕ → List ℕ
attribute_spelling b =
    if b == 34 then codes "&quot;"
    else (if b == 9 then codes "&#9;"
    else (if b == 10 then codes "&#10;"
    else text_spelling b))

-- a byte where it stands
abbrev pub spelling : Place → ℕ → List ℕ
spelling Element b = text_spelling b
spelling Attribute b = attribute_spelling b

-- a text where it stands
unfoldable pub escaped : Place → List ℕ → List ℕ
escaped place text = flat_map (spelling place) text

-- the text of an element
abbrev pub escaped_text : List ℕ → List ℕ
escaped_text text = escaped Element text

-- the value of an attribute, between its quotes
abbrev pub escaped_attribute : List ℕ → List ℕ
escaped_attribute text = escaped Attribute text
