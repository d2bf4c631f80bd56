-- Lists of elements under names, by their canonical texts.
use Rattle.std.specs.Prelude.{ℕ, Bool, List, [], find, Option, None, Some}
use Rattle.std.specs.List.{list_all}
use Rattle.std.specs.Str.{bytes_eq}
use Rattle.oai_xml.specs.Documents.{is_canonical}

-- a list of elements, and its name
abbrev pub NamedList : Type 0
NamedList = List ℕ × List (List ℕ)

-- they are elements in canonical text
abbrev pub are_canonical : NamedList → Bool
are_canonical list = list_all is_canonical list.1

abbrev pub elements_of : Option NamedList → List (List ℕ)
elements_of None = []
elements_of (Some list) = list.1

-- the elements of the first list of that name, or none
unfoldable pub elements_named : List NamedList → List ℕ → List (List ℕ)
elements_named lists name = elements_of (find (λ (list : NamedList). bytes_eq list.0 name) lists)
