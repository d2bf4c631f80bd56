-- What names an element: the expanded name of its root. Namespaces in XML 1.0 (third edition), section 2.1.
use Rattle.std.specs.Prelude.{◌≡◌, ℕ, List, [], codes, Ok}
use Rattle.oai_xml.specs.QNames.{local_of}
use Rattle.oai_xml.specs.Namespaces.{space_of}
use Rattle.oai_xml.specs.Readings.{past}
use Rattle.oai_xml.specs.Tags.{Start}
use Rattle.oai_xml.specs.Trees.{Attribute, Tree}
use Rattle.oai_xml.specs.Whole.{within}
use Rattle.oai_xml.specs.Contents.{whole_start_in}

-- a namespace, which is empty where there is none, and a local part
pub record RootName : Type 0 where
  pub namespace : List ℕ
  pub local : List ℕ

-- a root of that name, with these attributes
unfoldable pub named_so : List ℕ → List Attribute → RootName
named_so name attributes = record { namespace = space_of (within [] attributes) name; local = local_of name }

abbrev pub root_of : Tree → RootName
root_of t = named_so t.name t.attributes

-- a word of the code's own: what the first tag of the bytes names
abbrev pub IsRootOf : List ℕ → RootName → Type 0
IsRootOf bytes root = (s : Start) × (tag rest : List ℕ) × (past (codes "<") bytes ≡ Ok tag) × (whole_start_in [] tag ≡ Ok (s, rest)) × (root ≡ named_so s.name s.attributes)
