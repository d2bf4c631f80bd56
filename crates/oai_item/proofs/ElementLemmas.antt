-- A text that is its own canonical text is an element, and what its first tag names is its root.
use Rattle.std.proofs.Common.{◌≡◌, ◌∙◌, ℕ, true, ◌&&◌, List, Some, Ok, sym, ap}
use Rattle.std.specs.Prelude.{option_map}
use Rattle.oai_xml.specs.Documents.{canonical, is_canonical}
use Rattle.oai_xml.specs.Roots.{RootName, root_of}
use Rattle.oai_xml.specs.Trees.{Tree}
use Rattle.oai_xml.specs.Whole.{IsElement, SpellsTree}
use Rattle.oai_xml.proofs.CanonicalLemmas.{canonical_tree, element_found, element_tested, tree_again}
use Rattle.oai_item.specs.Elements.{has_root_of, is_element_of, is_root_of, root_in}
use Rattle.oai_item.specs.declared.formats.Format.{Format}

-- the root that every tree that the text spells has
pub root_found : (text : List ℕ) (root : RootName) → IsElement text → ((t : Tree) → SpellsTree text t → root ≡ root_of t) → root_in text ≡ Some root
root_found text root e told = ap (option_map root_of) (tree_again text e.0 e.1) ∙ ap (λ (w : RootName). Some w) (sym (told e.0 e.1))

-- so it decides whether the text is an element of the format
pub root_told : (format : Format) (text : List ℕ) (root : RootName) → is_canonical text ≡ true → ((t : Tree) → SpellsTree text t → root ≡ root_of t)
    → is_root_of format root ≡ is_element_of format text
unfolding is_element_of
root_told format text root is told =
    sym (ap (has_root_of format) (root_found text root (element_tested text is) told)) ∙ sym (ap (λ b. b && has_root_of format (root_in text)) is)

-- the canonical text of a text is its own
pub canonical_again : (text element : List ℕ) → canonical text ≡ Ok element → is_canonical element ≡ true
canonical_again text element is = let t = canonical_tree text element is in element_found element (t.0, t.2)

pub canonical_element : (text element : List ℕ) → canonical text ≡ Ok element → IsElement element
canonical_element text element is = let t = canonical_tree text element is in (t.0, t.2)
