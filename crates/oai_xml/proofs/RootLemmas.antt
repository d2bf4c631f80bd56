-- What names an element, read from its first tag.
use Rattle.std.proofs.Common.{◌≡◌, ◌∙◌, ℕ, List, [], ◌∷◌, ◌++◌, Ok, refl, sym, ap, append-nil}
use Rattle.std.specs.Prelude.{codes}
use Rattle.oai_xml.specs.Readings.{past}
use Rattle.oai_xml.specs.QNames.{local_of}
use Rattle.oai_xml.specs.Namespaces.{Scope, space_of}
use Rattle.oai_xml.specs.Tags.{Start}
use Rattle.oai_xml.specs.Trees.{Attribute, Tree, spelled, spelled_content}
use Rattle.oai_xml.specs.Whole.{SpellsTree, within}
use Rattle.oai_xml.specs.Contents.{whole_start_in}
use Rattle.oai_xml.specs.Roots.{RootName, named_so, root_of, IsRootOf}
use Rattle.oai_xml.specs.declared.limits.TheConstants.{MAX_DEPTH}
use Rattle.oai_xml.proofs.ReadWhole.{same_ok, same_read}
use Rattle.oai_xml.proofs.ContentBacks.{tag_parts, tree_parts, behind_tag, spelled_text, whole_start_back}

pub root_named : (scope : Scope) (found name namespace local : List ℕ) (attributes : List Attribute) → found ≡ name → scope ≡ within [] attributes → namespace ≡ space_of scope found → local ≡ local_of found
    → record { namespace = namespace; local = local } ≡ named_so name attributes
unfolding named_so
root_named scope found name namespace local attributes same scoped one two =
    let first : namespace ≡ space_of (within [] attributes) name = one ∙ ap (λ s. space_of s found) scoped ∙ ap (space_of (within [] attributes)) same in
    let second : local ≡ local_of name = two ∙ ap local_of same in
    let pair : List ℕ → List ℕ → RootName = λ a b. record { namespace = a; local = b } in
    ap (λ (w : List ℕ). pair w local) first ∙ ap (pair (space_of (within [] attributes) name)) second

first_tag : (tag : List ℕ) → past (codes "<") (60 ∷ tag) ≡ Ok tag
unfolding past
first_tag tag = refl

start_of : (t : Tree) (bytes : List ℕ) → SpellsTree bytes t
    → (rest : List ℕ) × (whole_start_in [] (behind_tag t []) ≡ Ok (record { name = t.name; attributes = t.attributes }, rest))
unfolding behind_tag
start_of t bytes s =
    let parts = tree_parts MAX_DEPTH [] t s.whole in (
      62 ∷ (spelled_content t.content ++ 60 ∷ 47 ∷ (t.name ++ 62 ∷ [])),
      whole_start_back [] t.name (spelled_content t.content ++ 60 ∷ 47 ∷ (t.name ++ 62 ∷ [])) t.attributes (tag_parts [] t.name t.attributes parts.1),
    )

pub only_root : (t : Tree) (bytes : List ℕ) (root : RootName) → SpellsTree bytes t → IsRootOf bytes root → root ≡ root_of t
only_root t bytes root s is =
    let text : bytes ≡ 60 ∷ behind_tag t [] = s.bytes_are ∙ sym (append-nil (spelled t)) ∙ spelled_text t [] in
    let tag : is.1 ≡ behind_tag t [] = same_ok is.1 (behind_tag t []) (sym is.3 ∙ ap (past (codes "<")) text ∙ first_tag (behind_tag t [])) in
    let start = start_of t bytes s in
    let same = same_read (is.0, is.2) (record { name = t.name; attributes = t.attributes }, start.0) (sym is.4 ∙ ap (whole_start_in []) tag ∙ start.1) in
    is.5 ∙ ap (λ (w : Start × List ℕ). named_so w.0.name w.0.attributes) same
