-- The root is that of the element, whose text is its own canonical text.
use Rattle.std.proofs.Common.{◌≡◌, ℕ, List, [], ◌∷◌, Ok, subst, rules}
use Rattle.oai_xml.specs.Roots.{root_of}
use Rattle.oai_xml.specs.Trees.{Tree}
use Rattle.oai_xml.specs.Whole.{SpellsTree}
use Rattle.oai_item.specs.Elements.{element_field}
use Rattle.oai_deposit.specs.Lines.{element_read}
use Rattle.oai_deposit.proofs.ElementLemmas.{element_noted}
use Rattle.oai_deposit.proofs.given_elements.element_fields.Goals as goal

pub returns-clause-noted : goal.returns-clause-noted
returns-clause-noted c =
    let element : List ℕ = c.in_ok-element.element in
    let root = c.in_ok-root.root in
    let is : element_read c.args.text ≡ Ok element = rw (← c.as_str.ensures) c.in_ok-element.ensures in
    let told : (t : Tree) → SpellsTree element t → root ≡ root_of t = subst (λ (text : List ℕ). (t : Tree) → SpellsTree text t → root ≡ root_of t) c.as_str-2.ensures c.in_ok-root.ensures in
    let same : element_field element ∷ [] ≡ c.push.new.self.items = search rules in
    rw (← same) (element_noted c.args.text element root is told)
