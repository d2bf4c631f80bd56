-- Elements and attributes, as documents write them and as trees are spelled.
use Rattle.std.proofs.Common.{◌≡◌, ◌∙◌, ℕ, List, [], ◌∷◌, ◌++◌, map, codes, refl, sym, ap, append_assoc, append-nil}
use Rattle.std.specs.List.{flat_map}
use Rattle.std.proofs.lemmas.Grind.{flat_map-append}
use Rattle.oai_names.specs.Escapes.{escaped_attribute, escaped_text}
use Rattle.oai_answers.specs.Markup.{plain, text_element, attribute_start, attribute as text_attribute, element as marked, start_tag as marked_start, end_tag as marked_end, spelled_attribute as marked_attribute}
use Rattle.oai_xml.specs.Trees.{Attribute, Tree, spelled, spelled_content, spelled_attribute, start_tag, end_tag}
use Rattle.oai_xml.proofs.Spellings.{element_spelled, nothing_spelled, text_spelled, tree_spelled}
use Rattle.oai_answers.specs.ElementParts.{bare_leaf, bare_parent, element_attribute, in_order, leaf, parent}

-- ---- elements in their order

pub in_order_spelled : (trees : List Tree) → spelled_content (in_order trees) ≡ flat_map spelled trees
unfolding in_order
in_order_spelled [] = nothing_spelled
in_order_spelled (t ∷ trees) =
    let start : List ℕ = start_tag t.name t.attributes in
    let inside : List ℕ = spelled_content t.content in
    let end : List ℕ = end_tag t.name in
    let others : List ℕ = flat_map spelled trees in
    element_spelled t.name t.attributes t.content (in_order trees)
    ∙ ap (λ (w : List ℕ). start ++ (inside ++ (end ++ w))) (in_order_spelled trees)
    ∙ sym (ap (λ (w : List ℕ). w ++ others) (tree_spelled t)
    ∙ append_assoc start (inside ++ end) others
    ∙ ap (λ (w : List ℕ). start ++ w) (append_assoc inside end others))

-- one element
pub only : (p : List ℕ) (t : Tree) → p ≡ spelled t → p ≡ flat_map spelled (t ∷ [])
only p t is = is ∙ sym (append-nil (spelled t))

-- some elements, and then others
pub then_more : (p q : List ℕ) (xs ys : List Tree) → p ≡ flat_map spelled xs → q ≡ flat_map spelled ys → p ++ q ≡ flat_map spelled (xs ++ ys)
then_more p q xs ys first second =
    ap (λ (w : List ℕ). w ++ q) first ∙ ap (λ (w : List ℕ). flat_map spelled xs ++ w) second ∙ sym (flat_map-append spelled xs ys)

-- and then one more
pub then_one : (p q : List ℕ) (xs : List Tree) (t : Tree) → p ≡ flat_map spelled xs → q ≡ spelled t → p ++ q ≡ flat_map spelled (xs ++ t ∷ [])
then_one p q xs t first second = then_more p q xs (t ∷ []) first (only q t second)

-- an element for each of a list
pub each_written : {A : Type 0} (write : A → List ℕ) (tree : A → Tree) → ((a : A) → write a ≡ spelled (tree a)) → (xs : List A) → flat_map write xs ≡ flat_map spelled (map tree xs)
each_written write tree is [] = refl
each_written write tree is (x ∷ xs) =
    ap (λ (w : List ℕ). w ++ flat_map write xs) (is x) ∙ ap (λ (w : List ℕ). spelled (tree x) ++ w) (each_written write tree is xs)

-- ---- tags

start_is : (name : List ℕ) → marked_start name ≡ start_tag name []
unfolding marked_start start_tag plain
start_is name = refl

pub end_is : (name : List ℕ) → marked_end name ≡ end_tag name
unfolding marked_end end_tag plain
end_is name = refl

-- a start tag with attributes
pub start_written : (name texts : List ℕ) (attributes : List Attribute) → texts ≡ flat_map spelled_attribute attributes
    → plain (60 ∷ name) ++ texts ++ plain (codes ">") ≡ start_tag name attributes
unfolding start_tag plain
start_written name texts attributes are =
    ap (λ (w : List ℕ). 60 ∷ w) (append_assoc name texts (codes ">")) ∙ ap (λ (w : List ℕ). 60 ∷ (name ++ (w ++ 62 ∷ []))) are

-- ---- elements

-- an element, by its tags and its content
pub written : (start content end : List ℕ) (t : Tree) → start ≡ start_tag t.name t.attributes → content ≡ spelled_content t.content → end ≡ end_tag t.name
    → start ++ content ++ end ≡ spelled t
written start content end t begun filled ended =
    append_assoc start content end ∙ ap (λ (w : List ℕ). w ++ (content ++ end)) begun
    ∙ ap (λ (w : List ℕ). start_tag t.name t.attributes ++ (w ++ end)) filled
    ∙ ap (λ (w : List ℕ). start_tag t.name t.attributes ++ (spelled_content t.content ++ w)) ended
    ∙ sym (tree_spelled t)

pub leaf_written : (start text name : List ℕ) (attributes : List Attribute) → start ≡ start_tag name attributes → start ++ escaped_text text ++ marked_end name ≡ spelled (leaf name attributes text)
leaf_written start text name attributes begun =
    written start (escaped_text text) (marked_end name) (leaf name attributes text) begun (sym (text_spelled text)) (end_is name)

pub parent_written : (start content name : List ℕ) (attributes : List Attribute) (trees : List Tree) → start ≡ start_tag name attributes → content ≡ flat_map spelled trees
    → start ++ content ++ marked_end name ≡ spelled (parent name attributes trees)
parent_written start content name attributes trees begun filled =
    written start content (marked_end name) (parent name attributes trees) begun (filled ∙ sym (in_order_spelled trees)) (end_is name)

pub bare_parent_written : (name content : List ℕ) (trees : List Tree) → content ≡ flat_map spelled trees → marked name content ≡ spelled (bare_parent name trees)
unfolding marked
bare_parent_written name content trees filled = parent_written (marked_start name) content name [] trees (start_is name) filled

pub bare_leaf_written : (name text : List ℕ) → text_element name text ≡ spelled (bare_leaf name text)
unfolding marked text_element
bare_leaf_written name text = leaf_written (marked_start name) text name [] (start_is name)

-- with a text in it that needs no escape
pub plain_leaf_written : (name text : List ℕ) → escaped_text text ≡ text → marked name text ≡ spelled (bare_leaf name text)
unfolding text_element
plain_leaf_written name text same = ap (marked name) (sym same) ∙ bare_leaf_written name text

-- ---- attributes

value_written : (name value : List ℕ) → marked_attribute name value ≡ 32 ∷ (name ++ 61 ∷ 34 ∷ (value ++ 34 ∷ []))
unfolding marked_attribute attribute_start plain
value_written name value =
    ap (λ (w : List ℕ). 32 ∷ w) (append_assoc (name ++ 61 ∷ 34 ∷ []) value (34 ∷ []) ∙ append_assoc name (61 ∷ 34 ∷ []) (value ++ 34 ∷ []))

-- with a value that is written so
pub attribute_as : (name value spelling : List ℕ) → spelling ≡ escaped_attribute value → marked_attribute name spelling ≡ spelled_attribute (element_attribute name value)
unfolding spelled_attribute
attribute_as name value spelling is = value_written name spelling ∙ ap (λ (w : List ℕ). 32 ∷ (name ++ 61 ∷ 34 ∷ (w ++ 34 ∷ []))) is

pub attribute_written : (name value : List ℕ) → text_attribute name value ≡ spelled_attribute (element_attribute name value)
unfolding text_attribute
attribute_written name value = attribute_as name value (escaped_attribute value) refl

-- some attributes, and then others
pub then_attributes : (p q : List ℕ) (xs ys : List Attribute) → p ≡ flat_map spelled_attribute xs → q ≡ flat_map spelled_attribute ys → p ++ q ≡ flat_map spelled_attribute (xs ++ ys)
then_attributes p q xs ys first second =
    ap (λ (w : List ℕ). w ++ q) first ∙ ap (λ (w : List ℕ). flat_map spelled_attribute xs ++ w) second ∙ sym (flat_map-append spelled_attribute xs ys)

pub one_attribute : (p : List ℕ) (a : Attribute) → p ≡ spelled_attribute a → p ≡ flat_map spelled_attribute (a ∷ [])
one_attribute p a is = is ∙ sym (append-nil (spelled_attribute a))
