-- How contents are spelled, one behind the other.
use Rattle.std.proofs.Common.{◌≡◌, ◌∙◌, ℕ, List, [], ◌∷◌, ◌++◌, refl, sym, ap, append_assoc, append-nil}
use Rattle.oai_names.specs.Escapes.{escaped, escaped_text, text_spelling}
use Rattle.oai_xml.specs.Trees.{Attribute, Content, Tree, nothing, byte, element, spelled_content, spelled, followed_by, text_of, alone, start_tag, end_tag}
use Rattle.oai_xml.proofs.Goings.{Joins}

pub nothing_spelled : spelled_content nothing ≡ []
unfolding spelled_content
nothing_spelled = refl

pub byte_spelled : (b : ℕ) (rest : Content) → spelled_content (byte b rest) ≡ text_spelling b ++ spelled_content rest
unfolding spelled_content
byte_spelled b rest = refl

pub element_spelled : (n : List ℕ) (a : List Attribute) (i rest : Content)
    → spelled_content (element n a i rest) ≡ start_tag n a ++ (spelled_content i ++ (end_tag n ++ spelled_content rest))
unfolding spelled_content
element_spelled n a i rest = refl

pub tree_spelled : (t : Tree) → spelled t ≡ start_tag t.name t.attributes ++ (spelled_content t.content ++ end_tag t.name)
unfolding spelled
tree_spelled t = refl

pub followed_spelled : (a b : Content) → spelled_content (followed_by a b) ≡ spelled_content a ++ spelled_content b
unfolding spelled_content followed_by
followed_spelled nothing b = refl
followed_spelled (byte x rest) b = ap (λ (w : List ℕ). text_spelling x ++ w) (followed_spelled rest b) ∙ sym (append_assoc (text_spelling x) (spelled_content rest) (spelled_content b))
followed_spelled (element n a i rest) b =
    ap (λ (w : List ℕ). start_tag n a ++ (spelled_content i ++ (end_tag n ++ w))) (followed_spelled rest b)
    ∙ ap (λ (w : List ℕ). start_tag n a ++ (spelled_content i ++ w)) (sym (append_assoc (end_tag n) (spelled_content rest) (spelled_content b)))
    ∙ ap (λ (w : List ℕ). start_tag n a ++ w) (sym (append_assoc (spelled_content i) (end_tag n ++ spelled_content rest) (spelled_content b)))
    ∙ sym (append_assoc (start_tag n a) (spelled_content i ++ (end_tag n ++ spelled_content rest)) (spelled_content b))

pub text_spelled : (text : List ℕ) → spelled_content (text_of text) ≡ escaped_text text
unfolding spelled_content text_of escaped
text_spelled [] = refl
text_spelled (b ∷ text) = ap (λ (w : List ℕ). text_spelling b ++ w) (text_spelled text)

pub alone_spelled : (t : Tree) → spelled_content (alone t) ≡ spelled t
unfolding spelled_content spelled
alone_spelled t = ap (λ (w : List ℕ). start_tag t.name t.attributes ++ (spelled_content t.content ++ w)) (append-nil (end_tag t.name))

-- ---- contents one behind the other

pub followed_none : (c : Content) → followed_by nothing c ≡ c
unfolding followed_by
followed_none c = refl

followed_assoc : (a b c : Content) → followed_by (followed_by a b) c ≡ followed_by a (followed_by b c)
unfolding followed_by
followed_assoc nothing b c = refl
followed_assoc (byte x rest) b c = ap (λ (w : Content). byte x w) (followed_assoc rest b c)
followed_assoc (element n a i rest) b c = ap (λ (w : Content). element n a i w) (followed_assoc rest b c)

pub followed_joins : Joins followed_by
followed_joins = record { joins = followed_assoc }

pub text_followed : (b : ℕ) (text : List ℕ) → followed_by (text_of (b ∷ [])) (text_of text) ≡ text_of (b ∷ text)
unfolding followed_by text_of
text_followed b text = refl

pub one_text : (b : ℕ) → text_of (b ∷ []) ≡ byte b nothing
unfolding text_of
one_text b = refl
