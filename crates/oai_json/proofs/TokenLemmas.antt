-- The tokens of a text's value.
use Rattle.std.proofs.Common.{◌≡◌, ℕ, suc, ◌≤◌, Some, List, [], ◌∷◌, ◌++◌, map, refl, sym, ap, ◌∙◌, arith, append_assoc}
use Rattle.std.proofs.lemmas.List.{append-nil}
use Rattle.std.proofs.lemmas.Grind.{flat_map-append}
use Rattle.std.specs.Prelude.{option_and_then, option_map}
use Rattle.std.specs.List.{flat_map}
use Rattle.json.specs.Token.{Token}
use Rattle.json.specs.Json as json
use Rattle.json.specs.Tree as tree
use Rattle.json.proofs.Grammar.{closed_array}
use Rattle.serde_json.specs.Data.{Data, string, array, Items, item, Members}
use Rattle.serde_json.specs.Read.{of_json, of_items, of_members}
use Rattle.oai_json.specs.Json.{array_of, items_of}
use Rattle.oai_json.specs.Tokens.{array_tokens, text_tokens}

-- ---- tokens of a value, nested no deeper than the number

abbrev pub Spell : ℕ → List Token → Data → Type 0
Spell deep ts d = (j : json.Json) × (tree.json_tokens j ≡ ts) × (of_json j ≡ Some d) × (tree.depth j ≤ deep)

abbrev pub SpellItems : ℕ → List Token → Items → Type 0
SpellItems deep ts ds = (js : json.Items) × (tree.items_tokens js ≡ ts) × (of_items js ≡ Some ds) × (tree.items_depth js ≤ deep)

-- behind the members that were found
abbrev pub SpellMembers : ℕ → List Token → Members → Members → Type 0
SpellMembers deep ts found ms = (js : json.Members) × (tree.members_tokens js ≡ ts) × (of_members js found ≡ Some ms) × (tree.members_depth js ≤ deep)

pub text_spelled : (text : List ℕ) → Spell 0 (text_tokens text) (string text)
text_spelled text = (json.string text, refl, refl, omega arith)

pub items_spelled : {A : Type 0} (deep : ℕ) (f : A → List Token) (w : A → Data) → ((x : A) → Spell deep (f x) (w x)) → (xs : List A)
    → SpellItems deep (flat_map f xs ++ Token.end_array ∷ []) (items_of (map w xs))
items_spelled deep f w each [] = (json.no_items, refl, refl, omega arith)
items_spelled deep f w each (x ∷ xs) =
    let one = each x in
    let others = items_spelled deep f w each xs in (
      json.item one.0 others.0,
      ap (λ ts. ts ++ tree.items_tokens others.0) one.1 ∙ ap (λ ts. f x ++ ts) others.1 ∙ sym (append_assoc (f x) (flat_map f xs) (Token.end_array ∷ [])),
      ap (option_and_then (λ d. option_map (item d) (of_items others.0))) one.2 ∙ ap (option_map (item (w x))) others.2,
      omega (arith, one.3, others.3),
    )

pub array_spelled : {A : Type 0} (deep : ℕ) (f : A → List Token) (w : A → Data) → ((x : A) → Spell deep (f x) (w x)) → (xs : List A)
    → Spell (suc deep) (array_tokens f xs) (array_of (map w xs))
array_spelled deep f w each xs =
    let inside = items_spelled deep f w each xs in
    (json.array inside.0, ap (λ ts. Token.begin_array ∷ ts) inside.1, ap (option_map array) inside.2, omega (arith, inside.3))

-- ---- loops

-- one more element
pub one_more : {A : Type 0} (f : A → List Token) (done : List A) (x : A) (all old new : List Token)
    → all ≡ flat_map f done ++ old → old ≡ f x ++ new → all ≡ flat_map f (done ++ x ∷ []) ++ new
one_more f done x all old new so_far taken =
    so_far ∙ ap (λ ts. flat_map f done ++ ts) taken ∙ sym (append_assoc (flat_map f done) (f x) new)
    ∙ ap (λ ts. ts ++ new) (sym (flat_map-append f done (x ∷ []) ∙ ap (λ ts. flat_map f done ++ ts) (append-nil (f x))))

-- no more elements, in an array
pub array_taken : {A : Type 0} (f : A → List Token) (done : List A) (all inside old new : List Token)
    → all ≡ Token.begin_array ∷ inside → inside ≡ flat_map f done ++ old → json.after_end_array old ≡ Some new → all ≡ array_tokens f done ++ new
array_taken f done all inside old new opened so_far closed =
    opened ∙ ap (λ ts. Token.begin_array ∷ ts)
    (so_far ∙ ap (λ ts. flat_map f done ++ ts) (closed_array old new closed) ∙ sym (append_assoc (flat_map f done) (Token.end_array ∷ []) new))
