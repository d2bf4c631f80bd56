-- An element that is whole by itself is whole within a document too: what is declared there changes no name in it.
use Rattle.std.proofs.Common.{◌≡◌, ◌∙◌, ◌+◌, ◌-◌, ◌≤◌, ℕ, suc, Bool, true, false, not, ◌&&◌, ◌||◌, cond, eqb, List, [], ◌∷◌, ◌++◌, length, length-append, codes, Option, None, Some, is_some, refl, sym, ap, append_assoc, append-nil, arith}
use Rattle.std.specs.Prelude.{find, nat_le, reverse}
use Rattle.std.specs.List.{list_all}
use Rattle.std.specs.Option.{option_map, option_or, unwrap_or}
use Rattle.std.specs.Str.{bytes_eq}
use Rattle.std.proofs.lemmas.Bool.{and_from, and_parts, eqb-true}
use Rattle.std.proofs.lemmas.Bool.Decides.{nat_tests}
use Rattle.std.proofs.lemmas.List.{reverse-append}
use Rattle.std.proofs.lemmas.List.Folds.{find-append}
use Rattle.oai_xml.specs.Namespaces.{Declaration, Scope, are_alike, are_unlike, declared, is_bound, is_legal, namespace_of, newest, space_of, xml_namespace, xmlns_namespace}
use Rattle.oai_xml.specs.QNames.{is_prefixed, is_qname, local_of, prefix_of}
use Rattle.oai_xml.specs.Trees.{Attribute, Content, Tree, nothing, byte, element}
use Rattle.oai_xml.specs.Whole.{are_names_whole, has_default, is_content_whole, is_tag_whole, is_whole, is_whole_in, names_of, within}
use Rattle.oai_xml.specs.declared.limits.TheConstants.{MAX_ATTRIBUTES, MAX_DECLARATIONS, MAX_DEPTH}
use Rattle.oai_documents.specs.WellFormed.{declarations_of, fits_in_document, larger, levels_of}

-- ---- names

-- the newest declaration is that of the inner scope, where there is one
newest_behind : (outer scope : Scope) (prefix : List ℕ) → newest (outer ++ scope) prefix ≡ option_or (newest scope prefix) (newest outer prefix)
newest_behind outer scope prefix =
    let named : Declaration → Bool = λ d. bytes_eq d.prefix prefix in
    ap (find named) (reverse-append outer scope) ∙ find-append named (reverse scope) (reverse outer)

still_found : (o other : Option Declaration) (namespace : List ℕ) → option_map (λ (d : Declaration). d.namespace) o ≡ Some namespace
    → option_map (λ (d : Declaration). d.namespace) (option_or o other) ≡ Some namespace
still_found (Some d) other namespace is = is
still_found None other namespace is = absurd cc

pub behind : (outer scope : Scope) (prefix namespace : List ℕ) → namespace_of scope prefix ≡ Some namespace → namespace_of (outer ++ scope) prefix ≡ Some namespace
unfolding namespace_of
behind outer scope prefix namespace is = by_tests (bytes_eq prefix (codes "xml")) (bytes_eq prefix (codes "xmlns")) is
  where
    by_tests : (a b : Bool) → cond a (Some xml_namespace) (cond b (Some xmlns_namespace) (option_map (λ (d : Declaration). d.namespace) (newest scope prefix))) ≡ Some namespace
        → cond a (Some xml_namespace) (cond b (Some xmlns_namespace) (option_map (λ (d : Declaration). d.namespace) (newest (outer ++ scope) prefix))) ≡ Some namespace
    by_tests true b is = is
    by_tests false true is = is
    by_tests false false is =
        ap (option_map (λ (d : Declaration). d.namespace)) (newest_behind outer scope prefix) ∙ still_found (newest scope prefix) (newest outer prefix) namespace is

some_behind : (outer scope : Scope) (prefix : List ℕ) → is_some (namespace_of scope prefix) ≡ true → is_some (namespace_of (outer ++ scope) prefix) ≡ true
some_behind outer scope prefix is = by_found (namespace_of scope prefix) refl is
  where
    by_found : (o : Option (List ℕ)) → namespace_of scope prefix ≡ o → is_some o ≡ true → is_some (namespace_of (outer ++ scope) prefix) ≡ true
    by_found (Some namespace) found is = ap is_some (behind outer scope prefix namespace found)
    by_found None found is = cc

bound_behind : (outer scope : Scope) (name : List ℕ) → is_bound scope name ≡ true → is_bound (outer ++ scope) name ≡ true
unfolding is_bound
bound_behind outer scope name is = by_test (not (is_prefixed name)) is
  where
    by_test : (a : Bool) → (a || is_some (namespace_of scope (prefix_of name))) ≡ true → (a || is_some (namespace_of (outer ++ scope) (prefix_of name))) ≡ true
    by_test true is = refl
    by_test false is = some_behind outer scope (prefix_of name) is

all_bound : (outer scope : Scope) (names : List (List ℕ)) → list_all (is_bound scope) names ≡ true → list_all (is_bound (outer ++ scope)) names ≡ true
all_bound outer scope [] is = refl
all_bound outer scope (name ∷ names) is =
    let parts = and_parts (is_bound scope name) (list_all (is_bound scope) names) is in
    and_from (is_bound (outer ++ scope) name) (list_all (is_bound (outer ++ scope)) names) (bound_behind outer scope name parts.0) (all_bound outer scope names parts.1)

-- a prefix that is bound in the inner scope stands for the same
space_behind : (outer scope : Scope) (name : List ℕ) → is_prefixed name ≡ true → is_bound scope name ≡ true → space_of (outer ++ scope) name ≡ space_of scope name
unfolding is_bound
space_behind outer scope name prefixed is = by_found (namespace_of scope (prefix_of name)) refl (ap (λ b. not b || is_some (namespace_of scope (prefix_of name))) (sym prefixed) ∙ is)
  where
    by_found : (o : Option (List ℕ)) → namespace_of scope (prefix_of name) ≡ o → is_some (namespace_of scope (prefix_of name)) ≡ true
        → unwrap_or (namespace_of (outer ++ scope) (prefix_of name)) [] ≡ unwrap_or (namespace_of scope (prefix_of name)) []
    by_found (Some namespace) found is =
        ap (λ (o : Option (List ℕ)). unwrap_or o []) (behind outer scope (prefix_of name) namespace found) ∙ ap (λ (o : Option (List ℕ)). unwrap_or o []) (sym found)
    by_found None found is = let none : is_some (namespace_of scope (prefix_of name)) ≡ false = ap is_some found in cc

-- ---- attributes that may not stand together

alike_so : (same p q locals : Bool) (a b c d : List ℕ) → (p ≡ true → a ≡ c) → (q ≡ true → b ≡ d)
    → (same || (p && q && locals && bytes_eq a b)) ≡ (same || (p && q && locals && bytes_eq c d))
alike_so same true true locals a b c d first second =
    ap (λ (w : List ℕ). same || (true && true && locals && bytes_eq w b)) (first refl) ∙ ap (λ (w : List ℕ). same || (true && true && locals && bytes_eq c w)) (second refl)
alike_so same true false locals a b c d first second = refl
alike_so same false q locals a b c d first second = refl

alike_behind : (outer scope : Scope) (name other : List ℕ) → is_bound scope name ≡ true → is_bound scope other ≡ true → are_alike (outer ++ scope) name other ≡ are_alike scope name other
unfolding are_alike
alike_behind outer scope name other one two =
    alike_so (bytes_eq name other) (is_prefixed name) (is_prefixed other) (bytes_eq (local_of name) (local_of other))
    (space_of (outer ++ scope) name) (space_of (outer ++ scope) other) (space_of scope name) (space_of scope other)
    (λ prefixed. space_behind outer scope name prefixed one) (λ prefixed. space_behind outer scope other prefixed two)

unlike_each : (outer scope : Scope) (name : List ℕ) (others : List (List ℕ)) → is_bound scope name ≡ true → list_all (is_bound scope) others ≡ true
    → list_all (λ other. not (are_alike (outer ++ scope) name other)) others ≡ list_all (λ other. not (are_alike scope name other)) others
unlike_each outer scope name [] one all = refl
unlike_each outer scope name (other ∷ others) one all =
    let parts = and_parts (is_bound scope other) (list_all (is_bound scope) others) all in
    ap (λ (b : Bool). not b && list_all (λ o. not (are_alike (outer ++ scope) name o)) others) (alike_behind outer scope name other one parts.0)
    ∙ ap (λ (b : Bool). not (are_alike scope name other) && b) (unlike_each outer scope name others one parts.1)

unlike_behind : (outer scope : Scope) (names : List (List ℕ)) → list_all (is_bound scope) names ≡ true → are_unlike (outer ++ scope) names ≡ are_unlike scope names
unfolding are_unlike
unlike_behind outer scope [] all = refl
unlike_behind outer scope (name ∷ names) all =
    let parts = and_parts (is_bound scope name) (list_all (is_bound scope) names) all in
    ap (λ (b : Bool). b && are_unlike (outer ++ scope) names) (unlike_each outer scope name names parts.0 parts.1)
    ∙ ap (λ (b : Bool). list_all (λ other. not (are_alike scope name other)) names && b) (unlike_behind outer scope names parts.1)

-- ---- tags

-- what is asked of the names of a tag
record AreWhole (scope : Scope) (declarations : List Declaration) (name : List ℕ) (names : List (List ℕ)) : Type 0 where
  pub default : has_default scope ≡ true
  pub few : nat_le (length names) MAX_ATTRIBUTES ≡ true
  pub legal : list_all is_legal declarations ≡ true
  pub other : not (bytes_eq (prefix_of name) (codes "xmlns")) ≡ true
  pub own : is_bound scope name ≡ true
  pub all : list_all (is_bound scope) names ≡ true
  pub unlike : are_unlike scope names ≡ true

names_are : (scope : Scope) (declarations : List Declaration) (name : List ℕ) (names : List (List ℕ)) → are_names_whole scope declarations name names ≡ true → AreWhole scope declarations name names
unfolding are_names_whole
names_are scope declarations name names is =
    let default = and_parts (has_default scope) _ is in
    let unlike = and_parts _ (are_unlike scope names) default.1 in
    let all = and_parts _ (list_all (is_bound scope) names) unlike.0 in
    let own = and_parts _ (is_bound scope name) all.0 in
    let other = and_parts _ (not (bytes_eq (prefix_of name) (codes "xmlns"))) own.0 in
    let legal = and_parts _ (list_all is_legal declarations) other.0 in
    let few = and_parts (nat_le (length names) MAX_ATTRIBUTES) (nat_le (length scope) MAX_DECLARATIONS) legal.0 in
    record { default = default.0; few = few.0; legal = legal.1; other = other.1; own = own.1; all = all.1; unlike = unlike.1 }

names_whole : (scope : Scope) (declarations : List Declaration) (name : List ℕ) (names : List (List ℕ)) → nat_le (length scope) MAX_DECLARATIONS ≡ true
    → AreWhole scope declarations name names → are_names_whole scope declarations name names ≡ true
unfolding are_names_whole
names_whole scope declarations name names few w = rw (w.default, w.few, few, w.legal, w.other, w.own, w.all, w.unlike) refl

names_behind : (outer scope : Scope) (declarations : List Declaration) (name : List ℕ) (names : List (List ℕ)) → nat_le (length (outer ++ scope)) MAX_DECLARATIONS ≡ true
    → are_names_whole scope declarations name names ≡ true → are_names_whole (outer ++ scope) declarations name names ≡ true
names_behind outer scope declarations name names few is =
    let w = names_are scope declarations name names is in
    names_whole (outer ++ scope) declarations name names few (record {
      default = some_behind outer scope [] w.default;
      few = w.few;
      legal = w.legal;
      other = w.other;
      own = bound_behind outer scope name w.own;
      all = all_bound outer scope names w.all;
      unlike = unlike_behind outer scope names w.all ∙ w.unlike;
    })

tag_behind : (outer scope : Scope) (name : List ℕ) (attributes : List Attribute) → nat_le (length (outer ++ within scope attributes)) MAX_DECLARATIONS ≡ true
    → is_tag_whole scope name attributes ≡ true → is_tag_whole (outer ++ scope) name attributes ≡ true
unfolding is_tag_whole
tag_behind outer scope name attributes few is =
    let parts = and_parts (is_qname name && list_all is_qname (names_of attributes)) (are_names_whole (within scope attributes) (declared attributes) name (names_of attributes)) is in
    and_from (is_qname name && list_all is_qname (names_of attributes)) _ parts.0
    (ap (λ (s : Scope). are_names_whole s (declared attributes) name (names_of attributes)) (append_assoc outer scope (declared attributes))
    ∙ names_behind outer (within scope attributes) (declared attributes) name (names_of attributes) few parts.1)

-- ---- contents

larger_both : (a b n : ℕ) → larger a b ≤ n → (a ≤ n) × (b ≤ n)
larger_both a b n h = by_test (nat_le a b) refl h
  where
    by_test : (t : Bool) → nat_le a b ≡ t → cond t b a ≤ n → (a ≤ n) × (b ≤ n)
    by_test true is h = let less : a ≤ b = grind (arith, nat_tests, is) in (omega (arith, less, h), h)
    by_test false is h = let more : b ≤ a = grind (arith, nat_tests, is) in (h, omega (arith, more, h))

-- few enough declarations are in force within the tag
few_within : (outer scope : Scope) (attributes : List Attribute) (more : ℕ) → length outer + length scope + (length (declared attributes) + more) ≤ MAX_DECLARATIONS
    → (nat_le (length (outer ++ within scope attributes)) MAX_DECLARATIONS ≡ true) × (length outer + length (within scope attributes) + more ≤ MAX_DECLARATIONS)
few_within outer scope attributes more h =
    let one : length (outer ++ within scope attributes) ≡ length outer + length (within scope attributes) = length-append outer (within scope attributes) in
    let two : length (within scope attributes) ≡ length scope + length (declared attributes) = length-append scope (declared attributes) in
    let all : length (outer ++ within scope attributes) ≤ MAX_DECLARATIONS = omega (arith, one, two, h) in
    (grind (arith, nat_tests, all), omega (arith, two, h))

some_left : (n levels : ℕ) → suc n ≤ levels → (not (eqb levels 0) ≡ true) × (n ≤ levels - 1)
some_left n levels h = (not_none (eqb levels 0) (eqb-true levels 0), omega (arith, h))
  where
    not_none : (b : Bool) → (b ≡ true → levels ≡ 0) → not b ≡ true
    not_none true none = let zero_left : levels ≡ 0 = none refl in absurd (omega (arith, zero_left, h))
    not_none false none = refl

content_behind : (c : Content) (levels fewer : ℕ) (outer scope : Scope) → levels_of c ≤ fewer → length outer + length scope + declarations_of c ≤ MAX_DECLARATIONS
    → is_content_whole levels scope c ≡ true → is_content_whole fewer (outer ++ scope) c ≡ true
unfolding is_content_whole levels_of declarations_of
content_behind nothing levels fewer outer scope deep many is = refl
content_behind (byte b rest) levels fewer outer scope deep many is = content_behind rest levels fewer outer scope deep many is
content_behind (element n a i r) levels fewer outer scope deep many is =
    let later = and_parts (not (eqb levels 0) && is_tag_whole scope n a && is_content_whole (levels - 1) (within scope a) i) (is_content_whole levels scope r) is in
    let inside = and_parts (not (eqb levels 0) && is_tag_whole scope n a) (is_content_whole (levels - 1) (within scope a) i) later.0 in
    let tag = and_parts (not (eqb levels 0)) (is_tag_whole scope n a) inside.0 in
    let depths = larger_both (suc (levels_of i)) (levels_of r) fewer deep in
    let left = some_left (levels_of i) fewer depths.0 in
    let counts = larger_both (length (declared a) + declarations_of i) (declarations_of r) (MAX_DECLARATIONS - (length outer + length scope)) (omega (arith, many)) in
    let few = few_within outer scope a (declarations_of i) (omega (arith, many, counts.0)) in
    let own : is_tag_whole (outer ++ scope) n a ≡ true = tag_behind outer scope n a few.0 tag.1 in
    let within_it : is_content_whole (fewer - 1) (within (outer ++ scope) a) i ≡ true =
    ap (λ (s : Scope). is_content_whole (fewer - 1) s i) (append_assoc outer scope (declared a)) ∙ content_behind i (levels - 1) (fewer - 1) outer (within scope a) left.1 few.1 inside.1 in
    and_from _ (is_content_whole fewer (outer ++ scope) r)
    (and_from _ (is_content_whole (fewer - 1) (within (outer ++ scope) a) i) (and_from (not (eqb fewer 0)) (is_tag_whole (outer ++ scope) n a) left.0 own) within_it)
    (content_behind r levels fewer outer scope depths.1 (omega (arith, many, counts.1)) later.1)

-- ---- elements

-- within two declarations, where 124 levels may still come
pub element_behind : (outer : Scope) (t : Tree) → length outer ≡ 2 → fits_in_document t ≡ true → is_whole t ≡ true → is_whole_in 124 outer t ≡ true
unfolding is_whole_in
element_behind outer t two room is =
    let rooms = and_parts (nat_le (levels_of t.content) 123) (nat_le (length (declared t.attributes) + declarations_of t.content) 126) room in
    let deep : levels_of t.content ≤ 123 = grind (arith, nat_tests, rooms.0) in
    let many : length (declared t.attributes) + declarations_of t.content ≤ 126 = grind (arith, nat_tests, rooms.1) in
    let inside = and_parts (not (eqb MAX_DEPTH 0) && is_tag_whole [] t.name t.attributes) (is_content_whole (MAX_DEPTH - 1) (within [] t.attributes) t.content) is in
    let tag = and_parts (not (eqb MAX_DEPTH 0)) (is_tag_whole [] t.name t.attributes) inside.0 in
    let few = few_within outer [] t.attributes (declarations_of t.content) (omega (arith, two, many)) in
    let own : is_tag_whole outer t.name t.attributes ≡ true = ap (λ (s : Scope). is_tag_whole s t.name t.attributes) (sym (append-nil outer)) ∙ tag_behind outer [] t.name t.attributes few.0 tag.1 in
    and_from _ (is_content_whole 123 (within outer t.attributes) t.content) (and_from true (is_tag_whole outer t.name t.attributes) refl own)
    (content_behind t.content (MAX_DEPTH - 1) 123 outer (within [] t.attributes) deep few.1 inside.1)

-- the same, where one level more may come
pub element_behind_more : (outer : Scope) (t : Tree) → length outer ≡ 2 → fits_in_document t ≡ true → is_whole t ≡ true → is_whole_in 125 outer t ≡ true
unfolding is_whole_in
element_behind_more outer t two room is =
    let rooms = and_parts (nat_le (levels_of t.content) 123) (nat_le (length (declared t.attributes) + declarations_of t.content) 126) room in
    let deep : levels_of t.content ≤ 124 = grind (arith, nat_tests, rooms.0) in
    let many : length (declared t.attributes) + declarations_of t.content ≤ 126 = grind (arith, nat_tests, rooms.1) in
    let inside = and_parts (not (eqb MAX_DEPTH 0) && is_tag_whole [] t.name t.attributes) (is_content_whole (MAX_DEPTH - 1) (within [] t.attributes) t.content) is in
    let tag = and_parts (not (eqb MAX_DEPTH 0)) (is_tag_whole [] t.name t.attributes) inside.0 in
    let few = few_within outer [] t.attributes (declarations_of t.content) (omega (arith, two, many)) in
    let own : is_tag_whole outer t.name t.attributes ≡ true = ap (λ (s : Scope). is_tag_whole s t.name t.attributes) (sym (append-nil outer)) ∙ tag_behind outer [] t.name t.attributes few.0 tag.1 in
    and_from _ (is_content_whole 124 (within outer t.attributes) t.content) (and_from true (is_tag_whole outer t.name t.attributes) refl own)
    (content_behind t.content (MAX_DEPTH - 1) 124 outer (within [] t.attributes) deep few.1 inside.1)
