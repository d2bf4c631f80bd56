-- The spelling of a tree can be cut off what follows, whatever its namespaces are: of its names it is asked only that each byte is one of a name.
use Rattle.std.proofs.Common.{◌≡◌, ◌∙◌, ℕ, Bool, true, false, not, ◌&&◌, ◌-◌, eqb, cond, List, [], ◌∷◌, ◌++◌, refl, sym, ap}
use Rattle.std.specs.List.{flat_map, list_all}
use Rattle.std.proofs.lemmas.Bool.{and_from, and_parts, cond-false, cond-true, eqb-true, true≢false}
use Rattle.std.proofs.lemmas.List.{append_assoc, append_cancel_left}
use Rattle.oai_names.specs.Escapes.{escaped_attribute, text_spelling}
use Rattle.oai_names.proofs.Cuts.{Cuts, Next, anything, at, begins, behind, both, closed, each, map_same, of_part, pair, read_back, seen_as, seen_same, where_good, written_as}
use Rattle.oai_names.proofs.EscapeCuts.{text_byte_cut, text_goes_on, value_cut}
use Rattle.oai_xml.specs.Namespaces.{Scope}
use Rattle.oai_xml.specs.QNames.{is_name_byte, is_qname}
use Rattle.oai_xml.specs.Trees.{Attribute, Content, Tree, nothing, byte, element, spelled, spelled_attribute, spelled_content, start_tag, end_tag}
use Rattle.oai_xml.specs.Whole.{is_content_whole, is_tag_whole, is_whole_in, names_of, within}
use Rattle.oai_xml.proofs.Spellings.{byte_spelled, element_spelled, tree_spelled}
use Rattle.oai_xml.proofs.TagBacks.{named}

-- ---- a run of bytes, up to one of others

abbrev pub ends : (ℕ → Bool) → Next
ends p [] = false
ends p (x ∷ rest) = not (p x)

abbrev consed : ℕ → List ℕ × List ℕ → List ℕ × List ℕ
consed x parts = (x ∷ parts.0, parts.1)

run_of : (ℕ → Bool) → List ℕ → List ℕ × List ℕ
run_of p [] = ([], [])
run_of p (x ∷ bytes) = cond (p x) (consed x (run_of p bytes)) (pair [] (x ∷ bytes))

is_not : (t : Bool) → not t ≡ true → t ≡ false
is_not true h = cc
is_not false h = refl

run_back : (p : ℕ → Bool) (run rest : List ℕ) → list_all p run ≡ true → ends p rest ≡ true → run_of p (run ++ rest) ≡ pair run rest
unfolding run_of
run_back p [] [] all end = cc
run_back p [] (x ∷ rest) all end = cond-false (p x) (consed x (run_of p rest)) (pair [] (x ∷ rest)) (is_not (p x) end)
run_back p (x ∷ run) rest all end =
    let parts = and_parts (p x) (list_all p run) all in
    cond-true (p x) (consed x (run_of p (run ++ rest))) (pair [] (x ∷ (run ++ rest))) parts.0 ∙ ap (consed x) (run_back p run rest parts.1 end)

run_cut : (p : ℕ → Bool) → Cuts (ends p) (list_all p) (λ (run : List ℕ). run) (λ run. run)
run_cut p = read_back (run_of p) (λ run rest all end. run_back p run rest all end)

-- ---- tags

abbrev pub is_named : List ℕ → Bool
is_named name = list_all is_name_byte name

abbrev pub is_named_attribute : Attribute → Bool
is_named_attribute a = is_named a.name

attribute_shape : (a : Attribute) → spelled_attribute a ≡ (32 ∷ []) ++ a.name ++ (61 ∷ 34 ∷ []) ++ escaped_attribute a.value ++ (34 ∷ [])
unfolding spelled_attribute
attribute_shape a =
    sym (ap (λ (w : List ℕ). 32 ∷ w) (append_assoc (a.name ++ 61 ∷ 34 ∷ []) (escaped_attribute a.value) (34 ∷ []) ∙ append_assoc a.name (61 ∷ 34 ∷ []) (escaped_attribute a.value ++ 34 ∷ [])))

attribute_cut : Cuts anything is_named_attribute spelled_attribute (λ a. a)
attribute_cut =
    let name = behind (32 ∷ []) (of_part (λ (a : Attribute). a.name) (run_cut is_name_byte)) in
    let opened = closed {next = anything} (λ _. 61 ∷ 34 ∷ []) name (λ a rest _ _. refl) in
    let value = both opened (where_good {better = is_named_attribute} (λ a _. refl) (of_part (λ (a : Attribute). a.value) value_cut)) (λ a rest _ _. refl) in
    written_as attribute_shape (seen_as (λ s. record { name = s.0; value = s.1 }) (closed (λ _. 34 ∷ []) value (λ a rest _ _. refl)))

attribute_goes_on : (a : Attribute) (rest : List ℕ) → at 62 (spelled_attribute a ++ rest) ≡ false
unfolding spelled_attribute
attribute_goes_on a rest = refl

attributes_cut : Cuts (at 62) (list_all is_named_attribute) (flat_map spelled_attribute) (λ attributes. attributes)
attributes_cut = seen_same map_same (each attribute_cut (record { goes_on = λ a rest _. attribute_goes_on a rest; near_more = λ a rest _. refl; near_end = λ rest _. refl }))

abbrev pub Tag : Type 0
Tag = List ℕ × List Attribute

abbrev pub is_named_tag : Tag → Bool
is_named_tag tag = is_named tag.0 && list_all is_named_attribute tag.1

tag_shape : (tag : Tag) → start_tag tag.0 tag.1 ≡ (60 ∷ []) ++ tag.0 ++ flat_map spelled_attribute tag.1 ++ (62 ∷ [])
unfolding start_tag
tag_shape tag = sym (ap (λ (w : List ℕ). 60 ∷ w) (append_assoc tag.0 (flat_map spelled_attribute tag.1) (62 ∷ [])))

ended : (rest : List ℕ) → at 62 rest ≡ true → ends is_name_byte rest ≡ true
ended [] h = cc
ended (x ∷ rest) h = by_byte (eqb x 62) h (eqb-true x 62)
  where
    by_byte : (b : Bool) → b ≡ true → (b ≡ true → x ≡ 62) → not (is_name_byte x) ≡ true
    by_byte true h is = ap (λ (n : ℕ). not (is_name_byte n)) (is refl)
    by_byte false h is = cc

name_ends : (attributes : List Attribute) (rest : List ℕ) → at 62 rest ≡ true → ends is_name_byte (flat_map spelled_attribute attributes ++ rest) ≡ true
unfolding spelled_attribute
name_ends [] rest h = ended rest h
name_ends (a ∷ attributes) rest h = refl

name_good : (tag : Tag) → is_named_tag tag ≡ true → is_named tag.0 ≡ true
name_good tag h = (and_parts (is_named tag.0) (list_all is_named_attribute tag.1) h).0

attributes_good : (tag : Tag) → is_named_tag tag ≡ true → list_all is_named_attribute tag.1 ≡ true
attributes_good tag h = (and_parts (is_named tag.0) (list_all is_named_attribute tag.1) h).1

tag_cut : Cuts anything is_named_tag (λ (tag : Tag). start_tag tag.0 tag.1) (λ tag. tag)
tag_cut =
    let name = behind (60 ∷ []) (where_good name_good (of_part (λ (tag : Tag). tag.0) (run_cut is_name_byte))) in
    let attributes = both name (where_good attributes_good (of_part (λ (tag : Tag). tag.1) attributes_cut)) (λ tag rest _ at_end. name_ends tag.1 rest at_end) in
    written_as tag_shape (closed (λ _. 62 ∷ []) attributes (λ tag rest _ _. refl))

-- ---- contents

-- an end tag follows
abbrev pub closes : Next
closes = begins (60 ∷ 47 ∷ [])

unfoldable pub content_named : Content → Bool
content_named nothing = true
content_named (byte b rest) = content_named rest
content_named (element name attributes inside rest) = is_named_tag (name, attributes) && (content_named inside && content_named rest)

abbrev pub tree_named : Tree → Bool
tree_named t = is_named_tag (t.name, t.attributes) && content_named t.content

end_closes : (name rest : List ℕ) → closes (end_tag name ++ rest) ≡ true
unfolding end_tag
end_closes name rest = refl

-- what an end tag begins with
closing : (rest : List ℕ) → closes rest ≡ true → at 60 rest ≡ true
closing [] h = cc
closing (x ∷ rest) h = (and_parts (eqb x 60) (begins (47 ∷ []) rest) h).0

-- no start tag does
no_slash : (name rest : List ℕ) → is_named name ≡ true → begins (47 ∷ []) rest ≡ false → begins (47 ∷ []) (name ++ rest) ≡ false
no_slash [] rest h other = other
no_slash (x ∷ name) rest h other = by_byte (eqb x 47) (eqb-true x 47) (and_parts (is_name_byte x) (is_named name) h).0
  where
    by_byte : (b : Bool) → (b ≡ true → x ≡ 47) → is_name_byte x ≡ true → (b && true) ≡ false
    by_byte true is name = absurd (true≢false (sym name ∙ ap is_name_byte (is refl)))
    by_byte false is name = refl

no_slash_behind : (attributes : List Attribute) (rest : List ℕ) → begins (47 ∷ []) (flat_map spelled_attribute attributes ++ 62 ∷ rest) ≡ false
unfolding spelled_attribute
no_slash_behind [] rest = refl
no_slash_behind (a ∷ attributes) rest = refl

start_not_closes : (name : List ℕ) (attributes : List Attribute) (rest : List ℕ) → is_named name ≡ true → closes (start_tag name attributes ++ rest) ≡ false
unfolding start_tag
start_not_closes name attributes rest h =
    ap (begins (47 ∷ [])) (append_assoc name (flat_map spelled_attribute attributes ++ 62 ∷ []) rest)
    ∙ no_slash name ((flat_map spelled_attribute attributes ++ 62 ∷ []) ++ rest) h
    (ap (begins (47 ∷ [])) (append_assoc (flat_map spelled_attribute attributes) (62 ∷ []) rest) ∙ no_slash_behind attributes rest)

start_opens : (name : List ℕ) (attributes : List Attribute) (rest : List ℕ) → at 60 (start_tag name attributes ++ rest) ≡ true
unfolding start_tag
start_opens name attributes rest = refl

-- the parts of contents that an element begins, and what follows them
parts : (n : List ℕ) (a : List Attribute) (i r : Content) (x : List ℕ)
    → spelled_content (element n a i r) ++ x ≡ start_tag n a ++ (spelled_content i ++ (end_tag n ++ (spelled_content r ++ x)))
parts n a i r x =
    ap (λ (w : List ℕ). w ++ x) (element_spelled n a i r)
    ∙ append_assoc (start_tag n a) (spelled_content i ++ (end_tag n ++ spelled_content r)) x
    ∙ ap (λ (w : List ℕ). start_tag n a ++ w)
    (append_assoc (spelled_content i) (end_tag n ++ spelled_content r) x ∙ ap (λ (w : List ℕ). spelled_content i ++ w) (append_assoc (end_tag n) (spelled_content r) x))

byte_parts : (b : ℕ) (r : Content) (x : List ℕ) → spelled_content (byte b r) ++ x ≡ text_spelling b ++ (spelled_content r ++ x)
byte_parts b r x = ap (λ (w : List ℕ). w ++ x) (byte_spelled b r) ∙ append_assoc (text_spelling b) (spelled_content r) x

nothing_parts : (x : List ℕ) → spelled_content nothing ++ x ≡ x
unfolding spelled_content
nothing_parts x = refl

-- a text begins neither an end tag nor a start tag, and a start tag is no end tag
text_apart : (b : ℕ) (rest more : List ℕ) → at 60 more ≡ true → text_spelling b ++ rest ≡ more → ⊥
text_apart b rest more h same = true≢false (sym h ∙ ap (at 60) (sym same) ∙ text_goes_on b rest)

tag_apart : (n : List ℕ) (a : List Attribute) (rest more : List ℕ) → is_named n ≡ true → closes more ≡ true → start_tag n a ++ rest ≡ more → ⊥
tag_apart n a rest more h end same = true≢false (sym end ∙ ap closes (sym same) ∙ start_not_closes n a rest h)

same_element : {p q : Tag} {i j r s : Content} → p ≡ q → i ≡ j → r ≡ s → element p.0 p.1 i r ≡ element q.0 q.1 j s
same_element tag inside rest = λ k. element (tag k).0 (tag k).1 (inside k) (rest k)

tag_of : (n : List ℕ) (a : List Attribute) (i r : Content) → content_named (element n a i r) ≡ true
    → (is_named_tag (n, a) ≡ true) × (content_named i ≡ true) × (content_named r ≡ true)
unfolding content_named
tag_of n a i r h =
    let first = and_parts (is_named_tag (n, a)) (content_named i && content_named r) h in
    let second = and_parts (content_named i) (content_named r) first.1 in
    (first.0, second.0, second.1)

byte_of : (b : ℕ) (r : Content) → content_named (byte b r) ≡ true → content_named r ≡ true
unfolding content_named
byte_of b r h = h

pub content_cut : (c d : Content) (x y : List ℕ) → content_named c ≡ true → content_named d ≡ true → closes x ≡ true → closes y ≡ true
    → spelled_content c ++ x ≡ spelled_content d ++ y → (c ≡ d) × (x ≡ y)
content_cut nothing nothing x y gc gd nx ny same = (refl, sym (nothing_parts x) ∙ same ∙ nothing_parts y)
content_cut nothing (byte b s) x y gc gd nx ny same = absurd (text_apart b (spelled_content s ++ y) x (closing x nx) (sym (byte_parts b s y) ∙ sym same ∙ nothing_parts x))
content_cut nothing (element m b j s) x y gc gd nx ny same =
    let good = tag_of m b j s gd in
    absurd (tag_apart m b _ x (name_good (m, b) good.0) nx (sym (parts m b j s y) ∙ sym same ∙ nothing_parts x))
content_cut (byte b r) nothing x y gc gd nx ny same = absurd (text_apart b (spelled_content r ++ x) y (closing y ny) (sym (byte_parts b r x) ∙ same ∙ nothing_parts y))
content_cut (byte b r) (byte c s) x y gc gd nx ny same =
    let first = text_byte_cut.cut b c (spelled_content r ++ x) (spelled_content s ++ y) refl refl refl refl (sym (byte_parts b r x) ∙ same ∙ byte_parts c s y) in
    let others = content_cut r s x y (byte_of b r gc) (byte_of c s gd) nx ny first.1 in
    (λ k. byte (first.0 k) (others.0 k), others.1)
content_cut (byte b r) (element m d j s) x y gc gd nx ny same =
    absurd (text_apart b (spelled_content r ++ x) _ (start_opens m d _) (sym (byte_parts b r x) ∙ same ∙ parts m d j s y))
content_cut (element n a i r) nothing x y gc gd nx ny same =
    let good = tag_of n a i r gc in
    absurd (tag_apart n a _ y (name_good (n, a) good.0) ny (sym (parts n a i r x) ∙ same ∙ nothing_parts y))
content_cut (element n a i r) (byte c s) x y gc gd nx ny same =
    absurd (text_apart c (spelled_content s ++ y) _ (start_opens n a _) (sym (byte_parts c s y) ∙ sym same ∙ parts n a i r x))
content_cut (element n a i r) (element m b j s) x y gc gd nx ny same =
    let one = tag_of n a i r gc in
    let other = tag_of m b j s gd in
    let tags = tag_cut.cut (n, a) (m, b) _ _ one.0 other.0 refl refl (sym (parts n a i r x) ∙ same ∙ parts m b j s y) in
    let within_them = content_cut i j _ _ one.1 other.1 (end_closes n (spelled_content r ++ x)) (end_closes m (spelled_content s ++ y)) tags.1 in
    let name : n ≡ m = ap (λ (t : Tag). t.0) tags.0 in
    let behind_them = content_cut r s x y one.2 other.2 nx ny
    (append_cancel_left (end_tag n) (spelled_content r ++ x) (spelled_content s ++ y) (within_them.1 ∙ ap (λ (w : List ℕ). end_tag w ++ (spelled_content s ++ y)) (sym name)))
    in
    (same_element tags.0 within_them.0 behind_them.0, behind_them.1)

-- ---- trees

tree_parts : (t : Tree) (x : List ℕ) → spelled t ++ x ≡ start_tag t.name t.attributes ++ (spelled_content t.content ++ (end_tag t.name ++ x))
tree_parts t x =
    ap (λ (w : List ℕ). w ++ x) (tree_spelled t) ∙ append_assoc (start_tag t.name t.attributes) (spelled_content t.content ++ end_tag t.name) x
    ∙ ap (λ (w : List ℕ). start_tag t.name t.attributes ++ w) (append_assoc (spelled_content t.content) (end_tag t.name) x)

made : List ℕ → List Attribute → Content → Tree
made name attributes content = record { name = name; attributes = attributes; content = content }

pub tree_cut : (t u : Tree) (x y : List ℕ) → tree_named t ≡ true → tree_named u ≡ true → spelled t ++ x ≡ spelled u ++ y → (t ≡ u) × (x ≡ y)
unfolding made
tree_cut t u x y gt gu same =
    let one = and_parts (is_named_tag (t.name, t.attributes)) (content_named t.content) gt in
    let other = and_parts (is_named_tag (u.name, u.attributes)) (content_named u.content) gu in
    let tags = tag_cut.cut (t.name, t.attributes) (u.name, u.attributes) _ _ one.0 other.0 refl refl (sym (tree_parts t x) ∙ same ∙ tree_parts u y) in
    let inside = content_cut t.content u.content _ _ one.1 other.1 (end_closes t.name x) (end_closes u.name y) tags.1 in
    let name : t.name ≡ u.name = ap (λ (tag : Tag). tag.0) tags.0 in (
      λ k. made (tags.0 k).0 (tags.0 k).1 (inside.0 k),
      append_cancel_left (end_tag t.name) x y (inside.1 ∙ ap (λ (w : List ℕ). end_tag w ++ y) (sym name)),
    )

-- ---- a whole tree has such names

attributes_named : (attributes : List Attribute) → list_all is_qname (names_of attributes) ≡ true → list_all is_named_attribute attributes ≡ true
attributes_named [] h = refl
attributes_named (a ∷ attributes) h =
    let both_of = and_parts (is_qname a.name) (list_all is_qname (names_of attributes)) h in
    and_from (is_named_attribute a) (list_all is_named_attribute attributes) (named a.name both_of.0) (attributes_named attributes both_of.1)

tag_named : (scope : Scope) (name : List ℕ) (attributes : List Attribute) → is_tag_whole scope name attributes ≡ true → is_named_tag (name, attributes) ≡ true
unfolding is_tag_whole
tag_named scope name attributes h =
    let names = (and_parts (is_qname name && list_all is_qname (names_of attributes)) _ h).0 in
    let two = and_parts (is_qname name) (list_all is_qname (names_of attributes)) names in
    and_from (is_named name) (list_all is_named_attribute attributes) (named name two.0) (attributes_named attributes two.1)

whole_content_named : (levels : ℕ) (scope : Scope) (c : Content) → is_content_whole levels scope c ≡ true → content_named c ≡ true
unfolding is_content_whole content_named
whole_content_named levels scope nothing h = refl
whole_content_named levels scope (byte b rest) h = whole_content_named levels scope rest h
whole_content_named levels scope (element n a i r) h =
    let behind_it = and_parts (not (eqb levels 0) && is_tag_whole scope n a && is_content_whole (levels - 1) (within scope a) i) (is_content_whole levels scope r) h in
    let inside = and_parts (not (eqb levels 0) && is_tag_whole scope n a) (is_content_whole (levels - 1) (within scope a) i) behind_it.0 in
    let tag = and_parts (not (eqb levels 0)) (is_tag_whole scope n a) inside.0 in
    and_from (is_named_tag (n, a)) (content_named i && content_named r) (tag_named scope n a tag.1)
    (and_from (content_named i) (content_named r) (whole_content_named (levels - 1) (within scope a) i inside.1) (whole_content_named levels scope r behind_it.1))

pub whole_named : (levels : ℕ) (scope : Scope) (t : Tree) → is_whole_in levels scope t ≡ true → tree_named t ≡ true
unfolding is_whole_in
whole_named levels scope t h =
    let inside = and_parts (not (eqb levels 0) && is_tag_whole scope t.name t.attributes) (is_content_whole (levels - 1) (within scope t.attributes) t.content) h in
    let tag = and_parts (not (eqb levels 0)) (is_tag_whole scope t.name t.attributes) inside.0 in
    and_from (is_named_tag (t.name, t.attributes)) (content_named t.content) (tag_named scope t.name t.attributes tag.1)
    (whole_content_named (levels - 1) (within scope t.attributes) t.content inside.1)
