-- The tree of fields determines them, and what is seen of their format.
use Rattle.std.proofs.Common.{◌≡◌, ◌∙◌, ℕ, Bool, true, false, cond, eqb, List, [], ◌∷◌, ◌++◌, map, length, codes, refl, sym, ap}
use Rattle.std.specs.Str.{bytes_eq}
use Rattle.std.proofs.lemmas.Bool.{true≢false}
use Rattle.std.proofs.lemmas.List.{append_cancel_left}
use Rattle.oai_item.specs.declared.fields.Field.{Field}
use Rattle.oai_item.specs.declared.formats.Format.{Format}
use Rattle.oai_xml.specs.Trees.{Attribute, Tree, text_of}
use Rattle.oai_answers.specs.ElementParts.{in_order}
use Rattle.oai_answers.specs.MetadataTrees.{declared_attributes, declared_tree, dublin_core_attributes, dublin_core_tree, field_tree, fields_tree}
use Rattle.oai_answers.specs.Seen.{format_seen, seen_declared, seen_dublin_core}

-- ---- texts and fields

texts_same : (text other : List ℕ) → text_of text ≡ text_of other → text ≡ other
unfolding text_of
texts_same [] [] same = refl
texts_same [] (b ∷ other) same = absurd cc
texts_same (b ∷ text) [] same = absurd cc
texts_same (b ∷ text) (c ∷ other) same =
    let first : b ≡ c = cc in
    let rest : text_of text ≡ text_of other = cc in
    ap (λ (n : ℕ). n ∷ text) first ∙ ap (λ (bs : List ℕ). c ∷ bs) (texts_same text other rest)

made : List ℕ → List ℕ → Field
made name text = record { name = name; text = text }

field_same : (qualifier : List ℕ) (x y : Field) → qualifier ++ x.name ≡ qualifier ++ y.name → text_of x.text ≡ text_of y.text → x ≡ y
unfolding made
field_same qualifier x y names texts =
    ap (λ (n : List ℕ). made n x.text) (append_cancel_left qualifier x.name y.name names) ∙ ap (made y.name) (texts_same x.text y.text texts)

trees_same : (qualifier : List ℕ) (xs ys : List Field) → in_order (map (field_tree qualifier) xs) ≡ in_order (map (field_tree qualifier) ys) → xs ≡ ys
unfolding in_order field_tree
trees_same qualifier [] [] same = refl
trees_same qualifier [] (y ∷ ys) same = absurd cc
trees_same qualifier (x ∷ xs) [] same = absurd cc
trees_same qualifier (x ∷ xs) (y ∷ ys) same =
    let names : qualifier ++ x.name ≡ qualifier ++ y.name = cc in
    let texts : text_of x.text ≡ text_of y.text = cc in
    let others : in_order (map (field_tree qualifier) xs) ≡ in_order (map (field_tree qualifier) ys) = cc in
    ap (λ (f : Field). f ∷ xs) (field_same qualifier x y names texts) ∙ ap (λ (fs : List Field). y ∷ fs) (trees_same qualifier xs ys others)

-- ---- attributes of a start tag

first_value : List Attribute → List ℕ
first_value [] = []
first_value (a ∷ attributes) = a.value

third_value : List Attribute → List ℕ
third_value (a ∷ b ∷ c ∷ attributes) = c.value
third_value attributes = []

-- a declared format has three, and oai_dc four
three : (f : Format) → length (declared_attributes f) ≡ 3
unfolding declared_attributes
three f = refl

four : length dublin_core_attributes ≡ 4
unfolding dublin_core_attributes
four = refl

abbrev is_three : ℕ → Bool
is_three n = eqb n 3

apart : (a b : ℕ) → a ≡ 4 → b ≡ 3 → a ≡ b → ⊥
apart a b are is same = true≢false (ap is_three (sym is ∙ sym same ∙ are))

space_of : (f : Format) → first_value (declared_attributes f) ≡ f.namespace
unfolding declared_attributes first_value
space_of f = refl

location_of : (f : Format) → third_value (declared_attributes f) ≡ f.namespace ++ codes " " ++ f.schema
unfolding declared_attributes third_value
location_of f = refl

-- ---- formats

declared_same : (f g : Format) (xs ys : List Field) → declared_tree f xs ≡ declared_tree g ys
    → (seen_declared f.root f.namespace f.schema ≡ seen_declared g.root g.namespace g.schema) × (xs ≡ ys)
unfolding declared_tree
declared_same f g xs ys same =
    let roots : f.root ≡ g.root = ap (λ (t : Tree). t.name) same in
    let attributes : declared_attributes f ≡ declared_attributes g = ap (λ (t : Tree). t.attributes) same in
    let spaces : f.namespace ≡ g.namespace = sym (space_of f) ∙ ap first_value attributes ∙ space_of g in
    let locations : f.namespace ++ codes " " ++ f.schema ≡ g.namespace ++ codes " " ++ g.schema = sym (location_of f) ∙ ap third_value attributes ∙ location_of g in
    let schemas : f.schema ≡ g.schema =
    append_cancel_left (g.namespace ++ codes " ") f.schema g.schema (ap (λ (w : List ℕ). w ++ codes " " ++ f.schema) (sym spaces) ∙ locations) in
    (λ i. seen_declared (roots i) (spaces i) (schemas i), trees_same [] xs ys (ap (λ (t : Tree). t.content) same))

dublin_core_same : (xs ys : List Field) → dublin_core_tree xs ≡ dublin_core_tree ys → xs ≡ ys
unfolding dublin_core_tree
dublin_core_same xs ys same = trees_same (codes "dc:") xs ys (ap (λ (t : Tree). t.content) same)

never : (g : Format) (xs ys : List Field) → dublin_core_tree xs ≡ declared_tree g ys → ⊥
unfolding dublin_core_tree declared_tree
never g xs ys same = apart (length dublin_core_attributes) (length (declared_attributes g)) four (three g) (ap (λ (t : Tree). length t.attributes) same)

pub same_fields : (f g : Format) (xs ys : List Field) → fields_tree f xs ≡ fields_tree g ys → (format_seen f ≡ format_seen g) × (xs ≡ ys)
unfolding fields_tree
same_fields f g xs ys same = by_tests (bytes_eq f.prefix (codes "oai_dc")) (bytes_eq g.prefix (codes "oai_dc")) same
  where
    by_tests : (a b : Bool) → cond a (dublin_core_tree xs) (declared_tree f xs) ≡ cond b (dublin_core_tree ys) (declared_tree g ys)
        → (cond a seen_dublin_core (seen_declared f.root f.namespace f.schema) ≡ cond b seen_dublin_core (seen_declared g.root g.namespace g.schema)) × (xs ≡ ys)
    by_tests true true same = (refl, dublin_core_same xs ys same)
    by_tests true false same = absurd (never g xs ys same)
    by_tests false true same = absurd (never f ys xs (sym same))
    by_tests false false same = declared_same f g xs ys same
