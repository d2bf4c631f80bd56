-- Escaped texts can be cut off what follows: the text of an element at `<`, the value of an attribute at a quote.
use Rattle.std.proofs.Common.{◌≡◌, ℕ, Bool, true, false, eqb, cond, List, [], ◌∷◌, ◌++◌, drop, codes, refl, sym, ap, ◌∙◌, arith}
use Rattle.std.specs.List.{flat_map, list_any}
use Rattle.std.proofs.lemmas.Bool.{cond-false, eqb-true, or_from}
use Rattle.std.proofs.lemmas.Bool.Decides.{nat_tests}
use Rattle.std.proofs.lemmas.List.Folds.{list_any-append}
use Rattle.oai_names.specs.Escapes.{attribute_spelling, escaped, escaped_attribute, escaped_text, spelling, text_spelling}
use Rattle.oai_names.specs.Names.{is_one_of}
use Rattle.oai_names.specs.declared.escapes.Place.{Place}
use Rattle.oai_names.specs.declared.escapes.Place.TheVariants.{Element, Attribute}
use Rattle.oai_names.proofs.Cuts.{Cuts, any, anything, at, each_same, pair, read_back}

-- ---- a byte, as it is escaped

-- what an entity stands for, behind its `&`, and what is behind it
abbrev entity_3 : List ℕ → ℕ × List ℕ
entity_3 [] = pair 0 []
entity_3 (x ∷ rest) = cond (eqb x 48) (pair 10 (drop 1 rest)) (pair 13 (drop 1 rest))

abbrev entity_2 : List ℕ → ℕ × List ℕ
entity_2 [] = pair 0 []
entity_2 (x ∷ rest) = cond (eqb x 57) (pair 9 (drop 1 rest)) (entity_3 rest)

abbrev entity : List ℕ → ℕ × List ℕ
entity [] = pair 0 []
entity (x ∷ rest) =
    cond (eqb x 97) (pair 38 (drop 3 rest))
    (cond (eqb x 108) (pair 60 (drop 2 rest))
    (cond (eqb x 103) (pair 62 (drop 2 rest))
    (cond (eqb x 113) (pair 34 (drop 4 rest))
    (entity_2 rest))))

-- the byte that is spelled, and what is behind it
abbrev first_spelled : List ℕ → ℕ × List ℕ
first_spelled [] = pair 0 []
first_spelled (x ∷ rest) = cond (eqb x 38) (entity rest) (pair x rest)

text_read : (b : ℕ) (rest : List ℕ) → first_spelled (text_spelling b ++ rest) ≡ pair b rest
text_read b rest = by_tests (eqb b 38) (eqb b 60) (eqb b 62) (eqb b 13) refl (eqb-true b 38) (eqb-true b 60) (eqb-true b 62) (eqb-true b 13)
  where
    by_tests : (a l g r : Bool) → eqb b 38 ≡ a → (a ≡ true → b ≡ 38) → (l ≡ true → b ≡ 60) → (g ≡ true → b ≡ 62) → (r ≡ true → b ≡ 13)
        → first_spelled (cond a (codes "&amp;") (cond l (codes "&lt;") (cond g (codes "&gt;") (cond r (codes "&#13;") (b ∷ [])))) ++ rest) ≡ pair b rest
    by_tests true l g r is amp lt gt cr = ap (λ x. pair x rest) (sym (amp refl))
    by_tests false true g r is amp lt gt cr = ap (λ x. pair x rest) (sym (lt refl))
    by_tests false false true r is amp lt gt cr = ap (λ x. pair x rest) (sym (gt refl))
    by_tests false false false true is amp lt gt cr = ap (λ x. pair x rest) (sym (cr refl))
    by_tests false false false false is amp lt gt cr = cond-false (eqb b 38) (entity rest) (pair b rest) is

attribute_read : (b : ℕ) (rest : List ℕ) → first_spelled (attribute_spelling b ++ rest) ≡ pair b rest
attribute_read b rest = by_tests (eqb b 34) (eqb b 9) (eqb b 10) (eqb-true b 34) (eqb-true b 9) (eqb-true b 10)
  where
    by_tests : (q t n : Bool) → (q ≡ true → b ≡ 34) → (t ≡ true → b ≡ 9) → (n ≡ true → b ≡ 10)
        → first_spelled (cond q (codes "&quot;") (cond t (codes "&#9;") (cond n (codes "&#10;") (text_spelling b))) ++ rest) ≡ pair b rest
    by_tests true t n quote tab line = ap (λ x. pair x rest) (sym (quote refl))
    by_tests false true n quote tab line = ap (λ x. pair x rest) (sym (tab refl))
    by_tests false false true quote tab line = ap (λ x. pair x rest) (sym (line refl))
    by_tests false false false quote tab line = text_read b rest

byte_read : (place : Place) (b : ℕ) (rest : List ℕ) → first_spelled (spelling place b ++ rest) ≡ pair b rest
byte_read Element b rest = text_read b rest
byte_read Attribute b rest = attribute_read b rest

byte_cut : (place : Place) → Cuts anything any (spelling place) (λ b. b)
byte_cut place = read_back first_spelled (λ b rest _ _. byte_read place b rest)

-- a byte of the text of an element
pub text_byte_cut : Cuts anything any text_spelling (λ b. b)
text_byte_cut = byte_cut Element

-- ---- a text, as it is escaped

-- no text of an element begins with `<`
pub text_goes_on : (b : ℕ) (rest : List ℕ) → at 60 (text_spelling b ++ rest) ≡ false
text_goes_on b rest = by_tests (eqb b 38) (eqb b 60) (eqb b 62) (eqb b 13) refl
  where
    by_tests : (a l g r : Bool) → eqb b 60 ≡ l → at 60 (cond a (codes "&amp;") (cond l (codes "&lt;") (cond g (codes "&gt;") (cond r (codes "&#13;") (b ∷ [])))) ++ rest) ≡ false
    by_tests true l g r is = refl
    by_tests false true g r is = refl
    by_tests false false true r is = refl
    by_tests false false false true is = refl
    by_tests false false false false is = is

-- and no value of an attribute with a quote
attribute_goes_on : (b : ℕ) (rest : List ℕ) → at 34 (attribute_spelling b ++ rest) ≡ false
attribute_goes_on b rest = by_tests (eqb b 34) (eqb b 9) (eqb b 10) (eqb b 38) (eqb b 60) (eqb b 62) (eqb b 13) refl
  where
    by_tests : (q t n a l g r : Bool) → eqb b 34 ≡ q
        → at 34 (cond q (codes "&quot;") (cond t (codes "&#9;") (cond n (codes "&#10;") (cond a (codes "&amp;") (cond l (codes "&lt;") (cond g (codes "&gt;") (cond r (codes "&#13;") (b ∷ []))))))) ++ rest) ≡ false
    by_tests true t n a l g r is = refl
    by_tests false true n a l g r is = refl
    by_tests false false true a l g r is = refl
    by_tests false false false true l g r is = refl
    by_tests false false false false true g r is = refl
    by_tests false false false false false true r is = refl
    by_tests false false false false false false true is = refl
    by_tests false false false false false false false is = is

pub text_cut : Cuts (at 60) any escaped_text (λ text. text)
unfolding escaped
text_cut = each_same (byte_cut Element) (record { goes_on = λ b rest _. text_goes_on b rest; near_more = λ b rest _. refl; near_end = λ rest _. refl })

pub value_cut : Cuts (at 34) any escaped_attribute (λ text. text)
unfolding escaped
value_cut = each_same (byte_cut Attribute) (record { goes_on = λ b rest _. attribute_goes_on b rest; near_more = λ b rest _. refl; near_end = λ rest _. refl })

-- ---- what is left of no text

-- no byte is spelled with one that passes, and so no text is
all_free : (test : ℕ → Bool) (write : ℕ → List ℕ) → ((b : ℕ) → list_any test (write b) ≡ false) → (text : List ℕ) → list_any test (flat_map write text) ≡ false
all_free test write free [] = refl
all_free test write free (b ∷ text) =
    list_any-append test (write b) (flat_map write text) ∙ or_from (list_any test (write b)) (list_any test (flat_map write text)) (free b) (all_free test write free text)

abbrev is_text_mark : ℕ → Bool
is_text_mark = is_one_of (60 ∷ 13 ∷ [])

abbrev is_value_mark : ℕ → Bool
is_value_mark = is_one_of (60 ∷ 13 ∷ 34 ∷ 9 ∷ 10 ∷ [])

turned : (a b : ℕ) → eqb b a ≡ false → eqb a b ≡ false
turned a b h = grind (arith, nat_tests, h)

-- a byte that is neither this number nor one of those
one_more : (a : ℕ) (marks : List ℕ) (b : ℕ) → eqb b a ≡ false → is_one_of marks b ≡ false → is_one_of (a ∷ marks) b ≡ false
one_more a marks b apart rest = or_from (eqb a b) (is_one_of marks b) (turned a b apart) rest

text_byte_free : (b : ℕ) → list_any is_text_mark (text_spelling b) ≡ false
text_byte_free b = by_tests (eqb b 38) (eqb b 60) (eqb b 62) (eqb b 13) refl refl
  where
    by_tests : (a l g r : Bool) → eqb b 60 ≡ l → eqb b 13 ≡ r
        → list_any is_text_mark (cond a (codes "&amp;") (cond l (codes "&lt;") (cond g (codes "&gt;") (cond r (codes "&#13;") (b ∷ []))))) ≡ false
    by_tests true l g r lt cr = refl
    by_tests false true g r lt cr = refl
    by_tests false false true r lt cr = refl
    by_tests false false false true lt cr = refl
    by_tests false false false false lt cr = or_from (is_text_mark b) false (one_more 60 (13 ∷ []) b lt (one_more 13 [] b cr refl)) refl

value_byte_free : (b : ℕ) → list_any is_value_mark (attribute_spelling b) ≡ false
value_byte_free b = by_tests (eqb b 34) (eqb b 9) (eqb b 10) (eqb b 38) (eqb b 60) (eqb b 62) (eqb b 13) refl refl refl refl refl
  where
    by_tests : (q t n a l g r : Bool) → eqb b 34 ≡ q → eqb b 9 ≡ t → eqb b 10 ≡ n → eqb b 60 ≡ l → eqb b 13 ≡ r
        → list_any is_value_mark (cond q (codes "&quot;") (cond t (codes "&#9;") (cond n (codes "&#10;")
        (cond a (codes "&amp;") (cond l (codes "&lt;") (cond g (codes "&gt;") (cond r (codes "&#13;") (b ∷ [])))))))) ≡ false
    by_tests true t n a l g r quote tab line lt cr = refl
    by_tests false true n a l g r quote tab line lt cr = refl
    by_tests false false true a l g r quote tab line lt cr = refl
    by_tests false false false true l g r quote tab line lt cr = refl
    by_tests false false false false true g r quote tab line lt cr = refl
    by_tests false false false false false true r quote tab line lt cr = refl
    by_tests false false false false false false true quote tab line lt cr = refl
    by_tests false false false false false false false quote tab line lt cr =
        or_from (is_value_mark b) false
        (one_more 60 (13 ∷ 34 ∷ 9 ∷ 10 ∷ []) b lt (one_more 13 (34 ∷ 9 ∷ 10 ∷ []) b cr (one_more 34 (9 ∷ 10 ∷ []) b quote (one_more 9 (10 ∷ []) b tab (one_more 10 [] b line refl))))) refl

pub text_free : (text : List ℕ) → list_any (is_one_of (60 ∷ 13 ∷ [])) (escaped_text text) ≡ false
unfolding escaped
text_free text = all_free is_text_mark (spelling Element) (λ b. text_byte_free b) text

pub value_free : (text : List ℕ) → list_any (is_one_of (60 ∷ 13 ∷ 34 ∷ 9 ∷ 10 ∷ [])) (escaped_attribute text) ≡ false
unfolding escaped
value_free text = all_free is_value_mark (spelling Attribute) (λ b. value_byte_free b) text

-- two texts that are spelled alike are one, since what stands behind tells where they end
pub same_text : (text other : List ℕ) → escaped_text text ≡ escaped_text other → text ≡ other
same_text text other same = (text_cut.cut text other (60 ∷ []) (60 ∷ []) refl refl refl refl (ap (λ (w : List ℕ). w ++ 60 ∷ []) same)).0

pub same_value : (value other : List ℕ) → escaped_attribute value ≡ escaped_attribute other → value ≡ other
same_value value other same = (value_cut.cut value other (34 ∷ []) (34 ∷ []) refl refl refl refl (ap (λ (w : List ℕ). w ++ 34 ∷ []) same)).0
