-- What is spelled of legal texts is legal.
use Rattle.std.proofs.Common.{◌≡◌, ◌∙◌, ◌+◌, ◌/◌, ◌<◌, ◌≤◌, ℕ, zero, suc, Bool, true, false, ◌&&◌, ◌||◌, not, cond, eqb, List, [], ◌∷◌, ◌++◌, refl, sym, ap, subst, arith, append_assoc, append-nil}
use Rattle.std.specs.Prelude.{codes, nat_le, nat_lt}
use Rattle.std.specs.List.{flat_map, list_all}
use Rattle.std.specs.Str.{IsAscii, IsUtf8, chars, is_utf8}
use Rattle.std.proofs.lemmas.Bool.{and_from, and_parts, cond-false, cond-true, ne_eqb}
use Rattle.std.proofs.lemmas.Bool.Decides.{nat_tests}
use Rattle.std.proofs.lemmas.Grind.{flat_map-append}
use Rattle.std.proofs.lemmas.List.Folds.{list_all-append}
use Rattle.std.proofs.lemmas.Str.{IsUtf8-append, IsUtf8-encode, IsUtf8-from_ascii, IsUtf8-from_is_utf8, chars-IsAscii, chars-append, chars-encodes, encodes-chars, is_utf8-from_IsUtf8, scalars-chars}
use lib.Utf8.{encode, encodes, next, scalar, scalars}
use Rattle.oai_names.specs.Characters.{is_xml_char, is_xml_text}
use Rattle.oai_names.specs.Escapes.{attribute_spelling, escaped, escaped_attribute, escaped_text, text_spelling}
use Rattle.oai_names.proofs.Lists.{all-weaker}
use Rattle.oai_xml.specs.Trees.{Attribute, Content, Tree, nothing, byte, element, end_tag, spelled, spelled_attribute, spelled_content, start_tag}
use Rattle.oai_xml.specs.LegalTexts.{are_elements_legal, is_legal_attribute, is_legal_tag, is_legal_text, is_legal_tree, leading_text}
use Rattle.oai_xml.proofs.Spellings.{byte_spelled, element_spelled, nothing_spelled, tree_spelled}

-- ---- legal texts

pub record Legal (bytes : List ℕ) : Type 0 where
  pub utf8 : IsUtf8 bytes
  pub characters : is_xml_text bytes ≡ true

pub legal : (bytes : List ℕ) → is_legal_text bytes ≡ true → Legal bytes
legal bytes is =
    let parts = and_parts (is_utf8 bytes) (is_xml_text bytes) is in record { utf8 = IsUtf8-from_is_utf8 bytes parts.0; characters = parts.1 }

pub tested : (bytes : List ℕ) → Legal bytes → is_legal_text bytes ≡ true
tested bytes l = and_from (is_utf8 bytes) (is_xml_text bytes) (is_utf8-from_IsUtf8 bytes l.utf8) l.characters

pub both : (xs ys : List ℕ) → Legal xs → Legal ys → Legal (xs ++ ys)
unfolding is_xml_text
both xs ys first second = record {
  utf8 = IsUtf8-append xs ys first.utf8 second.utf8;
  characters = ap (list_all is_xml_char) (chars-append xs ys first.utf8)
      ∙ (list_all-append is_xml_char (chars xs) (chars ys) ∙ and_from (list_all is_xml_char (chars xs)) (list_all is_xml_char (chars ys)) first.characters second.characters);
}

-- a character of ASCII that XML allows
abbrev pub is_plain : ℕ → Bool
is_plain b = nat_lt b 128 && is_xml_char b

plain_small : (b : ℕ) → is_plain b ≡ true → b < 128
plain_small b is = let first = (and_parts (nat_lt b 128) (is_xml_char b) is).0 in grind (arith, nat_tests, first)

plain_ascii : (bytes : List ℕ) → list_all is_plain bytes ≡ true → IsAscii bytes
plain_ascii [] all i = omega arith
plain_ascii (b ∷ bytes) all zero = plain_small b (and_parts (is_plain b) (list_all is_plain bytes) all).0
plain_ascii (b ∷ bytes) all (suc i) = plain_ascii bytes (and_parts (is_plain b) (list_all is_plain bytes) all).1 i

pub plain : (bytes : List ℕ) → list_all is_plain bytes ≡ true → Legal bytes
unfolding is_xml_text
plain bytes all =
    let ascii = plain_ascii bytes all in record {
      utf8 = IsUtf8-from_ascii bytes ascii;
      characters = ap (list_all is_xml_char) (chars-IsAscii bytes ascii) ∙ all-weaker is_plain is_xml_char (λ b is. (and_parts (nat_lt b 128) (is_xml_char b) is).1) bytes all;
    }

-- ---- one character, escaped

text_tests : (b : ℕ) (a l g r : Bool) → is_plain b ≡ true → list_all is_plain (cond a (codes "&amp;") (cond l (codes "&lt;") (cond g (codes "&gt;") (cond r (codes "&#13;") (b ∷ []))))) ≡ true
text_tests b true l g r is = refl
text_tests b false true g r is = refl
text_tests b false false true r is = refl
text_tests b false false false true is = refl
text_tests b false false false false is = and_from (is_plain b) true is refl

value_tests : (text : List ℕ) (q t n : Bool) → list_all is_plain text ≡ true → list_all is_plain (cond q (codes "&quot;") (cond t (codes "&#9;") (cond n (codes "&#10;") text))) ≡ true
value_tests text true t n is = refl
value_tests text false true n is = refl
value_tests text false false true is = refl
value_tests text false false false is = is

-- a byte beyond ASCII stands for itself
high_text : (b : ℕ) → 128 ≤ b → text_spelling b ≡ b ∷ []
high_text b high = tests (eqb b 38) (eqb b 60) (eqb b 62) (eqb b 13) (apart 38 (omega arith)) (apart 60 (omega arith)) (apart 62 (omega arith)) (apart 13 (omega arith))
  where
    apart : (n : ℕ) → n < 128 → eqb b n ≡ false
    apart n low = ne_eqb b n (λ same. omega (arith, same, high, low))

    tests : (a l g r : Bool) → a ≡ false → l ≡ false → g ≡ false → r ≡ false
        → cond a (codes "&amp;") (cond l (codes "&lt;") (cond g (codes "&gt;") (cond r (codes "&#13;") (b ∷ [])))) ≡ b ∷ []
    tests true l g r ha hl hg hr = cc
    tests false true g r ha hl hg hr = cc
    tests false false true r ha hl hg hr = cc
    tests false false false true ha hl hg hr = cc
    tests false false false false ha hl hg hr = refl

high_value : (b : ℕ) → 128 ≤ b → attribute_spelling b ≡ b ∷ []
high_value b high = tests (eqb b 34) (eqb b 9) (eqb b 10) (apart 34 (omega arith)) (apart 9 (omega arith)) (apart 10 (omega arith)) ∙ high_text b high
  where
    apart : (n : ℕ) → n < 128 → eqb b n ≡ false
    apart n low = ne_eqb b n (λ same. omega (arith, same, high, low))

    tests : (q t n : Bool) → q ≡ false → t ≡ false → n ≡ false → cond q (codes "&quot;") (cond t (codes "&#9;") (cond n (codes "&#10;") (text_spelling b))) ≡ text_spelling b
    tests true t n hq ht hn = cc
    tests false true n hq ht hn = cc
    tests false false true hq ht hn = cc
    tests false false false hq ht hn = refl

-- how bytes are spelled, in a text or in a value
record IsSpelling (spell : ℕ → List ℕ) : Type 0 where
  pub ascii : (b : ℕ) → is_plain b ≡ true → list_all is_plain (spell b) ≡ true
  pub beyond : (b : ℕ) → 128 ≤ b → spell b ≡ b ∷ []

of_text : IsSpelling text_spelling
of_text = record { ascii = λ b is. text_tests b (eqb b 38) (eqb b 60) (eqb b 62) (eqb b 13) is; beyond = high_text }

of_value : IsSpelling attribute_spelling
of_value = record { ascii = λ b is. value_tests (text_spelling b) (eqb b 34) (eqb b 9) (eqb b 10) (of_text.ascii b is); beyond = high_value }

abbrev is_high : ℕ → Bool
is_high b = nat_le 128 b

high_le : (b : ℕ) → is_high b ≡ true → 128 ≤ b
high_le b is = grind (arith, nat_tests, is)

le_high : (b : ℕ) → 128 ≤ b → is_high b ≡ true
le_high b le = grind (arith, nat_tests, le)

high_escaped : (spell : ℕ → List ℕ) → IsSpelling spell → (bytes : List ℕ) → list_all is_high bytes ≡ true → flat_map spell bytes ≡ bytes
high_escaped spell is [] all = refl
high_escaped spell is (b ∷ bytes) all =
    let parts = and_parts (is_high b) (list_all is_high bytes) all in
    ap (λ (w : List ℕ). w ++ flat_map spell bytes) (is.beyond b (high_le b parts.0)) ∙ ap (λ (w : List ℕ). b ∷ w) (high_escaped spell is bytes parts.1)

next_high : (bits : ℕ) → is_high (next bits) ≡ true
next_high bits = le_high (next bits) (omega arith)

raised_high : (n more : ℕ) → 128 ≤ n → is_high (n + more) ≡ true
raised_high n more low = le_high (n + more) (omega (arith, low))

encoded_high : (c : ℕ) → nat_lt c 128 ≡ false → list_all is_high (encode c) ≡ true
unfolding encode
encoded_high c high = ap (list_all is_high) (cond-false (nat_lt c 128) (c ∷ []) _ high) ∙ by_size (nat_lt c 2048) (nat_lt c 65536)
  where
    by_size : (two three : Bool)
        → list_all is_high (cond two ((192 + c / 64) ∷ next c ∷ []) (cond three ((224 + c / 4096) ∷ next (c / 64) ∷ next c ∷ []) ((240 + c / 262144) ∷ next (c / 4096) ∷ next (c / 64) ∷ next c ∷ []))) ≡ true
    by_size true three = and_from _ _ (raised_high 192 (c / 64) (omega arith)) (and_from _ _ (next_high c) refl)
    by_size false true = and_from _ _ (raised_high 224 (c / 4096) (omega arith)) (and_from _ _ (next_high (c / 64)) (and_from _ _ (next_high c) refl))
    by_size false false =
        and_from _ _ (raised_high 240 (c / 262144) (omega arith)) (and_from _ _ (next_high (c / 4096)) (and_from _ _ (next_high (c / 64)) (and_from _ _ (next_high c) refl)))

encoded : (c : ℕ) → scalar c ≡ true → is_xml_char c ≡ true → Legal (encode c)
unfolding is_xml_text
encoded c is legal = record {
  utf8 = IsUtf8-encode c is;
  characters = ap (λ w. list_all is_xml_char (chars w)) (sym (append-nil (encode c)))
      ∙ (ap (list_all is_xml_char) (chars-encodes (c ∷ []) (and_from (scalar c) true is refl)) ∙ and_from (is_xml_char c) true legal refl);
}

ascii_encoded : (c : ℕ) → nat_lt c 128 ≡ true → encode c ≡ c ∷ []
unfolding encode
ascii_encoded c low = cond-true (nat_lt c 128) (c ∷ []) _ low

one_escaped : (spell : ℕ → List ℕ) → IsSpelling spell → (c : ℕ) → scalar c ≡ true → is_xml_char c ≡ true → Legal (flat_map spell (encode c))
one_escaped spell so c is legal = by_size (nat_lt c 128) refl
  where
    by_size : (low : Bool) → nat_lt c 128 ≡ low → Legal (flat_map spell (encode c))
    by_size true low = subst Legal (sym (ap (flat_map spell) (ascii_encoded c low) ∙ append-nil (spell c))) (plain (spell c) (so.ascii c (and_from (nat_lt c 128) (is_xml_char c) low legal)))
    by_size false high = subst Legal (sym (high_escaped spell so (encode c) (encoded_high c high))) (encoded c is legal)

-- ---- texts, escaped

pub nothing_legal : Legal []
nothing_legal = plain [] refl

characters_escaped : (spell : ℕ → List ℕ) → IsSpelling spell → (cs : List ℕ) → scalars cs ≡ true → list_all is_xml_char cs ≡ true → Legal (flat_map spell (encodes cs))
characters_escaped spell so [] are legal = nothing_legal
characters_escaped spell so (c ∷ cs) are legal =
    let scalar_parts = and_parts (scalar c) (scalars cs) are in
    let parts = and_parts (is_xml_char c) (list_all is_xml_char cs) legal in
    subst Legal (sym (flat_map-append spell (encode c) (encodes cs)))
    (both (flat_map spell (encode c)) (flat_map spell (encodes cs)) (one_escaped spell so c scalar_parts.0 parts.0) (characters_escaped spell so cs scalar_parts.1 parts.1))

escaped_legal : (spell : ℕ → List ℕ) → IsSpelling spell → (text : List ℕ) → Legal text → Legal (flat_map spell text)
unfolding is_xml_text
escaped_legal spell so text l =
    subst (λ w. Legal (flat_map spell w)) (encodes-chars text l.utf8) (characters_escaped spell so (chars text) (scalars-chars text l.utf8) l.characters)

-- ---- tags

attribute_legal : (a : Attribute) → is_legal_attribute a ≡ true → Legal (spelled_attribute a)
unfolding spelled_attribute escaped
attribute_legal a is =
    let parts = and_parts (is_legal_text a.name) (is_legal_text a.value) is in
    let value = both (escaped_attribute a.value) (34 ∷ []) (escaped_legal attribute_spelling of_value a.value (legal a.value parts.1)) (plain (34 ∷ []) refl) in
    both (32 ∷ []) _ (plain (32 ∷ []) refl) (both a.name _ (legal a.name parts.0) (both (61 ∷ 34 ∷ []) _ (plain (61 ∷ 34 ∷ []) refl) value))

attributes_legal : (attributes : List Attribute) → list_all is_legal_attribute attributes ≡ true → Legal (flat_map spelled_attribute attributes)
attributes_legal [] all = nothing_legal
attributes_legal (a ∷ attributes) all =
    let parts = and_parts (is_legal_attribute a) (list_all is_legal_attribute attributes) all in
    both (spelled_attribute a) (flat_map spelled_attribute attributes) (attribute_legal a parts.0) (attributes_legal attributes parts.1)

pub start_legal : (name : List ℕ) (attributes : List Attribute) → is_legal_tag name attributes ≡ true → Legal (start_tag name attributes)
unfolding start_tag
start_legal name attributes is =
    let parts = and_parts (is_legal_text name) (list_all is_legal_attribute attributes) is in
    both (60 ∷ []) _ (plain (60 ∷ []) refl) (both name _ (legal name parts.0) (both (flat_map spelled_attribute attributes) (62 ∷ []) (attributes_legal attributes parts.1) (plain (62 ∷ []) refl)))

pub end_legal : (name : List ℕ) (attributes : List Attribute) → is_legal_tag name attributes ≡ true → Legal (end_tag name)
unfolding end_tag
end_legal name attributes is =
    both (60 ∷ 47 ∷ []) _ (plain (60 ∷ 47 ∷ []) refl) (both name (62 ∷ []) (legal name (and_parts (is_legal_text name) (list_all is_legal_attribute attributes) is).0) (plain (62 ∷ []) refl))

-- ---- contents

-- a byte behind a text
byte_behind : (front : List ℕ) (b : ℕ) (rest : Content) → escaped_text front ++ spelled_content (byte b rest) ≡ escaped_text (front ++ b ∷ []) ++ spelled_content rest
unfolding escaped
byte_behind front b rest =
    ap (λ (w : List ℕ). escaped_text front ++ w) (byte_spelled b rest)
    ∙ sym (ap (λ (w : List ℕ). w ++ spelled_content rest) (flat_map-append text_spelling front (b ∷ []) ∙ ap (λ (w : List ℕ). flat_map text_spelling front ++ w) (append-nil (text_spelling b)))
    ∙ append_assoc (flat_map text_spelling front) (text_spelling b) (spelled_content rest))

nothing_escaped : escaped_text [] ≡ []
unfolding escaped
nothing_escaped = refl

-- behind a text that is part of the first one
content_legal : (c : Content) (front : List ℕ) → Legal (front ++ leading_text c) → are_elements_legal c ≡ true → Legal (escaped_text front ++ spelled_content c)
unfolding leading_text are_elements_legal escaped
content_legal nothing front text is =
    subst (λ w. Legal (escaped_text front ++ w)) (sym nothing_spelled)
    (both (escaped_text front) [] (escaped_legal text_spelling of_text front (subst Legal (append-nil front) text)) nothing_legal)
content_legal (byte b rest) front text is =
    let more : Legal (front ++ b ∷ [] ++ leading_text rest) = subst Legal (sym (append_assoc front (b ∷ []) (leading_text rest))) text in
    subst Legal (sym (byte_behind front b rest)) (content_legal rest (front ++ b ∷ []) more is)
content_legal (element n a i rest) front text is =
    let outer = and_parts (is_legal_tag n a && (is_legal_text (leading_text i) && are_elements_legal i)) (is_legal_text (leading_text rest) && are_elements_legal rest) is in
    let tag = and_parts (is_legal_tag n a) (is_legal_text (leading_text i) && are_elements_legal i) outer.0 in
    let inside = and_parts (is_legal_text (leading_text i)) (are_elements_legal i) tag.1 in
    let others = and_parts (is_legal_text (leading_text rest)) (are_elements_legal rest) outer.1 in
    subst (λ w. Legal (escaped_text front ++ w)) (sym (element_spelled n a i rest))
    (both (escaped_text front) _ (escaped_legal text_spelling of_text front (subst Legal (append-nil front) text))
    (both (start_tag n a) _ (start_legal n a tag.0)
    (both (spelled_content i) _ (content_legal i [] (legal (leading_text i) inside.0) inside.1)
    (both (end_tag n) (spelled_content rest) (end_legal n a tag.0) (content_legal rest [] (legal (leading_text rest) others.0) others.1)))))

pub spelled_legal : (t : Tree) → is_legal_tree t ≡ true → is_legal_text (spelled t) ≡ true
spelled_legal t is =
    let outer = and_parts (is_legal_tag t.name t.attributes) (is_legal_text (leading_text t.content) && are_elements_legal t.content) is in
    let inside = and_parts (is_legal_text (leading_text t.content)) (are_elements_legal t.content) outer.1 in
    tested (spelled t) (subst Legal (sym (tree_spelled t))
    (both (start_tag t.name t.attributes) _ (start_legal t.name t.attributes outer.0)
    (both (spelled_content t.content) (end_tag t.name) (subst (λ (w : List ℕ). Legal (w ++ spelled_content t.content)) nothing_escaped (content_legal t.content [] (legal (leading_text t.content) inside.0) inside.1)) (end_legal t.name t.attributes outer.0))))
