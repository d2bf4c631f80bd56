-- Runs of bytes that pass a test, and bytes that stand for themselves.
use Rattle.std.proofs.Common.{◌≡◌, ◌∙◌, ◌+◌, ◌-◌, ◌<◌, ◌≤◌, ◌⊎◌, inl, inr, ℕ, suc, Bool, true, false, ◌||◌, cond, eqb, List, [], ◌∷◌, ◌++◌, Ok, Err, length, take, drop, refl, sym, ap, subst, arith, append-nil, take-append-drop}
use Rattle.std.specs.Prelude.{codes}
use Rattle.std.specs.List.{list_all, prefix_len}
use Rattle.std.proofs.lemmas.Bool.{and_from, and_parts, cond-true, cond-false, true≢false}
use Rattle.std.proofs.lemmas.Bool.Decides.{nat_tests}
use Rattle.oai_names.specs.Escapes.{escaped, escaped_text, escaped_attribute, attribute_spelling, text_spelling}
use Rattle.oai_xml.specs.Answers.{Goes, formed, is_bare_value_byte, is_bare_text_byte}
use Rattle.oai_xml.specs.Readings.{begins}
use Rattle.oai_xml.specs.Trees.{text_of}
use Rattle.oai_xml.specs.Contents.{character_in}
use Rattle.oai_xml.specs.declared.values.Form.{Form}
use Rattle.oai_xml.specs.declared.values.Form.TheVariants.{Plain, Spelled}
use Rattle.oai_xml.proofs.ValueLemmas.{cat, values, value_run}

-- ---- the longest front that passes

pub run_passes : (p : ℕ → Bool) (xs : List ℕ) → list_all p (take (prefix_len p xs) xs) ≡ true
run_passes p [] = refl
run_passes p (x ∷ xs) = by_test (p x) refl (run_passes p xs)
  where
    by_test : (t : Bool) → p x ≡ t → list_all p (take (prefix_len p xs) xs) ≡ true → list_all p (take (cond t (1 + prefix_len p xs) 0) (x ∷ xs)) ≡ true
    by_test true passes others =
        let one : 1 + prefix_len p xs ≡ suc (prefix_len p xs) = omega arith in
        subst (λ n. list_all p (take n (x ∷ xs)) ≡ true) (sym one) (and_from (p x) (list_all p (take (prefix_len p xs) xs)) passes others)
    by_test false fails others = refl

-- ---- bytes of a value

pub one_spelled : (b : ℕ) → escaped_attribute (b ∷ []) ≡ attribute_spelling b
unfolding escaped
one_spelled b = append-nil (attribute_spelling b)

bare_value : (b : ℕ) → is_bare_value_byte b ≡ true → attribute_spelling b ≡ b ∷ []
bare_value b bare = grind (arith, nat_tests)

bare_values : (run : List ℕ) → list_all is_bare_value_byte run ≡ true → escaped_attribute run ≡ run
unfolding escaped
bare_values [] bare = refl
bare_values (b ∷ run) bare =
    let parts = and_parts (is_bare_value_byte b) (list_all is_bare_value_byte run) bare in
    ap (λ (w : List ℕ). w ++ escaped_attribute run) (bare_value b parts.0) ∙ ap (λ (w : List ℕ). b ∷ w) (bare_values run parts.1)

formed_bare : (form : Form) (run : List ℕ) → list_all is_bare_value_byte run ≡ true → formed form run ≡ run
formed_bare Plain run bare = refl
formed_bare Spelled run bare = bare_values run bare

whole_run : (bytes run rest : List ℕ) (n : ℕ) → run ≡ take n bytes → rest ≡ drop n bytes → bytes ≡ run ++ rest
whole_run bytes run rest n front back = sym (take-append-drop n bytes) ∙ ap (λ (w : List ℕ). w ++ drop n bytes) (sym front) ∙ ap (λ (w : List ℕ). run ++ w) (sym back)

pub bare_piece : (form : Form) (quote : ℕ) (bytes run rest old new : List ℕ) (n : ℕ) → (eqb quote 34 || eqb quote 39) ≡ true → n ≡ prefix_len is_bare_value_byte bytes
    → run ≡ take n bytes → rest ≡ drop n bytes → new ≡ old ++ run → (piece : List ℕ) × Goes cat (values quote) bytes rest piece × (new ≡ old ++ formed form piece)
bare_piece form quote bytes run rest old new n is len front back grown =
    let bare : list_all is_bare_value_byte run ≡ true = ap (list_all is_bare_value_byte) (front ∙ ap (λ m. take m bytes) len) ∙ run_passes is_bare_value_byte bytes in (
      run,
      subst (λ w. Goes cat (values quote) w rest run) (sym (whole_run bytes run rest n front back)) (value_run quote is run rest bare),
      grown ∙ ap (λ (w : List ℕ). old ++ w) (sym (formed_bare form run bare)),
    )

-- ---- bytes of a text

bare_text : (b : ℕ) → is_bare_text_byte b ≡ true → text_spelling b ≡ b ∷ []
bare_text b bare = grind (arith, nat_tests)

bare_texts : (run : List ℕ) → list_all is_bare_text_byte run ≡ true → escaped_text run ≡ run
unfolding escaped
bare_texts [] bare = refl
bare_texts (b ∷ run) bare =
    let parts = and_parts (is_bare_text_byte b) (list_all is_bare_text_byte run) bare in
    ap (λ (w : List ℕ). w ++ escaped_text run) (bare_text b parts.0) ∙ ap (λ (w : List ℕ). b ∷ w) (bare_texts run parts.1)

pub some_characters : (bytes run rest old new : List ℕ) (n : ℕ) → n ≡ prefix_len is_bare_text_byte bytes → run ≡ take n bytes → rest ≡ drop n bytes → 0 < length run → new ≡ old ++ run
    → (x : List ℕ) × (bytes ≡ x ++ rest) × (0 < length x) × (new ≡ old ++ escaped_text x)
    × ((list_all is_bare_text_byte x ≡ true) ⊎ (character_in bytes ≡ Ok (text_of x, rest)))
some_characters bytes run rest old new n len front back some grown =
    let bare : list_all is_bare_text_byte run ≡ true = ap (list_all is_bare_text_byte) (front ∙ ap (λ m. take m bytes) len) ∙ run_passes is_bare_text_byte bytes in
    (run, whole_run bytes run rest n front back, some, grown ∙ ap (λ (w : List ℕ). old ++ w) (sym (bare_texts run bare)), inl bare)

one_character : (b : ℕ) (tail : List ℕ) → begins (codes "]]>") (b ∷ tail) ≡ false → character_in (b ∷ tail) ≡ Ok (text_of (b ∷ []), tail)
unfolding character_in
one_character b tail none = cond-false (begins (codes "]]>") (b ∷ tail)) _ _ none

one_text_spelled : (b : ℕ) → escaped_text (b ∷ []) ≡ text_spelling b
unfolding escaped
one_text_spelled b = append-nil (text_spelling b)

pub single_character : (bytes tail old new : List ℕ) (b : ℕ) → bytes ≡ b ∷ tail → begins (codes "]]>") bytes ≡ false → new ≡ old ++ text_spelling b
    → (x : List ℕ) × (bytes ≡ x ++ tail) × (0 < length x) × (new ≡ old ++ escaped_text x)
    × ((list_all is_bare_text_byte x ≡ true) ⊎ (character_in bytes ≡ Ok (text_of x, tail)))
single_character bytes tail old new b is none grown = (
  b ∷ [],
  is,
  omega arith,
  grown ∙ ap (λ (w : List ℕ). old ++ w) (sym (one_text_spelled b)),
  inr (ap character_in is ∙ one_character b tail (ap (begins (codes "]]>")) (sym is) ∙ none)),
)

pub begins_long : (literal bytes : List ℕ) → begins literal bytes ≡ true → length literal ≤ length bytes
unfolding begins
begins_long [] bytes here = omega arith
begins_long (x ∷ literal) [] here = absurd (true≢false (sym here))
begins_long (x ∷ literal) (b ∷ bytes) here =
    let rest = begins_long literal bytes (and_parts (eqb b x) (begins literal bytes) here).1 in omega (arith, rest)

section_in_cons : (b : ℕ) (tail : List ℕ) → begins (codes "]]>") (b ∷ tail) ≡ true → character_in (b ∷ tail) ≡ Err (length tail - 1)
unfolding character_in
section_in_cons b tail here = cond-true (begins (codes "]]>") (b ∷ tail)) _ _ here

nothing_begins : begins (codes "]]>") [] ≡ false
unfolding begins
nothing_begins = refl

pub section_found : (bytes : List ℕ) → begins (codes "]]>") bytes ≡ true → character_in bytes ≡ Err (length bytes - 2)
section_found [] here = absurd (true≢false (sym here ∙ nothing_begins))
section_found (b ∷ tail) here =
    let same : length tail - 1 ≡ length (b ∷ tail) - 2 = omega arith in
    section_in_cons b tail here ∙ ap (λ (n : ℕ). Err n) same

no_character : character_in [] ≡ Err 0
unfolding character_in
no_character = refl

pub no_characters : (bytes : List ℕ) → bytes ≡ [] → character_in bytes ≡ Err 0
no_characters bytes none = ap character_in none ∙ no_character
