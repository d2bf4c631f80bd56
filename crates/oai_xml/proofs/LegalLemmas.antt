-- How far the characters of a text are XML's.
use Rattle.std.proofs.Common.{◌≡◌, ◌∙◌, ◌+◌, ℕ, true, false, List, [], ◌∷◌, ◌++◌, length, refl, sym, ap, arith}
use Rattle.std.specs.List.{list_all}
use Rattle.std.specs.Char.{len_utf8}
use Rattle.std.specs.Str.{chars, IsUtf8}
use Rattle.std.proofs.lemmas.Bool.{and_parts, cond-true, cond-false}
use Rattle.std.proofs.lemmas.List.{length-append, nil_from_length}
use Rattle.std.proofs.lemmas.Str.{encodes-chars, length-encode, chars-nil, chars_past_char, IsUtf8-past_char}
use lib.Utf8.{encodes, encode}
use Rattle.oai_names.specs.Characters.{is_xml_char, is_xml_text}
use Rattle.oai_xml.specs.Documents.{legal_len}

-- ---- a text of legal characters alone

legal_all : (cs : List ℕ) → list_all is_xml_char cs ≡ true → legal_len cs ≡ length (encodes cs)
unfolding legal_len
legal_all [] all = refl
legal_all (c ∷ cs) all =
    let parts = and_parts (is_xml_char c) (list_all is_xml_char cs) all in
    let others = legal_all cs parts.1 in
    let one = length-encode c in
    let both = length-append (encode c) (encodes cs) in
    let sum : len_utf8 c + legal_len cs ≡ length (encode c) + length (encodes cs) = omega (arith, others, one) in
    cond-true (is_xml_char c) (len_utf8 c + legal_len cs) 0 parts.0 ∙ sum ∙ sym both

pub legal_whole : (text : List ℕ) → IsUtf8 text → is_xml_text text ≡ true → legal_len (chars text) ≡ length text
unfolding is_xml_text
legal_whole text utf8 is = legal_all (chars text) is ∙ ap length (encodes-chars text utf8)

-- ---- one character after the other

legal_cons : (c : ℕ) (cs : List ℕ) → is_xml_char c ≡ true → legal_len (c ∷ cs) ≡ len_utf8 c + legal_len cs
unfolding legal_len
legal_cons c cs is = cond-true (is_xml_char c) (len_utf8 c + legal_len cs) 0 is

illegal_cons : (c : ℕ) (cs : List ℕ) → is_xml_char c ≡ false → legal_len (c ∷ cs) ≡ 0
unfolding legal_len
illegal_cons c cs is = cond-false (is_xml_char c) (len_utf8 c + legal_len cs) 0 is

no_legal : legal_len [] ≡ 0
unfolding legal_len
no_legal = refl

pub legal_more : (text rest behind : List ℕ) (c len more : ℕ) → IsUtf8 rest → rest ≡ encode c ++ behind → is_xml_char c ≡ true → more ≡ len_utf8 c
    → legal_len (chars text) ≡ len + legal_len (chars rest) → len + length rest ≡ length text
    → (legal_len (chars text) ≡ len + more + legal_len (chars behind)) × (len + more + length behind ≡ length text) × IsUtf8 behind
legal_more text rest behind c len more utf8 is legal width so whole =
    let one : legal_len (chars rest) ≡ len_utf8 c + legal_len (chars behind) = ap legal_len (chars_past_char rest behind c utf8 is) ∙ legal_cons c (chars behind) legal in
    let long = ap length is in
    let parts = length-append (encode c) behind in
    let size = length-encode c in
    (omega (arith, so, one, width), omega (arith, whole, long, parts, size, width), IsUtf8-past_char rest behind c utf8 is)

pub legal_stop : (text rest behind : List ℕ) (c len : ℕ) → IsUtf8 rest → rest ≡ encode c ++ behind → is_xml_char c ≡ false → legal_len (chars text) ≡ len + legal_len (chars rest)
    → len ≡ legal_len (chars text)
legal_stop text rest behind c len utf8 is illegal so =
    let none : legal_len (chars rest) ≡ 0 = ap legal_len (chars_past_char rest behind c utf8 is) ∙ illegal_cons c (chars behind) illegal in omega (arith, so, none)

pub legal_end : (text rest : List ℕ) (len : ℕ) → length rest ≡ 0 → legal_len (chars text) ≡ len + legal_len (chars rest) → len ≡ legal_len (chars text)
legal_end text rest len ended so =
    let none : legal_len (chars rest) ≡ 0 = ap (λ w. legal_len (chars w)) (nil_from_length rest ended) ∙ ap legal_len chars-nil ∙ no_legal in omega (arith, so, none)
