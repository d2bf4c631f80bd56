-- What is spelled is read back: bytes of values and of texts.
use Rattle.std.proofs.Common.{◌≡◌, ◌∙◌, ◌<◌, ℕ, Bool, true, false, cond, eqb, List, [], ◌∷◌, ◌++◌, Ok, length, refl, sym, ap, subst, arith, append_assoc}
use Rattle.std.specs.Prelude.{codes}
use Rattle.std.proofs.lemmas.Bool.{eqb-true}
use Rattle.std.proofs.lemmas.Bool.Decides.{nat_tests}
use lib.Utf8.{encode}
use Rattle.oai_names.specs.Escapes.{escaped, escaped_attribute, attribute_spelling, text_spelling}
use Rattle.oai_xml.specs.Answers.{Goes}
use Rattle.oai_xml.specs.Readings.{◌>>=◌, read, begins}
use Rattle.oai_xml.specs.Parts.{reference_in, char_ref_in, digits_in, entity_in}
use Rattle.oai_xml.specs.Tags.{value_byte}
use Rattle.oai_xml.specs.Trees.{followed_by, text_of}
use Rattle.oai_xml.specs.Namespaces.{Scope}
use Rattle.oai_xml.specs.Contents.{content_in}
use Rattle.oai_xml.proofs.Goings.{goes_none, goes_then}
use Rattle.oai_xml.proofs.ValueLemmas.{cat, cat_joins, values, value_plain, value_referred}
use Rattle.oai_xml.proofs.Pieces.{contents, piece_goes, piece_reference, byte_goes}

-- ---- references that are spelled

pub quot_back : (tail : List ℕ) → reference_in (codes "quot;" ++ tail) ≡ Ok (34 ∷ [], tail)
unfolding reference_in entity_in begins
quot_back tail = refl

pub amp_back : (tail : List ℕ) → reference_in (codes "amp;" ++ tail) ≡ Ok (38 ∷ [], tail)
unfolding reference_in entity_in begins
amp_back tail = refl

pub lt_back : (tail : List ℕ) → reference_in (codes "lt;" ++ tail) ≡ Ok (60 ∷ [], tail)
unfolding reference_in entity_in begins
lt_back tail = refl

pub gt_back : (tail : List ℕ) → reference_in (codes "gt;" ++ tail) ≡ Ok (62 ∷ [], tail)
unfolding reference_in entity_in begins
gt_back tail = refl

pub tab_back : (tail : List ℕ) → reference_in (codes "#9;" ++ tail) ≡ Ok (9 ∷ [], tail)
unfolding reference_in char_ref_in digits_in begins encode
tab_back tail = refl

pub line_back : (tail : List ℕ) → reference_in (codes "#10;" ++ tail) ≡ Ok (10 ∷ [], tail)
unfolding reference_in char_ref_in digits_in begins encode
line_back tail = refl

pub cr_back : (tail : List ℕ) → reference_in (codes "#13;" ++ tail) ≡ Ok (13 ∷ [], tail)
unfolding reference_in char_ref_in digits_in begins encode
cr_back tail = refl

-- ---- a byte of a value

by_reference : (b c : ℕ) (text tail : List ℕ) → eqb b c ≡ true → length tail < length (text ++ tail) → reference_in (text ++ tail) ≡ Ok (c ∷ [], tail)
    → Goes cat (values 34) (38 ∷ (text ++ tail)) tail (b ∷ [])
by_reference b c text tail same shorter is =
    subst (λ x. Goes cat (values 34) (38 ∷ (text ++ tail)) tail (x ∷ [])) (sym (eqb-true b c same)) (value_referred 34 (text ++ tail) tail (c ∷ []) refl shorter is)

by_itself : (b : ℕ) (tail : List ℕ) → eqb b 34 ≡ false → eqb b 9 ≡ false → eqb b 10 ≡ false → eqb b 38 ≡ false → eqb b 60 ≡ false → eqb b 13 ≡ false
    → Goes cat (values 34) (b ∷ tail) tail (b ∷ [])
by_itself b tail quote tab line reference markup cr =
    let same : value_byte b ≡ b = grind (arith, nat_tests) in
    subst (λ x. Goes cat (values 34) (b ∷ tail) tail (x ∷ [])) same (value_plain 34 b tail quote markup reference)

pub value_byte_back : (b : ℕ) (tail : List ℕ) → Goes cat (values 34) (attribute_spelling b ++ tail) tail (b ∷ [])
value_byte_back b tail = by_tests (eqb b 34) (eqb b 9) (eqb b 10) (eqb b 38) (eqb b 60) (eqb b 62) (eqb b 13) refl refl refl refl refl refl refl
  where
    by_tests : (q t n a l g r : Bool) → eqb b 34 ≡ q → eqb b 9 ≡ t → eqb b 10 ≡ n → eqb b 38 ≡ a → eqb b 60 ≡ l → eqb b 62 ≡ g → eqb b 13 ≡ r
        → Goes cat (values 34) (cond q (codes "&quot;") (cond t (codes "&#9;") (cond n (codes "&#10;")
        (cond a (codes "&amp;") (cond l (codes "&lt;") (cond g (codes "&gt;") (cond r (codes "&#13;") (b ∷ []))))))) ++ tail) tail (b ∷ [])
    by_tests true t n a l g r eq et en ea el eg er = by_reference b 34 (codes "quot;") tail eq (omega arith) (quot_back tail)
    by_tests false true n a l g r eq et en ea el eg er = by_reference b 9 (codes "#9;") tail et (omega arith) (tab_back tail)
    by_tests false false true a l g r eq et en ea el eg er = by_reference b 10 (codes "#10;") tail en (omega arith) (line_back tail)
    by_tests false false false true l g r eq et en ea el eg er = by_reference b 38 (codes "amp;") tail ea (omega arith) (amp_back tail)
    by_tests false false false false true g r eq et en ea el eg er = by_reference b 60 (codes "lt;") tail el (omega arith) (lt_back tail)
    by_tests false false false false false true r eq et en ea el eg er = by_reference b 62 (codes "gt;") tail eg (omega arith) (gt_back tail)
    by_tests false false false false false false true eq et en ea el eg er = by_reference b 13 (codes "#13;") tail er (omega arith) (cr_back tail)
    by_tests false false false false false false false eq et en ea el eg er = by_itself b tail eq et en ea el er

-- a value
pub value_back : (value tail : List ℕ) → Goes cat (values 34) (escaped_attribute value ++ tail) tail value
unfolding escaped
value_back [] tail = goes_none cat [] (λ a. refl) (values 34) tail
value_back (b ∷ value) tail =
    subst (λ w. Goes cat (values 34) w tail (b ∷ value)) (sym (append_assoc (attribute_spelling b) (escaped_attribute value) tail))
    (goes_then cat cat_joins (values 34) (attribute_spelling b ++ (escaped_attribute value ++ tail)) (escaped_attribute value ++ tail) tail (b ∷ []) value
    (value_byte_back b (escaped_attribute value ++ tail)) (value_back value tail))

-- ---- a byte of a text

text_referred : (levels : ℕ) (scope : Scope) (b c : ℕ) (text tail : List ℕ) → eqb b c ≡ true → length tail < length (text ++ tail) → reference_in (text ++ tail) ≡ Ok (c ∷ [], tail)
    → Goes followed_by (contents levels scope) (38 ∷ (text ++ tail)) tail (text_of (b ∷ []))
unfolding begins
text_referred levels scope b c text tail same shorter is =
    subst (λ x. Goes followed_by (contents levels scope) (38 ∷ (text ++ tail)) tail (text_of (x ∷ []))) (sym (eqb-true b c same))
    (piece_goes levels scope (38 ∷ (text ++ tail)) tail (text_of (c ∷ [])) refl (omega arith)
    (λ steps enough. piece_reference (content_in steps) levels scope (38 ∷ (text ++ tail)) refl refl ∙ ap (λ r. r >>= λ r. read (text_of r.0) r.1) is))

-- no "]]>" begins at a byte that is none of its two, or with what follows it
pub text_byte_back : (levels : ℕ) (scope : Scope) (b : ℕ) (tail : List ℕ) → begins (codes "]]>") (b ∷ tail) ≡ false
    → Goes followed_by (contents levels scope) (text_spelling b ++ tail) tail (text_of (b ∷ []))
text_byte_back levels scope b tail section = by_tests (eqb b 38) (eqb b 60) (eqb b 62) (eqb b 13) refl refl refl refl
  where
    by_tests : (a l g r : Bool) → eqb b 38 ≡ a → eqb b 60 ≡ l → eqb b 62 ≡ g → eqb b 13 ≡ r
        → Goes followed_by (contents levels scope) (cond a (codes "&amp;") (cond l (codes "&lt;") (cond g (codes "&gt;") (cond r (codes "&#13;") (b ∷ [])))) ++ tail) tail (text_of (b ∷ []))
    by_tests true l g r ea el eg er = text_referred levels scope b 38 (codes "amp;") tail ea (omega arith) (amp_back tail)
    by_tests false true g r ea el eg er = text_referred levels scope b 60 (codes "lt;") tail el (omega arith) (lt_back tail)
    by_tests false false true r ea el eg er = text_referred levels scope b 62 (codes "gt;") tail eg (omega arith) (gt_back tail)
    by_tests false false false true ea el eg er = text_referred levels scope b 13 (codes "#13;") tail er (omega arith) (cr_back tail)
    by_tests false false false false ea el eg er = byte_goes levels scope b tail el ea section
