-- Names, by their bytes and by their characters.
use Rattle.std.proofs.Common.{◌≡◌, ◌∙◌, ◌<◌, ℕ, zero, suc, Bool, true, false, ◌&&◌, ◌||◌, not, List, [], ◌∷◌, length, refl, sym, ap, arith}
use Rattle.std.specs.List.{list_all}
use Rattle.std.specs.Str.{chars, IsUtf8, is_utf8, IsAscii}
use Rattle.std.proofs.lemmas.Bool.{and_from, and_parts, or_left, true≢false, false_from_ne_true}
use Rattle.std.proofs.lemmas.Bool.Decides.{nat_tests}
use Rattle.std.proofs.lemmas.Str.{chars-IsAscii, IsUtf8-from_ascii, IsUtf8-from_is_utf8, is_utf8-from_IsUtf8, chars-nil}
use Rattle.oai_names.proofs.Lists.{all-weaker}
use Rattle.oai_xml.specs.QNames.{is_ncname, is_qname, is_name_byte, is_prefixed, prefix_of, local_of, is_ascii_start, is_wide_start, is_start_char, is_ascii_further, is_further_char, are_name_chars}
use Rattle.oai_xml.specs.Ascii.{is_ascii_ncname}
use Rattle.oai_xml.specs.Parts.{is_target}

-- ---- by decoding

pub decoded : (name text : List ℕ) (r : Bool) → text ≡ name → IsUtf8 name → r ≡ are_name_chars (chars text) → r ≡ is_ncname name
unfolding is_ncname
decoded name text r same utf8 is =
    is ∙ ap (λ w. are_name_chars (chars w)) same ∙ sym (ap (λ t. t && are_name_chars (chars name)) (is_utf8-from_IsUtf8 name utf8))

pub undecoded : (name : List ℕ) → ¬ (IsUtf8 name) → false ≡ is_ncname name
unfolding is_ncname
undecoded name none = sym (ap (λ t. t && are_name_chars (chars name)) (false_from_ne_true (is_utf8 name) (λ is. none (IsUtf8-from_is_utf8 name is))))

-- ---- names of ASCII

start_further : (b : ℕ) → is_ascii_start b ≡ true → is_ascii_further b ≡ true
start_further b is = rw is refl

ascii_byte : (b : ℕ) → is_ascii_further b ≡ true → b < 128
ascii_byte b is = grind (arith, nat_tests)

all_ascii : (bytes : List ℕ) → list_all is_ascii_further bytes ≡ true → IsAscii bytes
all_ascii [] all i = omega arith
all_ascii (b ∷ bytes) all zero = ascii_byte b (and_parts (is_ascii_further b) (list_all is_ascii_further bytes) all).0
all_ascii (b ∷ bytes) all (suc i) = all_ascii bytes (and_parts (is_ascii_further b) (list_all is_ascii_further bytes) all).1 i

widened : (c : ℕ) → is_ascii_further c ≡ true → is_further_char c ≡ true
widened c is = or_left (is_ascii_further c) _ is

pub ascii_ncname : (name : List ℕ) → is_ascii_ncname name ≡ true → is_ncname name ≡ true
unfolding is_ncname
ascii_ncname [] is = absurd (true≢false (sym is))
ascii_ncname (b ∷ bytes) is =
    let parts = and_parts (is_ascii_start b) (list_all is_ascii_further bytes) is in
    let ascii = all_ascii (b ∷ bytes) (and_from (is_ascii_further b) (list_all is_ascii_further bytes) (start_further b parts.0) parts.1) in
    let of_chars : are_name_chars (chars (b ∷ bytes)) ≡ true = ap are_name_chars (chars-IsAscii (b ∷ bytes) ascii)
    ∙ and_from (is_start_char b) (list_all is_further_char bytes) (or_left (is_ascii_start b) (is_wide_start b) parts.0) (all-weaker is_ascii_further is_further_char widened bytes parts.1) in
    and_from (is_utf8 (b ∷ bytes)) (are_name_chars (chars (b ∷ bytes))) (is_utf8-from_IsUtf8 (b ∷ bytes) (IsUtf8-from_ascii (b ∷ bytes) ascii)) of_chars

-- ---- no name is empty

no_ncname : is_ncname [] ≡ false
unfolding is_ncname
no_ncname = ap (λ w. is_utf8 [] && are_name_chars w) chars-nil ∙ and_false (is_utf8 [])
  where
    and_false : (t : Bool) → (t && false) ≡ false
    and_false true = refl
    and_false false = refl

pub ncname_some : (name : List ℕ) → is_ncname name ≡ true → 0 < length name
ncname_some [] is = absurd (true≢false (sym is ∙ no_ncname))
ncname_some (b ∷ name) is = omega arith

no_local : local_of [] ≡ []
unfolding local_of
no_local = refl

pub qname_some : (name : List ℕ) → is_qname name ≡ true → 0 < length name
unfolding is_qname
qname_some [] is =
    let last = (and_parts (list_all is_name_byte [] && (not (is_prefixed []) || is_ncname (prefix_of []))) (is_ncname (local_of [])) is).1 in
    absurd (true≢false (sym last ∙ ap is_ncname no_local ∙ no_ncname))
qname_some (b ∷ name) is = omega arith

pub target_some : (name : List ℕ) → is_target name ≡ true → 0 < length name
target_some name is = ncname_some name (and_parts (is_ncname name) _ is).0
