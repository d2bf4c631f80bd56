-- Texts whose bytes are all plain need no decoding.
use Rattle.std.proofs.Common.{◌≡◌, ℕ, zero, suc, true, List, [], ◌∷◌, refl, arith}
use Rattle.std.proofs.lemmas.Bool.{and_parts}
use Rattle.std.proofs.lemmas.Str.{chars-IsAscii}
use Rattle.std.specs.List.{list_all}
use Rattle.std.specs.Str.{IsAscii}
use Rattle.oai_names.specs.Characters.{is_xml_char, is_xml_text}
use Rattle.oai_names.specs.ByteTests.{is_plain_byte}

-- plain bytes are those of ASCII, each a character of its own, and one of XML's
pub is_ascii : (text : List ℕ) → list_all is_plain_byte text ≡ true → IsAscii text
is_ascii [] all i = omega arith
is_ascii (b ∷ text) all zero = let here = (and_parts (is_plain_byte b) (list_all is_plain_byte text) all).0 in grind (arith, here)
is_ascii (b ∷ text) all (suc i) = is_ascii text (and_parts (is_plain_byte b) (list_all is_plain_byte text) all).1 i

plain_char : (c : ℕ) → is_plain_byte c ≡ true → is_xml_char c ≡ true
plain_char c is = grind (arith, is)

are_xml : (text : List ℕ) → list_all is_plain_byte text ≡ true → list_all is_xml_char text ≡ true
are_xml [] all = refl
are_xml (c ∷ text) all =
    let parts = and_parts (is_plain_byte c) (list_all is_plain_byte text) all in
    rw (plain_char c parts.0) (are_xml text parts.1)

pub plain_text : (text : List ℕ) → list_all is_plain_byte text ≡ true → is_xml_text text ≡ true
unfolding is_xml_text
plain_text text all = rw (chars-IsAscii text (is_ascii text all)) (are_xml text all)
