-- What unescaped bytes of a query stand for: themselves, a text of XML's characters.
use Rattle.std.proofs.Common.{◌≡◌, ◌∙◌, ℕ, true, List, [], ◌∷◌, All, IsAscii, refl, ap, arith}
use Rattle.std.proofs.lemmas.Bool.{and_parts}
use Rattle.std.proofs.lemmas.List.Elements.{All-nil, All-cons}
use Rattle.std.proofs.lemmas.Str.{IsUtf8-from_ascii, utf8_lossy-IsUtf8}
use Rattle.std.specs.List.{list_all}
use Rattle.std.specs.Str.Lossy.{utf8_lossy}
use Rattle.form_urlencoded.specs.Form.{IsPlain}
use Rattle.form_urlencoded.proofs.FormLemmas.{decode_plain}
use Rattle.oai_names.specs.ByteTests as names
use Rattle.oai_names.specs.Characters.{is_xml_text}
use Rattle.oai_names.proofs.PlainTexts.{is_ascii, plain_text}
use Rattle.oai_args.specs.Pairs.{decoded_text}
use Rattle.oai_args.specs.Steps.{is_unescaped_byte}

no_escape : (b : ℕ) → is_unescaped_byte b ≡ true → IsPlain b
no_escape b is = (λ plus. grind (arith, is), λ percent. grind (arith, is))

no_control : (b : ℕ) → is_unescaped_byte b ≡ true → names.is_plain_byte b ≡ true
no_control b is = grind (arith, is)

no_escapes : (bytes : List ℕ) → list_all is_unescaped_byte bytes ≡ true → All IsPlain bytes
no_escapes [] all = All-nil IsPlain
no_escapes (b ∷ bytes) all =
    let parts = and_parts (is_unescaped_byte b) (list_all is_unescaped_byte bytes) all in
    All-cons IsPlain b bytes (no_escape b parts.0) (no_escapes bytes parts.1)

no_controls : (bytes : List ℕ) → list_all is_unescaped_byte bytes ≡ true → list_all names.is_plain_byte bytes ≡ true
no_controls [] all = refl
no_controls (b ∷ bytes) all =
    let parts = and_parts (is_unescaped_byte b) (list_all is_unescaped_byte bytes) all in
    rw (no_control b parts.0) (no_controls bytes parts.1)

pub unescaped_ascii : (bytes : List ℕ) → list_all is_unescaped_byte bytes ≡ true → IsAscii bytes
unescaped_ascii bytes all = is_ascii bytes (no_controls bytes all)

pub unescaped_xml : (bytes : List ℕ) → list_all is_unescaped_byte bytes ≡ true → is_xml_text bytes ≡ true
unescaped_xml bytes all = plain_text bytes (no_controls bytes all)

pub unescaped_decoded : (bytes : List ℕ) → list_all is_unescaped_byte bytes ≡ true → decoded_text bytes ≡ bytes
unescaped_decoded bytes all =
    ap utf8_lossy (decode_plain bytes (no_escapes bytes all)) ∙ utf8_lossy-IsUtf8 bytes (IsUtf8-from_ascii bytes (unescaped_ascii bytes all))
