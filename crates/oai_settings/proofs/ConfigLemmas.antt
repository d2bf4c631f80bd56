-- The characters of a base URL.
use Rattle.std.proofs.Common.{◌≡◌, ◌<◌, ℕ, Bool, true, List, ◌++◌, ◌∙◌, ap, append_assoc, arith}
use Rattle.std.specs.Prelude.{◌==◌, ◌&&◌, ◌||◌, codes}
use Rattle.std.specs.List.{All, AllPass, list_all}
use Rattle.std.specs.Str.{IsUtf8, IsAscii, chars}
use Rattle.std.proofs.lemmas.List.Elements.{All-weaker}
use Rattle.std.proofs.lemmas.List.Folds.{list_all-append}
use Rattle.std.proofs.lemmas.List.Sums.{AllPass-from_list_all, list_all-from_AllPass}
use Rattle.std.proofs.lemmas.Bool.{and_parts, or_left}
use Rattle.std.proofs.lemmas.Bool.Decides.{nat_tests}
use Rattle.std.proofs.lemmas.Str.{chars-append, chars-IsAscii}
use Rattle.std.proofs.lemmas.Str.Ascii.{IsAscii-from_all}
use Rattle.oai_names.specs.Characters.{is_xml_char, is_xml_text}
use Rattle.oai_item.specs.ShortTexts.{is_short_text}
use Rattle.oai_settings.specs.Config.{is_repository_byte, is_repository_name}

-- two texts in a row
is_xml_text-append : (xs ys : List ℕ) → IsUtf8 xs → is_xml_text (xs ++ ys) ≡ (is_xml_text xs && is_xml_text ys)
unfolding is_xml_text
is_xml_text-append xs ys utf8 = ap (list_all is_xml_char) (chars-append xs ys utf8) ∙ list_all-append is_xml_char (chars xs) (chars ys)

-- a byte of what stands behind the base
unfoldable is_path_byte : ℕ → Bool
is_path_byte b = is_repository_byte b || b == 47

is_path_byte-ascii : (b : ℕ) → is_path_byte b ≡ true → b < 128
unfolding is_path_byte
is_path_byte-ascii b h = grind (arith, nat_tests)

is_path_byte-xml : (b : ℕ) → is_path_byte b ≡ true → is_xml_char b ≡ true
unfolding is_path_byte
is_path_byte-xml b h = grind (arith, nat_tests)

is_path_byte-more : (b : ℕ) → is_repository_byte b ≡ true → is_path_byte b ≡ true
unfolding is_path_byte
is_path_byte-more b h = or_left _ _ h

is_xml_text-path : (path : List ℕ) → list_all is_path_byte path ≡ true → is_xml_text path ≡ true
unfolding is_xml_text
is_xml_text-path path h =
    let P = λ (b : ℕ). is_path_byte b ≡ true in
    let all : All P path = AllPass-from_list_all is_path_byte path h in
    let ascii : IsAscii path = IsAscii-from_all path (All-weaker P (λ b. b < 128) is_path_byte-ascii path all) in
    let passes : AllPass is_xml_char path = All-weaker P (λ b. is_xml_char b ≡ true) is_path_byte-xml path all in
    ap (list_all is_xml_char) (chars-IsAscii path ascii) ∙ list_all-from_AllPass is_xml_char path passes

-- all that stands behind it
path-passes : (name : List ℕ) → is_repository_name name ≡ true → list_all is_path_byte (codes "/oai/" ++ name) ≡ true
unfolding is_repository_name is_path_byte
path-passes name h =
    let all : AllPass is_repository_byte name = AllPass-from_list_all is_repository_byte name (and_parts _ _ h).1 in
    let passes : AllPass is_path_byte name = All-weaker _ _ is_path_byte-more name all in
    list_all-from_AllPass is_path_byte name passes

-- the base URL of a base and a name
pub base_url_is_xml_text : (base name : List ℕ) → IsUtf8 base → is_short_text base ≡ true → is_repository_name name ≡ true → is_xml_text (base ++ codes "/oai/" ++ name) ≡ true
unfolding is_short_text
base_url_is_xml_text base name utf8 b n =
    ap is_xml_text (append_assoc base (codes "/oai/") name)
    ∙ is_xml_text-append base (codes "/oai/" ++ name) utf8
    ∙ ap (λ (x : Bool). x && is_xml_text (codes "/oai/" ++ name)) (and_parts _ _ b).1
    ∙ is_xml_text-path (codes "/oai/" ++ name) (path-passes name n)
