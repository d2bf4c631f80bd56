-- The strings in a JSON text that is UTF-8 are UTF-8 too. RFC 8259, sections 7 and 8.1.
use Rattle.std.proofs.Common.{◌≡◌, ◌∙◌, ◌+◌, ◌-◌, ◌*◌, ◌<◌, ◌≤◌, ℕ, zero, suc, Bool, true, false, cond, ◌&&◌, ◌||◌, eqb, List, [], ◌∷◌, ◌++◌, length, take, drop, get_or, Option, None, Some, option_and_then, option_map, refl, sym, ap, subst, append_assoc, arith}
use Rattle.std.specs.Prelude.{nat_eq, nat_le, nat_lt}
use Rattle.std.specs.Char.{digit_value, encode_utf8, is_digit}
use Rattle.std.specs.List.{list_all, starts_with}
use Rattle.std.specs.Ordering.{match_ordering, nat_cmp}
use Rattle.std.specs.Cmp.Lexicographic.{slice_cmp}
use Rattle.std.specs.declared.cmp.Ordering.{Ordering}
use Rattle.std.specs.declared.cmp.Ordering.TheVariants.{Less, Equal, Greater}
use Rattle.std.specs.Str.{IsUtf8, is_utf8}
use Rattle.std.proofs.lemmas.Bool.{and_parts, eqb-true}
use Rattle.std.proofs.lemmas.Bool.Decides.{nat_tests}
use Rattle.std.proofs.lemmas.List.{drop_at, length-append, take_at}
use Rattle.std.proofs.lemmas.Str.{IsCharBoundary-after_ascii, IsCharBoundary-before_ascii, IsUtf8-append, IsUtf8-drop, IsUtf8-encode, IsUtf8-from_ascii, IsUtf8-take, is_utf8-from_IsUtf8}
use lib.Seq.{get_or-append_seam}
use lib.Utf8.{scalar}
use Rattle.json.specs.Ascii as ascii
use Rattle.json.specs.Json as json
use Rattle.json.specs.Lex.{Class, Lexeme, Mode, Place, after_comma, after_key, after_value, backslash, begins_colon, between, class, colon, comma, fresh, if_allowed, in_escape, in_string, in_word, lex, lex_byte, operator, operator_lexeme, other, place_token, punctuate, quote, space, string_token, token, tokens}
use Rattle.json.specs.Text.{after_backslash, after_high, after_u, code_unit, content, is_high_surrogate, is_low_surrogate, plain, prepend, short_escape, surrogate_pair}
use Rattle.json.specs.Token.{Token}
use Rattle.json.specs.Token as lexed
use Rattle.json.specs.Word.{after_number, ends_word, head, is_operator, is_space, literal, number_before, word}
use Rattle.serde_json.specs.Data.{Data, Items, Members, Num, array, boolean, item, member, no_items, no_members, null, number, object, put, string}
use Rattle.serde_json.specs.Read.{max_depth, number_of, of_items, of_json, of_members, read}
use Rattle.oai_documents.proofs.Tags.{both}

-- ---- a byte of ASCII cuts a text

cut : (front rest : List ℕ) (b : ℕ) → b < 128 → IsUtf8 (front ++ b ∷ rest) → IsUtf8 front × IsUtf8 rest
cut front rest b small u =
    let text : List ℕ = front ++ b ∷ rest in
    let at : ℕ = length front in
    let long = length-append front (b ∷ rest) in
    let here : get_or text at 0 ≡ b = get_or-append_seam front b rest 0 in
    let low : get_or text at 0 < 128 = omega (arith, here, small) in
    let within : at < length text = omega (arith, long) in
    let one = length-append front (b ∷ []) in
    let before : IsUtf8 (take at text) = IsUtf8-take text at u (IsCharBoundary-before_ascii text at within low) in
    let after : IsUtf8 (drop (at + 1) text) = IsUtf8-drop text (at + 1) u (IsCharBoundary-after_ascii text at u within low) in
    let whole : (front ++ b ∷ []) ++ rest ≡ text = append_assoc front (b ∷ []) rest in
    let behind : drop (at + 1) ((front ++ b ∷ []) ++ rest) ≡ rest = drop_at (front ++ b ∷ []) rest (at + 1) (omega (arith, one)) in
    (subst IsUtf8 (take_at front (b ∷ rest) at refl) before, subst IsUtf8 (ap (drop (at + 1)) (sym whole) ∙ behind) after)

behind_ascii : (b : ℕ) (rest : List ℕ) → b < 128 → IsUtf8 (b ∷ rest) → IsUtf8 rest
behind_ascii b rest small u = (cut [] rest b small u).1

-- ---- the content of a string

prepended : (bytes : List ℕ) (rest : Option (List ℕ)) (s : List ℕ) → prepend bytes rest ≡ Some s → (t : List ℕ) × (rest ≡ Some t) × (s ≡ bytes ++ t)
prepended bytes None s is = cc
prepended bytes (Some t) s is = let same : bytes ++ t ≡ s = cc in (t, refl, sym same)

-- of texts of at most that many bytes
abbrev IsTextful : ℕ → Type 0
IsTextful n = (front xs s : List ℕ) → length xs ≤ n → IsUtf8 (front ++ xs) → content plain xs ≡ Some s → IsUtf8 (front ++ s)

after_byte : (n : ℕ) → IsTextful n → (front xs s : List ℕ) (x : ℕ) → length xs ≤ n → IsUtf8 (front ++ x ∷ xs) → prepend (x ∷ []) (content plain xs) ≡ Some s → IsUtf8 (front ++ s)
after_byte n ih front xs s x short u is =
    let p = prepended (x ∷ []) (content plain xs) s is in
    let more : IsUtf8 ((front ++ x ∷ []) ++ xs) = subst IsUtf8 (sym (append_assoc front (x ∷ []) xs)) u in
    let whole : IsUtf8 ((front ++ x ∷ []) ++ p.0) = ih (front ++ x ∷ []) xs p.0 short more p.1 in
    subst (λ (w : List ℕ). IsUtf8 (front ++ w)) (sym p.2) (subst IsUtf8 (append_assoc front (x ∷ []) p.0) whole)

after_text : (n : ℕ) → IsTextful n → (front bytes xs s : List ℕ) → length xs ≤ n → IsUtf8 front → IsUtf8 bytes → IsUtf8 xs → prepend bytes (content plain xs) ≡ Some s → IsUtf8 (front ++ s)
after_text n ih front bytes xs s short before text u is =
    let p = prepended bytes (content plain xs) s is in
    let rest : IsUtf8 p.0 = ih [] xs p.0 short u p.1 in
    subst (λ (w : List ℕ). IsUtf8 (front ++ w)) (sym p.2) (IsUtf8-append front (bytes ++ p.0) before (IsUtf8-append bytes p.0 text rest))

-- four hexadecimal digits
record IsUnit (a b c d u : ℕ) : Type 0 where
  pub first : a < 128
  pub second : b < 128
  pub third : c < 128
  pub fourth : d < 128
  pub small : u < 65536

digit_small : (x : ℕ) → is_digit x 16 ≡ true → x < 128
digit_small x is = by_tests (nat_lt x 48) (nat_lt x 58) (nat_lt x 65) (nat_lt x 91) (nat_lt x 97) (nat_lt x 123) refl refl refl is
  where
    below : (n : ℕ) → n < 128 → nat_lt x n ≡ true → x < 128
    below n small is = grind (arith, nat_tests, is, small)

    by_tests : (a b c d e f : Bool) → nat_lt x 58 ≡ b → nat_lt x 91 ≡ d → nat_lt x 123 ≡ f
        → nat_lt (cond a 36 (cond b (x - 48) (cond c 36 (cond d (x - 55) (cond e 36 (cond f (x - 87) 36)))))) 16 ≡ true → x < 128
    by_tests true b c d e f digit upper lower is = cc
    by_tests false true c d e f digit upper lower is = below 58 (omega arith) digit
    by_tests false false true d e f digit upper lower is = cc
    by_tests false false false true e f digit upper lower is = below 91 (omega arith) upper
    by_tests false false false false true f digit upper lower is = cc
    by_tests false false false false false true digit upper lower is = below 123 (omega arith) lower
    by_tests false false false false false false digit upper lower is = cc

digit_value_small : (x : ℕ) → is_digit x 16 ≡ true → digit_value x < 16
digit_value_small x is = value_of (digit_value x) is
  where
    value_of : (n : ℕ) → nat_lt n 16 ≡ true → n < 16
    value_of n is = grind (arith, nat_tests, is)

unit_small : (p q r s : ℕ) → p < 16 → q < 16 → r < 16 → s < 16 → p * 4096 + q * 256 + r * 16 + s < 65536
unit_small p q r s a b c d = omega arith

unit_known : (a b c d u : ℕ) → code_unit a b c d ≡ Some u → IsUnit a b c d u
unfolding code_unit
unit_known a b c d u is = by_test (is_digit a 16 && is_digit b 16 && is_digit c 16 && is_digit d 16) refl is
  where
    its : ℕ
    its = digit_value a * 4096 + digit_value b * 256 + digit_value c * 16 + digit_value d

    by_test : (t : Bool) → (is_digit a 16 && is_digit b 16 && is_digit c 16 && is_digit d 16) ≡ t → cond t (Some its) None ≡ Some u → IsUnit a b c d u
    by_test true digits is =
        let four = and_parts (is_digit a 16 && is_digit b 16 && is_digit c 16) (is_digit d 16) digits in
        let three = and_parts (is_digit a 16 && is_digit b 16) (is_digit c 16) four.0 in
        let two = and_parts (is_digit a 16) (is_digit b 16) three.0 in
        let same : its ≡ u = cc in
        let bound : its < 65536 = unit_small (digit_value a) (digit_value b) (digit_value c) (digit_value d) (digit_value_small a two.0) (digit_value_small b two.1) (digit_value_small c three.1) (digit_value_small d four.1) in
        record { first = digit_small a two.0; second = digit_small b two.1; third = digit_small c three.1; fourth = digit_small d four.1; small = omega (arith, same, bound) }
    by_test false digits is = cc

behind_unit : (a b c d u : ℕ) (rest : List ℕ) → IsUnit a b c d u → IsUtf8 (a ∷ b ∷ c ∷ d ∷ rest) → IsUtf8 rest
behind_unit a b c d u rest unit text =
    behind_ascii d rest unit.fourth (behind_ascii c (d ∷ rest) unit.third (behind_ascii b (c ∷ d ∷ rest) unit.second (behind_ascii a (b ∷ c ∷ d ∷ rest) unit.first text)))

lone_scalar : (u : ℕ) → u < 65536 → is_high_surrogate u ≡ false → is_low_surrogate u ≡ false → scalar u ≡ true
lone_scalar u small high low = grind (arith, nat_tests, high, low)

pair_scalar : (h l : ℕ) → h < 65536 → l < 65536 → is_high_surrogate h ≡ true → is_low_surrogate l ≡ true → scalar (surrogate_pair h l) ≡ true
pair_scalar h l first second high low =
    let top : h < 56320 = below (nat_le 55296 h) h 56320 high in
    let end : l < 57344 = below (nat_le 56320 l) l 57344 low in
    sum_scalar (surrogate_pair h l) (omega arith) (omega arith)
  where
    below : (p : Bool) (n m : ℕ) → (p && nat_lt n m) ≡ true → n < m
    below p n m is = let second = (and_parts p (nat_lt n m) is).1 in grind (arith, nat_tests, second)

    sum_scalar : (n : ℕ) → 57344 ≤ n → n < 1114112 → scalar n ≡ true
    sum_scalar n above under = grind (arith, nat_tests)

-- behind the first half of a pair
after_first : (n h : ℕ) → IsTextful n → (front xs s : List ℕ) → length xs ≤ n → h < 65536 → is_high_surrogate h ≡ true → IsUtf8 front → IsUtf8 xs → content (after_high h) xs ≡ Some s → IsUtf8 (front ++ s)
unfolding content
after_first n h ih front [] s short small high before u is = cc
after_first n h ih front (p ∷ []) s short small high before u is = cc
after_first n h ih front (p ∷ q ∷ []) s short small high before u is = cc
after_first n h ih front (p ∷ q ∷ a ∷ []) s short small high before u is = cc
after_first n h ih front (p ∷ q ∷ a ∷ b ∷ []) s short small high before u is = cc
after_first n h ih front (p ∷ q ∷ a ∷ b ∷ c ∷ []) s short small high before u is = cc
after_first n h ih front (p ∷ q ∷ a ∷ b ∷ c ∷ d ∷ xs) s short small high before u is =
    by_slash (eqb p 92) (eqb q 117) refl refl is
  where
    by_low : (l : ℕ) (t : Bool) → is_low_surrogate l ≡ t → IsUnit a b c d l → p < 128 → q < 128 → cond t (prepend (encode_utf8 (surrogate_pair h l)) (content plain xs)) None ≡ Some s → IsUtf8 (front ++ s)
    by_low l true low unit first second is =
        after_text n ih front (encode_utf8 (surrogate_pair h l)) xs s (omega (arith, short)) before (IsUtf8-encode (surrogate_pair h l) (pair_scalar h l small unit.small high low))
        (behind_unit a b c d l xs unit (behind_ascii q (a ∷ b ∷ c ∷ d ∷ xs) second (behind_ascii p (q ∷ a ∷ b ∷ c ∷ d ∷ xs) first u))) is
    by_low l false low unit first second is = cc

    by_unit : (o : Option ℕ) → code_unit a b c d ≡ o → p < 128 → q < 128
        → option_and_then (λ (l : ℕ). cond (is_low_surrogate l) (prepend (encode_utf8 (surrogate_pair h l)) (content plain xs)) None) o ≡ Some s → IsUtf8 (front ++ s)
    by_unit None found first second is = cc
    by_unit (Some l) found first second is = by_low l (is_low_surrogate l) refl (unit_known a b c d l found) first second is

    by_slash : (t v : Bool) → eqb p 92 ≡ t → eqb q 117 ≡ v
        → cond (t && v) (option_and_then (λ (l : ℕ). cond (is_low_surrogate l) (prepend (encode_utf8 (surrogate_pair h l)) (content plain xs)) None) (code_unit a b c d)) None ≡ Some s → IsUtf8 (front ++ s)
    by_slash true true first second is =
        let left : p ≡ 92 = eqb-true p 92 first in
        let right : q ≡ 117 = eqb-true q 117 second in
        by_unit (code_unit a b c d) refl (omega (arith, left)) (omega (arith, right)) is
    by_slash true false first second is = cc
    by_slash false v first second is = cc

-- behind `\u`
after_unit : (n : ℕ) → IsTextful n → (front xs s : List ℕ) → length xs ≤ n → IsUtf8 front → IsUtf8 xs → content after_u xs ≡ Some s → IsUtf8 (front ++ s)
unfolding content
after_unit n ih front [] s short before u is = cc
after_unit n ih front (a ∷ []) s short before u is = cc
after_unit n ih front (a ∷ b ∷ []) s short before u is = cc
after_unit n ih front (a ∷ b ∷ c ∷ []) s short before u is = cc
after_unit n ih front (a ∷ b ∷ c ∷ d ∷ xs) s short before u is = by_unit (code_unit a b c d) refl is
  where
    by_half : (v : ℕ) (high low : Bool) → is_high_surrogate v ≡ high → is_low_surrogate v ≡ low → IsUnit a b c d v
        → cond high (content (after_high v) xs) (cond low None (prepend (encode_utf8 v) (content plain xs))) ≡ Some s → IsUtf8 (front ++ s)
    by_half v true low first second unit is = after_first n v ih front xs s (omega (arith, short)) unit.small first before (behind_unit a b c d v xs unit u) is
    by_half v false true first second unit is = cc
    by_half v false false first second unit is =
        after_text n ih front (encode_utf8 v) xs s (omega (arith, short)) before (IsUtf8-encode v (lone_scalar v unit.small first second)) (behind_unit a b c d v xs unit u) is

    by_unit : (o : Option ℕ) → code_unit a b c d ≡ o
        → option_and_then (λ (v : ℕ). cond (is_high_surrogate v) (content (after_high v) xs) (cond (is_low_surrogate v) None (prepend (encode_utf8 v) (content plain xs)))) o ≡ Some s → IsUtf8 (front ++ s)
    by_unit None found is = cc
    by_unit (Some v) found is = by_half v (is_high_surrogate v) (is_low_surrogate v) refl refl (unit_known a b c d v found) is

-- the short escapes
short_small : (x c : ℕ) → short_escape x ≡ Some c → (x < 128) × (c < 128)
unfolding short_escape
short_small x c is = by_first (eqb x 34) (eqb x 92) (eqb x 47) (eqb x 98) (eqb x 102) (eqb x 110) (eqb x 114) (eqb x 116) refl refl refl refl refl refl refl refl is
  where
    at : (k : ℕ) → k < 128 → eqb x k ≡ true → x < 128
    at k small same = let is : x ≡ k = eqb-true x k same in omega (arith, is, small)

    itself : x < 128 → Some x ≡ Some c → (x < 128) × (c < 128)
    itself small same = let is : x ≡ c = cc in (small, omega (arith, is, small))

    another : (k : ℕ) → k < 128 → x < 128 → Some k ≡ Some c → (x < 128) × (c < 128)
    another k low small same = let is : k ≡ c = cc in (small, omega (arith, is, low))

    by_first : (q s l b f n r t : Bool) → eqb x 34 ≡ q → eqb x 92 ≡ s → eqb x 47 ≡ l → eqb x 98 ≡ b → eqb x 102 ≡ f → eqb x 110 ≡ n → eqb x 114 ≡ r → eqb x 116 ≡ t
        → cond (q || s || l) (Some x) (cond b (Some 8) (cond f (Some 12) (cond n (Some 10) (cond r (Some 13) (cond t (Some 9) None))))) ≡ Some c → (x < 128) × (c < 128)
    by_first true s l b f n r t hq hs hl hb hf hn hr ht is = itself (at 34 (omega arith) hq) is
    by_first false true l b f n r t hq hs hl hb hf hn hr ht is = itself (at 92 (omega arith) hs) is
    by_first false false true b f n r t hq hs hl hb hf hn hr ht is = itself (at 47 (omega arith) hl) is
    by_first false false false true f n r t hq hs hl hb hf hn hr ht is = another 8 (omega arith) (at 98 (omega arith) hb) is
    by_first false false false false true n r t hq hs hl hb hf hn hr ht is = another 12 (omega arith) (at 102 (omega arith) hf) is
    by_first false false false false false true r t hq hs hl hb hf hn hr ht is = another 10 (omega arith) (at 110 (omega arith) hn) is
    by_first false false false false false false true t hq hs hl hb hf hn hr ht is = another 13 (omega arith) (at 114 (omega arith) hr) is
    by_first false false false false false false false true hq hs hl hb hf hn hr ht is = another 9 (omega arith) (at 116 (omega arith) ht) is
    by_first false false false false false false false false hq hs hl hb hf hn hr ht is = cc

one_ascii : (b : ℕ) → b < 128 → IsUtf8 (b ∷ [])
one_ascii b small = IsUtf8-from_ascii (b ∷ []) each
  where
    each : (i : ℕ) → get_or (b ∷ []) i 0 < 128
    each zero = small
    each (suc i) = omega arith

-- behind a backslash
after_slash : (n : ℕ) → IsTextful n → (front xs s : List ℕ) → length xs ≤ n → IsUtf8 front → IsUtf8 xs → content after_backslash xs ≡ Some s → IsUtf8 (front ++ s)
unfolding content
after_slash n ih front [] s short before u is = cc
after_slash n ih front (x ∷ xs) s short before u is = by_u (eqb x 117) refl is
  where
    by_short : (o : Option ℕ) → short_escape x ≡ o → option_and_then (λ (c : ℕ). prepend (c ∷ []) (content plain xs)) o ≡ Some s → IsUtf8 (front ++ s)
    by_short None found is = cc
    by_short (Some c) found is =
        let small = short_small x c found in
        after_text n ih front (c ∷ []) xs s (omega (arith, short)) before (one_ascii c small.1) (behind_ascii x xs small.0 u) is

    by_u : (t : Bool) → eqb x 117 ≡ t → cond t (content after_u xs) (option_and_then (λ (c : ℕ). prepend (c ∷ []) (content plain xs)) (short_escape x)) ≡ Some s → IsUtf8 (front ++ s)
    by_u true same is =
        let at : x ≡ 117 = eqb-true x 117 same in
        after_unit n ih front xs s (omega (arith, short)) before (behind_ascii x xs (omega (arith, at)) u) is
    by_u false same is = by_short (short_escape x) refl is

content_text : (n : ℕ) → IsTextful n
unfolding content
content_text zero front [] s short u is = cc
content_text zero front (x ∷ xs) s short u is = absurd (omega (arith, short))
content_text (suc n) front [] s short u is = cc
content_text (suc n) front (x ∷ xs) s short u is = by_byte (eqb x 34) (eqb x 92) (nat_lt x 32) refl refl (content_text n) is
  where
    by_byte : (q b l : Bool) → eqb x 34 ≡ q → eqb x 92 ≡ b → IsTextful n
        → cond q (Some []) (cond b (content after_backslash xs) (cond l None (prepend (x ∷ []) (content plain xs)))) ≡ Some s → IsUtf8 (front ++ s)
    by_byte true b l first second ih is =
        let at : x ≡ 34 = eqb-true x 34 first in
        let none : [] ≡ s = cc in
        let before : IsUtf8 front = (cut front xs x (omega (arith, at)) u).0 in
        subst (λ (w : List ℕ). IsUtf8 (front ++ w)) none (IsUtf8-append front [] before (IsUtf8-from_ascii [] (λ i. omega arith)))
    by_byte false true l first second ih is =
        let at : x ≡ 92 = eqb-true x 92 second in
        let sides = cut front xs x (omega (arith, at)) u in
        after_slash n ih front xs s (omega (arith, short)) sides.0 sides.1 is
    by_byte false false true first second ih is = cc
    by_byte false false false first second ih is = after_byte n ih front xs s x (omega (arith, short)) u is

pub string_text : (xs s : List ℕ) → IsUtf8 xs → content plain xs ≡ Some s → is_utf8 s ≡ true
string_text xs s u is = is_utf8-from_IsUtf8 s (content_text (length xs) [] xs s (omega arith) u is)

-- ---- tokens

abbrev is_text_token : Token → Bool
is_text_token lexed.begin_object = true
is_text_token lexed.end_object = true
is_text_token lexed.begin_array = true
is_text_token lexed.end_array = true
is_text_token (lexed.key s) = true
is_text_token (lexed.string s) = is_utf8 s
is_text_token (lexed.number s) = true
is_text_token (lexed.boolean b) = true
is_text_token lexed.null = true
is_text_token lexed.bad = true

abbrev are_text_tokens : List Token → Bool
are_text_tokens ts = list_all is_text_token ts

abbrev is_text_lexeme : Lexeme → Bool
is_text_lexeme (token t) = is_text_token t
is_text_lexeme comma = true
is_text_lexeme colon = true

abbrev are_text_lexemes : List Lexeme → Bool
are_text_lexemes ls = list_all is_text_lexeme ls

either : {A : Type 0} (good : A → Bool) (b : Bool) (x y : A) → good x ≡ true → good y ≡ true → good (cond b x y) ≡ true
either good true x y first second = first
either good false x y first second = second

operator_text : (x : ℕ) → is_text_lexeme (operator_lexeme x) ≡ true
operator_text x =
    either is_text_lexeme (eqb x 123) _ _ refl (either is_text_lexeme (eqb x 125) _ _ refl (either is_text_lexeme (eqb x 91) _ _ refl (either is_text_lexeme (eqb x 93) _ _ refl (either is_text_lexeme (eqb x 44) _ _ refl refl))))

number_text : (t : List ℕ) (o : Option (List ℕ)) → is_text_token (number_before t o) ≡ true
number_text t None = refl
number_text t (Some rest) = either is_text_token (ends_word rest) (lexed.number (take (length t - length rest) t)) lexed.bad refl refl

literal_text : (name : List ℕ) (is : Token) (t : List ℕ) → is_text_token is ≡ true → is_text_token (literal name is t) ≡ true
literal_text name is t so = either is_text_token (starts_with nat_eq t name && ends_word (drop (length name) t)) is lexed.bad so refl

word_text : (t : List ℕ) → is_text_token (word t) ≡ true
unfolding word
word_text t =
    either is_text_token (eqb (head t) 116) (literal ascii.true_text (lexed.boolean true) t) falses (literal_text ascii.true_text (lexed.boolean true) t refl)
    (either is_text_token (eqb (head t) 102) (literal ascii.false_text (lexed.boolean false) t) nulls (literal_text ascii.false_text (lexed.boolean false) t refl)
    (either is_text_token (eqb (head t) 110) (literal ascii.null_text lexed.null t) numbers (literal_text ascii.null_text lexed.null t refl) (number_text t (after_number t))))
  where
    numbers : Token
    numbers = number_before t (after_number t)

    nulls : Token
    nulls = cond (eqb (head t) 110) (literal ascii.null_text lexed.null t) numbers

    falses : Token
    falses = cond (eqb (head t) 102) (literal ascii.false_text (lexed.boolean false) t) nulls

content_token : (xs : List ℕ) (o : Option (List ℕ)) → content plain xs ≡ o → IsUtf8 xs → is_text_token (string_token o) ≡ true
content_token xs None is u = refl
content_token xs (Some s) is u = string_text xs s u is

byte_text : (m : Mode) (c : Class) (x : ℕ) (xs : List ℕ) (k : Mode → List Lexeme) → (c ≡ quote → IsUtf8 xs) → ((next : Mode) → are_text_lexemes (k next) ≡ true)
    → are_text_lexemes (lex_byte m c x xs k) ≡ true
byte_text between quote x xs k text all = both (content_token xs (content plain xs) refl (text refl)) (all in_string)
byte_text between backslash x xs k text all = all in_word
byte_text between operator x xs k text all = both (operator_text x) (all between)
byte_text between space x xs k text all = all between
byte_text between other x xs k text all = both (word_text (x ∷ xs)) (all in_word)
byte_text in_word quote x xs k text all = all in_word
byte_text in_word backslash x xs k text all = all in_word
byte_text in_word operator x xs k text all = both (operator_text x) (all between)
byte_text in_word space x xs k text all = all between
byte_text in_word other x xs k text all = all in_word
byte_text in_string quote x xs k text all = all between
byte_text in_string backslash x xs k text all = all in_escape
byte_text in_string operator x xs k text all = all in_string
byte_text in_string space x xs k text all = all in_string
byte_text in_string other x xs k text all = all in_string
byte_text in_escape c x xs k text all = all in_string

quote_class : (x : ℕ) → class x ≡ quote → eqb x 34 ≡ true
quote_class x is = by_tests (eqb x 34) (eqb x 92) (is_operator x) (is_space x) is
  where
    by_tests : (q b o s : Bool) → cond q quote (cond b backslash (cond o operator (cond s space other))) ≡ quote → q ≡ true
    by_tests true b o s is = refl
    by_tests false true o s is = cc
    by_tests false false true s is = cc
    by_tests false false false true is = cc
    by_tests false false false false is = cc

lex_text : (m : Mode) (front xs : List ℕ) → IsUtf8 (front ++ xs) → are_text_lexemes (lex m xs) ≡ true
unfolding lex
lex_text m front [] u = refl
lex_text m front (x ∷ xs) u =
    byte_text m (class x) x xs (λ (next : Mode). lex next xs)
    (λ is. let same : x ≡ 34 = eqb-true x 34 (quote_class x is) in (cut front xs x (omega (arith, same)) u).1)
    (λ next. lex_text next (front ++ x ∷ []) xs (subst IsUtf8 (sym (append_assoc front (x ∷ []) xs)) u))

allowed_text : (b : Bool) (t : Token) (k : Place → List Token) (next : Place) → is_text_token t ≡ true → ((next : Place) → are_text_tokens (k next) ≡ true) → are_text_tokens (if_allowed b t k next) ≡ true
allowed_text true t k next is all = both is (all next)
allowed_text false t k next is all = refl

placed_text : (p : Place) (t : Token) (b : Bool) (k : Place → List Token) → is_text_token t ≡ true → ((next : Place) → are_text_tokens (k next) ≡ true) → are_text_tokens (place_token p t b k) ≡ true
placed_text p lexed.begin_object b k is all = allowed_text _ lexed.begin_object k fresh refl all
placed_text p lexed.end_object b k is all = allowed_text _ lexed.end_object k after_value refl all
placed_text p lexed.begin_array b k is all = allowed_text _ lexed.begin_array k fresh refl all
placed_text p lexed.end_array b k is all = allowed_text _ lexed.end_array k after_value refl all
placed_text p (lexed.key s) b k is all = refl
placed_text p (lexed.string s) true k is all = allowed_text _ (lexed.key s) k after_key refl all
placed_text p (lexed.string s) false k is all = allowed_text _ (lexed.string s) k after_value is all
placed_text p (lexed.number s) b k is all = allowed_text _ (lexed.number s) k after_value refl all
placed_text p (lexed.boolean v) b k is all = allowed_text _ (lexed.boolean v) k after_value refl all
placed_text p lexed.null b k is all = allowed_text _ lexed.null k after_value refl all
placed_text p lexed.bad b k is all = refl

punctuated : (p : Place) (ls : List Lexeme) → are_text_lexemes ls ≡ true → are_text_tokens (punctuate p ls) ≡ true
unfolding punctuate
punctuated fresh [] all = refl
punctuated after_value [] all = refl
punctuated after_comma [] all = refl
punctuated after_key [] all = refl
punctuated fresh (token t ∷ ls) all =
    let parts = and_parts (is_text_token t) (are_text_lexemes ls) all in placed_text fresh t (begins_colon ls) (λ next. punctuate next ls) parts.0 (λ next. punctuated next ls parts.1)
punctuated after_value (token t ∷ ls) all =
    let parts = and_parts (is_text_token t) (are_text_lexemes ls) all in placed_text after_value t (begins_colon ls) (λ next. punctuate next ls) parts.0 (λ next. punctuated next ls parts.1)
punctuated after_comma (token t ∷ ls) all =
    let parts = and_parts (is_text_token t) (are_text_lexemes ls) all in placed_text after_comma t (begins_colon ls) (λ next. punctuate next ls) parts.0 (λ next. punctuated next ls parts.1)
punctuated after_key (token t ∷ ls) all =
    let parts = and_parts (is_text_token t) (are_text_lexemes ls) all in placed_text after_key t (begins_colon ls) (λ next. punctuate next ls) parts.0 (λ next. punctuated next ls parts.1)
punctuated fresh (comma ∷ ls) all = refl
punctuated after_value (comma ∷ ls) all = punctuated after_comma ls all
punctuated after_comma (comma ∷ ls) all = refl
punctuated after_key (comma ∷ ls) all = refl
punctuated fresh (colon ∷ ls) all = refl
punctuated after_value (colon ∷ ls) all = refl
punctuated after_comma (colon ∷ ls) all = refl
punctuated after_key (colon ∷ ls) all = punctuated fresh ls all

tokens_text : (text : List ℕ) → IsUtf8 text → are_text_tokens (tokens text) ≡ true
tokens_text text u = punctuated fresh (lex between text) (lex_text between [] text u)

-- ---- values of the grammar

abbrev mutual
  is_text_json : json.Json → Bool
  is_text_json json.null = true
  is_text_json (json.boolean b) = true
  is_text_json (json.number s) = true
  is_text_json (json.string s) = is_utf8 s
  is_text_json (json.array js) = are_text_items js
  is_text_json (json.object ms) = are_text_members ms

  are_text_items : json.Items → Bool
  are_text_items json.no_items = true
  are_text_items (json.item j js) = is_text_json j && are_text_items js

  are_text_members : json.Members → Bool
  are_text_members json.no_members = true
  are_text_members (json.member k j ms) = is_text_json j && are_text_members ms

-- what was read is good, and the tokens behind it are texts
abbrev OnRead : {A : Type 0} → (A → Bool) → Option (A × List Token) → Type 0
OnRead good None = Unit {0}
OnRead good (Some p) = (good p.0 ≡ true) × (are_text_tokens p.1 ≡ true)

mapped : {A B : Type 0} (good : A → Bool) (better : B → Bool) (f : A → B) → ((a : A) → good a ≡ true → better (f a) ≡ true) → (r : Option (A × List Token)) → OnRead good r → OnRead better (json.parse_map f r)
mapped good better f keeps None so = tt
mapped good better f keeps (Some p) so = (keeps p.0 so.0, so.1)

abbrev ReadsWell : {A : Type 0} → (A → Bool) → json.Parse A → Type 0
ReadsWell good parse = (ts : List Token) → are_text_tokens ts ≡ true → OnRead good (parse ts)

item_behind : (more : json.Parse json.Items) → ReadsWell are_text_items more → (r : Option (json.Json × List Token)) → OnRead is_text_json r
    → OnRead are_text_items (option_and_then (λ p. json.parse_map (json.item p.0) (more p.1)) r)
item_behind more well None so = tt
item_behind more well (Some p) so = mapped are_text_items are_text_items (json.item p.0) (λ js is. both so.0 is) (more p.1) (well p.1 so.1)

member_behind : (k : List ℕ) (more : json.Parse json.Members) → ReadsWell are_text_members more → (r : Option (json.Json × List Token)) → OnRead is_text_json r
    → OnRead are_text_members (option_and_then (λ p. json.parse_map (json.member k p.0) (more p.1)) r)
member_behind k more well None so = tt
member_behind k more well (Some p) so = mapped are_text_members are_text_members (json.member k p.0) (λ ms is. both so.0 is) (more p.1) (well p.1 so.1)

abbrev OnEnd : Option (List Token) → Type 0
OnEnd None = Unit {0}
OnEnd (Some rest) = are_text_tokens rest ≡ true

array_ends : (ts : List Token) → are_text_tokens ts ≡ true → OnEnd (json.after_end_array ts)
array_ends [] all = tt
array_ends (lexed.begin_object ∷ ts) all = tt
array_ends (lexed.end_object ∷ ts) all = tt
array_ends (lexed.begin_array ∷ ts) all = tt
array_ends (lexed.end_array ∷ ts) all = all
array_ends (lexed.key s ∷ ts) all = tt
array_ends (lexed.string s ∷ ts) all = tt
array_ends (lexed.number s ∷ ts) all = tt
array_ends (lexed.boolean b ∷ ts) all = tt
array_ends (lexed.null ∷ ts) all = tt
array_ends (lexed.bad ∷ ts) all = tt

items_stepped : (value : json.Parse json.Json) (more : json.Parse json.Items) → ReadsWell is_text_json value → ReadsWell are_text_items more → (ts : List Token) → are_text_tokens ts ≡ true
    → (end : Option (List Token)) → OnEnd end → OnRead are_text_items (json.items_step value more ts end)
items_stepped value more first second ts all (Some rest) ended = (refl, ended)
items_stepped value more first second ts all None ended = item_behind more second (value ts) (first ts all)

items_read : (value : json.Parse json.Json) → ReadsWell is_text_json value → (n : ℕ) → ReadsWell are_text_items (json.items value n)
unfolding json.items
items_read value well zero ts all = tt
items_read value well (suc n) ts all = items_stepped value (json.items value n) well (items_read value well n) ts all (json.after_end_array ts) (array_ends ts all)

abbrev is_any_key : Option (List ℕ) → Bool
is_any_key k = true

key_read : ReadsWell is_any_key json.read_key
key_read [] all = tt
key_read (lexed.begin_object ∷ ts) all = tt
key_read (lexed.end_object ∷ ts) all = (refl, all)
key_read (lexed.begin_array ∷ ts) all = tt
key_read (lexed.end_array ∷ ts) all = tt
key_read (lexed.key s ∷ ts) all = (refl, all)
key_read (lexed.string s ∷ ts) all = tt
key_read (lexed.number s ∷ ts) all = tt
key_read (lexed.boolean b ∷ ts) all = tt
key_read (lexed.null ∷ ts) all = tt
key_read (lexed.bad ∷ ts) all = tt

members_stepped : (value : json.Parse json.Json) (more : json.Parse json.Members) → ReadsWell is_text_json value → ReadsWell are_text_members more → (k : Option (List ℕ)) (ts : List Token)
    → are_text_tokens ts ≡ true → OnRead are_text_members (json.members_step value more k ts)
members_stepped value more first second None ts all = (refl, all)
members_stepped value more first second (Some k) ts all = member_behind k more second (value ts) (first ts all)

members_behind : (value : json.Parse json.Json) (more : json.Parse json.Members) → ReadsWell is_text_json value → ReadsWell are_text_members more → (r : Option (Option (List ℕ) × List Token)) → OnRead is_any_key r
    → OnRead are_text_members (option_and_then (λ p. json.members_step value more p.0 p.1) r)
members_behind value more first second None so = tt
members_behind value more first second (Some p) so = members_stepped value more first second p.0 p.1 so.1

members_read : (value : json.Parse json.Json) → ReadsWell is_text_json value → (n : ℕ) → ReadsWell are_text_members (json.members value n)
unfolding json.members
members_read value well zero ts all = tt
members_read value well (suc n) ts all = members_behind value (json.members value n) well (members_read value well n) (json.read_key ts) (key_read ts all)

with_read : (a : json.Parse json.Items) (o : json.Parse json.Members) → ReadsWell are_text_items a → ReadsWell are_text_members o → ReadsWell is_text_json (json.value_with a o)
with_read a o first second [] all = tt
with_read a o first second (lexed.begin_object ∷ ts) all = mapped are_text_members is_text_json json.object (λ ms is. is) (o ts) (second ts all)
with_read a o first second (lexed.end_object ∷ ts) all = tt
with_read a o first second (lexed.begin_array ∷ ts) all = mapped are_text_items is_text_json json.array (λ js is. is) (a ts) (first ts all)
with_read a o first second (lexed.end_array ∷ ts) all = tt
with_read a o first second (lexed.key s ∷ ts) all = tt
with_read a o first second (lexed.string s ∷ ts) all = and_parts (is_utf8 s) (are_text_tokens ts) all
with_read a o first second (lexed.number s ∷ ts) all = (refl, all)
with_read a o first second (lexed.boolean b ∷ ts) all = (refl, all)
with_read a o first second (lexed.null ∷ ts) all = (refl, all)
with_read a o first second (lexed.bad ∷ ts) all = tt

value_read : (depth : ℕ) → ReadsWell is_text_json (json.value depth)
unfolding json.value
value_read zero ts all = with_read (λ ts. None) (λ ts. None) (λ ts all. tt) (λ ts all. tt) ts all
value_read (suc depth) ts all =
    with_read (λ ts. json.items (json.value depth) (length ts) ts) (λ ts. json.members (json.value depth) (length ts) ts)
    (λ ts all. items_read (json.value depth) (value_read depth) (length ts) ts all) (λ ts all. members_read (json.value depth) (value_read depth) (length ts) ts all) ts all

-- ---- values

abbrev mutual
  pub is_text_data : Data → Bool
  is_text_data null = true
  is_text_data (boolean b) = true
  is_text_data (number n) = true
  is_text_data (string s) = is_utf8 s
  is_text_data (array ds) = are_text_elements ds
  is_text_data (object ms) = are_text_values ms

  pub are_text_elements : Items → Bool
  are_text_elements no_items = true
  are_text_elements (item d ds) = is_text_data d && are_text_elements ds

  pub are_text_values : Members → Bool
  are_text_values no_members = true
  are_text_values (member k d ms) = is_text_data d && are_text_values ms

ordered : {A : Type 0} (good : A → Bool) (o : Ordering) (x y z : A) → good x ≡ true → good y ≡ true → good z ≡ true → good (match_ordering o x y z) ≡ true
ordered good Less x y z first second third = first
ordered good Equal x y z first second third = second
ordered good Greater x y z first second third = third

put_text : (k : List ℕ) (d : Data) (ms : Members) → is_text_data d ≡ true → are_text_values ms ≡ true → are_text_values (put k d ms) ≡ true
put_text k d no_members is all = both is refl
put_text k d (member l e ms) is all =
    let parts = and_parts (is_text_data e) (are_text_values ms) all in
    ordered are_text_values (slice_cmp nat_cmp k l) _ _ _ (both is all) (both is parts.1) (both parts.0 (put_text k d ms is parts.1))

abbrev OnGood : {A : Type 0} → (A → Bool) → Option A → Type 0
OnGood good None = Unit {0}
OnGood good (Some a) = good a ≡ true

mapped_good : {A B : Type 0} (good : A → Bool) (better : B → Bool) (f : A → B) → ((a : A) → good a ≡ true → better (f a) ≡ true) → (o : Option A) → OnGood good o → OnGood better (option_map f o)
mapped_good good better f keeps None so = tt
mapped_good good better f keeps (Some a) so = keeps a so

any_number : (o : Option Num) → OnGood is_text_data (option_map number o)
any_number None = tt
any_number (Some n) = refl

element_behind : (o : Option Data) → OnGood is_text_data o → (r : Option Items) → OnGood are_text_elements r → OnGood are_text_elements (option_and_then (λ (d : Data). option_map (item d) r) o)
element_behind None first r second = tt
element_behind (Some d) first r second = mapped_good are_text_elements are_text_elements (item d) (λ ds so. both first so) r second

value_behind : (k : List ℕ) (next : Members → Option Members) (found : Members) → ((found : Members) → are_text_values found ≡ true → OnGood are_text_values (next found)) → (o : Option Data) → OnGood is_text_data o
    → are_text_values found ≡ true → OnGood are_text_values (option_and_then (λ (d : Data). next (put k d found)) o)
value_behind k next found well None first so = tt
value_behind k next found well (Some d) first so = well (put k d found) (put_text k d found first so)

mutual
  data_text : (j : json.Json) → is_text_json j ≡ true → OnGood is_text_data (of_json j)
  data_text json.null is = refl
  data_text (json.boolean b) is = refl
  data_text (json.number s) is = any_number (number_of s)
  data_text (json.string s) is = is
  data_text (json.array js) is = mapped_good are_text_elements is_text_data array (λ ds so. so) (of_items js) (elements_text js is)
  data_text (json.object ms) is = mapped_good are_text_values is_text_data object (λ ms so. so) (of_members ms no_members) (values_text ms no_members is refl)

  elements_text : (js : json.Items) → are_text_items js ≡ true → OnGood are_text_elements (of_items js)
  elements_text json.no_items is = refl
  elements_text (json.item j js) is =
      let parts = and_parts (is_text_json j) (are_text_items js) is in element_behind (of_json j) (data_text j parts.0) (of_items js) (elements_text js parts.1)

  values_text : (ms : json.Members) (found : Members) → are_text_members ms ≡ true → are_text_values found ≡ true → OnGood are_text_values (of_members ms found)
  values_text json.no_members found is so = so
  values_text (json.member k j ms) found is so =
      let parts = and_parts (is_text_json j) (are_text_members ms) is in
      value_behind k (of_members ms) found (λ found so. values_text ms found parts.1 so) (of_json j) (data_text j parts.0) so

pub read_text : (text : List ℕ) (d : Data) → IsUtf8 text → read text ≡ Some d → is_text_data d ≡ true
read_text text d u is = by_value (json.value max_depth (tokens text)) (value_read max_depth (tokens text) (tokens_text text u)) is
  where
    good : (o : Option Data) → OnGood is_text_data o → o ≡ Some d → is_text_data d ≡ true
    good None so is = cc
    good (Some e) so is = let same : e ≡ d = cc in subst (λ (x : Data). is_text_data x ≡ true) same so

    by_last : (j : json.Json) (ts : List Token) → is_text_json j ≡ true → option_and_then of_json (json.if_last j ts) ≡ Some d → is_text_data d ≡ true
    by_last j [] so is = good (of_json j) (data_text j so) is
    by_last j (t ∷ ts) so is = cc

    by_value : (r : Option (json.Json × List Token)) → OnRead is_text_json r → option_and_then of_json (option_and_then (λ p. json.if_last p.0 p.1) r) ≡ Some d → is_text_data d ≡ true
    by_value None so is = cc
    by_value (Some p) so is = by_last p.0 p.1 so.0 is
