-- The text of a token is read as it, and no other text is read.
use Rattle.std.proofs.Common.{◌≡◌, ◌∙◌, ℕ, ◌+◌, ◌<◌, ◌^◌, inl, inr, Bool, true, not, ◌&&◌, cond, decimal, List, [], ◌∷◌, ◌++◌, length, take, drop, Option, Some, None, IfSome, refl, sym, ap, arith, suc, add-one}
use Rattle.std.specs.Prelude.{nat_lt}
use Rattle.std.specs.List.{after_first, before_first, list_all, position_or_len}
use Rattle.std.specs.Str.{bytes_eq}
use Rattle.std.specs.Str.Parse.{digits_value}
use Rattle.std.proofs.lemmas.Bool.{and_from, and_parts, cases_Bool, cond-true, cond-false, lt-ltb, ltb-true}
use Rattle.std.proofs.lemmas.Fmt.{decimal_is_IsNumeral}
use Rattle.std.proofs.lemmas.Slice.Eq.{bytes_eq-Decides}
use Rattle.oai_lists.specs.Tokens.{IsToken, is_full_stop, token_numbers, token_of, token_text}
use Rattle.oai_lists.specs.declared.tokens.Token.{Token}
use Rattle.oai_lists.proofs.Stops.{is_other, no_stop}

-- ---- the first full stop stands between the numbers

place : (front rest : List ℕ) → list_all is_other front ≡ true → position_or_len is_full_stop (front ++ 46 ∷ rest) ≡ length front
place [] rest h = refl
place (b ∷ front) rest h =
    let parts = and_parts (is_other b) (list_all is_other front) h in
    let n : ℕ = position_or_len is_full_stop (front ++ 46 ∷ rest) in
    cond-true (not (is_full_stop b)) (1 + n) 0 parts.0 ∙ ap (λ m. 1 + m) (place front rest parts.1) ∙ omega arith

take_front : (front rest : List ℕ) → take (length front) (front ++ 46 ∷ rest) ≡ front
take_front [] rest = refl
take_front (b ∷ front) rest = ap (λ ys. b ∷ ys) (take_front front rest)

drop_front : (front rest : List ℕ) → drop (suc (length front)) (front ++ 46 ∷ rest) ≡ rest
drop_front [] rest = refl
drop_front (b ∷ front) rest = drop_front front rest

front_of : (n m : ℕ) → n < 2 ^ 64 → before_first is_full_stop (decimal n ++ 46 ∷ decimal m) ≡ decimal n
front_of n m small =
    let text : List ℕ = decimal n ++ 46 ∷ decimal m in
    ap (λ k. take k text) (place (decimal n) (decimal m) (no_stop n small)) ∙ take_front (decimal n) (decimal m)

back_of : (n m : ℕ) → n < 2 ^ 64 → after_first is_full_stop (decimal n ++ 46 ∷ decimal m) ≡ decimal m
back_of n m small =
    let text : List ℕ = decimal n ++ 46 ∷ decimal m in
    ap (λ k. drop (k + 1) text) (place (decimal n) (decimal m) (no_stop n small)) ∙ ap (λ k. drop k text) (add-one (length (decimal n))) ∙ drop_front (decimal n) (decimal m)

value_of : (n : ℕ) → n < 2 ^ 64 → digits_value 10 (decimal n) ≡ n
value_of n small = (decimal_is_IsNumeral n small).1

numbers_of : (token : Token) → token.list < 2 ^ 64 → token.cursor < 2 ^ 64 → token_numbers (token_text token) ≡ token
unfolding token_text
numbers_of token list cursor =
    let front = ap (digits_value 10) (front_of token.list token.cursor list) ∙ value_of token.list list in
    let back = ap (digits_value 10) (back_of token.list token.cursor list) ∙ value_of token.cursor cursor in
    let made : ℕ → ℕ → Token = λ l c. record { list = l; cursor = c } in
    ap (λ l. made l (digits_value 10 (after_first is_full_stop (token_text token)))) front ∙ ap (made token.list) back

-- ---- a text, as it is read

abbrev is_read : List ℕ → Token → Bool
is_read text token = bytes_eq (token_text token) text && nat_lt token.list (2 ^ 64) && nat_lt token.cursor (2 ^ 64)

passes : (text : List ℕ) (token : Token) → IsToken text token → is_read text token ≡ true
passes text token is =
    and_from (bytes_eq (token_text token) text && nat_lt token.list (2 ^ 64)) (nat_lt token.cursor (2 ^ 64))
    (and_from (bytes_eq (token_text token) text) (nat_lt token.list (2 ^ 64)) ((bytes_eq-Decides (token_text token) text).1 (sym is.spelled)) (lt-ltb token.list (2 ^ 64) is.list))
    (lt-ltb token.cursor (2 ^ 64) is.cursor)

pub token_of-is : (text : List ℕ) (token : Token) → IsToken text token → token_of text ≡ Some token
unfolding token_of
token_of-is text token is =
    let same : token_numbers text ≡ token = ap token_numbers is.spelled ∙ numbers_of token is.list is.cursor in
    ap (λ (t : Token). cond (is_read text t) (Some t) None) same ∙ cond-true (is_read text token) (Some token) None (passes text token is)

from_read : (text : List ℕ) (token : Token) → is_read text token ≡ true → IsToken text token
from_read text token h =
    let outer = and_parts (bytes_eq (token_text token) text && nat_lt token.list (2 ^ 64)) (nat_lt token.cursor (2 ^ 64)) h in
    let inner = and_parts (bytes_eq (token_text token) text) (nat_lt token.list (2 ^ 64)) outer.0 in
    record {
      list = ltb-true token.list (2 ^ 64) inner.1;
      cursor = ltb-true token.cursor (2 ^ 64) outer.1;
      spelled = sym ((bytes_eq-Decides (token_text token) text).0 inner.0);
    }

none_is : (text : List ℕ) (nothing : Option Token) → nothing ≡ None → ((token : Token) → IsToken text token → nothing ≡ Some token) → token_of text ≡ None
unfolding token_of
none_is text nothing e only =
    let token : Token = token_numbers text in
    elim (cases_Bool (is_read text token)) [
      | inl reads ↦ let clash : None ≡ Some token = sym e ∙ only token (from_read text token reads) in cc
      | inr fails ↦ cond-false (is_read text token) (Some token) None fails
    ]

-- what reads each text that is a token's, and no other, reads as the definition says
pub read_is : (text : List ℕ) (read : Option Token) → IfSome read (λ token. IsToken text token) → ((token : Token) → IsToken text token → read ≡ Some token) → read ≡ token_of text
read_is text None found only = sym (none_is text None refl only)
read_is text (Some token) found only = sym (token_of-is text token found)
