-- What is read is the number of the digits, with its sign; a text that is not all digits behind a minus is no moment.
use Rattle.std.proofs.Common.{◌≡◌, ◌∙◌, ℕ, zero, suc, ℤ, pos, neg_ℤ, ◌+◌, ◌^◌, ◌==◌, true, List, [], ◌∷◌, drop, slice_index, Option, None, Result, w64, sym, ap, ◌≢◌, arith, lit<}
use Rattle.std.specs.Option.{option_map}
use Rattle.std.specs.Result.{result_ok}
use Rattle.std.specs.Str.{all_ascii_digits, IsAscii, IsUtf8}
use Rattle.std.specs.Str.Parse.{ParsesSigned, digits_value}
use Rattle.std.proofs.lemmas.Bool.{cond_both, eq-eqb, eqb-true, false≢true}
use Rattle.std.proofs.lemmas.Str.{IsUtf8-from_ascii}
use Rattle.std.proofs.lemmas.Str.Parse.{parse_signed_minus, parse_signed_plain}
use Rattle.oai_bytes.specs.Numbers.{moment_of, numeral_below}
use Rattle.oai_bytes.proofs.NumeralLemmas.{begins_otherwise, begins_so, digits_ascii, none_below, none_of_plus, numerals, parsed_below, up_to}
use Rattle.oai_bytes.proofs.numbers.read_moment.Goals as goal

-- where neither the text nor what stands behind its minus is a numeral, it is no moment
no_moment : (text : List ℕ) → (slice_index text 0 ≡ 45 → None ≡ numeral_below (2 ^ 63 + 1) (drop 1 text)) → None ≡ numeral_below (2 ^ 63) text → None ≡ moment_of text
unfolding moment_of
no_moment text behind whole =
    cond_both (slice_index text 0 == 45) _ _ (λ (m : Option ℤ). None ≡ m) (λ e. ap (option_map (λ n. neg_ℤ (pos n))) (behind (eqb-true _ _ e))) (λ _. ap (option_map pos) whole)

-- a minus is ASCII
minus_ascii : (text : List ℕ) → slice_index text 0 ≡ 45 → all_ascii_digits (drop 1 text) ≡ true → IsAscii text
minus_ascii [] is h i = lit< tt
minus_ascii (b ∷ bs) is h zero = omega (arith, is)
minus_ascii (b ∷ bs) is h (suc i) = digits_ascii bs h i

-- what is no text is no moment
no_text : (text : List ℕ) → (IsUtf8 text → ⊥) → None ≡ moment_of text
no_text text not =
    no_moment text (λ is. none_below (2 ^ 63 + 1) (drop 1 text) (λ all. not (IsUtf8-from_ascii text (minus_ascii text is all))))
    (none_below (2 ^ 63) text (λ all. not (IsUtf8-from_ascii text (digits_ascii text all))))

parsed : {E : Type 0} (text : List ℕ) (r : Result ℤ E) → slice_index text 0 ≢ 43 → ParsesSigned w64 10 text r → result_ok r ≡ moment_of text
unfolding moment_of
parsed text r no_plus h =
    cond_both (slice_index text 0 == 45) _ _ (λ (m : Option ℤ). result_ok r ≡ m)
    (λ e. parsed_below (2 ^ 63 + 1) (drop 1 text) (λ n. neg_ℤ (pos n)) r
    (up_to r _ _ (digits_value 10 (drop 1 text)) (2 ^ 63) _ (parse_signed_minus numerals w64 text r h (eqb-true _ _ e))))
    (λ e. parsed_below (2 ^ 63) text pos r (parse_signed_plain numerals w64 text r h no_plus (λ is. false≢true (sym e ∙ eq-eqb _ _ is))))

pub returns-then-starts_with : goal.returns-then-starts_with
returns-then-starts_with c =
    let text = c.args.text.now in
    let begins = begins_so text c.if-starts_with.ensures.value in
    no_moment text (λ is. absurd (omega (arith, begins, is))) (none_of_plus (2 ^ 63) text begins)

pub returns-in_default : goal.returns-in_default
returns-in_default c = no_text c.args.text.now c.in_default.ensures.cases.0

pub returns : goal.returns
returns c =
    let text = c.args.text.now in
    let same : c.in-Ok.text.now ≡ text = c.in-Ok.ensures.cases.0 in
    let h : ParsesSigned w64 10 text c.parse.result = rw same at c.parse.ensures.value.0 in
    c.ok.ensures.value ∙ parsed text c.parse.result (begins_otherwise text c.if-starts_with.ensures.value) h
