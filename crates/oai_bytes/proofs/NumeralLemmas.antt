-- Decimal digits: what `parse` reads of them, and what is read of a number that was written.
use Rattle.std.proofs.Common.{◌≡◌, ℕ, zero, suc, ◌+◌, ◌<◌, ◌≤◌, ℤ, pos, neg_ℤ, negsuc, ◌^◌, ◌==◌, Bool, true, false, ◌&&◌, nat_lt, nat_eq, List, [], ◌∷◌, length, slice_index, Option, Some, None, cond, Result, Ok, Err, FitsSigned, w64, decimal, refl, sym, ap, subst, ◌∙◌, ◌≢◌, arith, lit<, codes}
use Rattle.std.specs.Fmt.{signed_decimal}
use Rattle.std.specs.Int.{IsInRange}
use Rattle.std.specs.List.{All, starts_with}
use Rattle.std.specs.Option.{option_map}
use Rattle.std.specs.Result.{OkIff, result_ok}
use Rattle.std.specs.Str.{all_ascii_digits, IsAscii}
use Rattle.std.specs.Str.Parse.{digits_value}
use Rattle.std.proofs.lemmas.Bool.{and_from, and_parts, cond-false, cond-true, cond_both, eq-eqb, eqb-true, false_from_ne_true, false≢true, lt-ltb, ltb-true}
use Rattle.std.proofs.lemmas.Fmt.{decimal_nonempty, digits_decimal, digits_value-decimal}
use Rattle.std.proofs.lemmas.List.Elements.{All-cons, All-nil}
use Rattle.std.proofs.lemmas.Str.Parse.{IsNumeralModel, numerals_by_value, tells_all_ascii_digits}
use Rattle.oai_bytes.specs.Numbers.{moment_of, number_in, numeral_below}

pub numerals : IsNumeralModel (λ ds. all_ascii_digits ds ≡ true) (digits_value 10)
numerals = numerals_by_value _ tells_all_ascii_digits

-- ---- texts that are no numeral

-- digits are ASCII
pub digits_ascii : (text : List ℕ) → all_ascii_digits text ≡ true → IsAscii text
digits_ascii [] h i = lit< tt
digits_ascii (b ∷ bs) h zero = let p = tells_all_ascii_digits.parts b bs h in omega (arith, p.0)
digits_ascii (b ∷ bs) h (suc i) = digits_ascii bs (tells_all_ascii_digits.parts b bs h).1 i

-- a text that is not all digits is none
pub none_below : (limit : ℕ) (text : List ℕ) → (all_ascii_digits text ≡ true → ⊥) → None ≡ numeral_below limit text
unfolding numeral_below
none_below limit text not =
    cond_both (all_ascii_digits text && nat_lt 0 (length text) && nat_lt (digits_value 10 text) limit) _ None (λ (m : Option ℕ). None ≡ m)
    (λ t. absurd (not (and_parts _ _ (and_parts _ _ t).0).0)) (λ _. refl)

-- and so is one that begins with a plus
pub none_of_plus : (limit : ℕ) (text : List ℕ) → slice_index text 0 ≡ 43 → None ≡ numeral_below limit text
unfolding numeral_below
none_of_plus limit [] h = refl
none_of_plus limit (b ∷ bs) h = let P : ℕ → Type 0 = λ x. None ≡ numeral_below limit (x ∷ bs) in subst P (sym h) refl

pub begins_so : (text : List ℕ) → true ≡ starts_with nat_eq text (codes "+") → slice_index text 0 ≡ 43
begins_so [] h = cc
begins_so (b ∷ bs) h = sym (eqb-true _ _ (and_parts _ _ (sym h)).0)

pub begins_otherwise : (text : List ℕ) → false ≡ starts_with nat_eq text (codes "+") → slice_index text 0 ≢ 43
begins_otherwise [] h e = omega (arith, e)
begins_otherwise (b ∷ bs) h e = false≢true (h ∙ and_from _ _ (eq-eqb _ _ (sym e)) refl)

-- ---- what is parsed

as_tested : {A E : Type 0} (r : Result A E) (P : Type 0) (f : ℕ → A) (value : ℕ) (test : Bool) → OkIff r P (f value) → (P → test ≡ true) → (test ≡ true → P)
    → result_ok r ≡ option_map f (cond test (Some value) None)
as_tested (Ok y) P f value true h to from = ap Some h.1
as_tested (Ok y) P f value false h to from = absurd (false≢true (to h.0))
as_tested (Err e) P f value true h to from = absurd (h (from refl))
as_tested (Err e) P f value false h to from = refl

-- a number below the limit is that of the numeral
pub parsed_below : {A E : Type 0} (limit : ℕ) (text : List ℕ) (f : ℕ → A) (r : Result A E)
    → OkIff r ((all_ascii_digits text ≡ true) × (0 < length text) × (digits_value 10 text < limit)) (f (digits_value 10 text))
    → result_ok r ≡ option_map f (numeral_below limit text)
unfolding numeral_below
parsed_below limit text f r h =
    as_tested r _ f (digits_value 10 text) (all_ascii_digits text && nat_lt 0 (length text) && nat_lt (digits_value 10 text) limit) h
    (λ p. and_from _ _ (and_from _ _ p.0 (lt-ltb _ _ p.1)) (lt-ltb _ _ p.2))
    (λ t. let l = and_parts _ _ t in let d = and_parts _ _ l.0 in (d.0, ltb-true _ _ d.1, ltb-true _ _ l.1))

-- one up to a number is one below the next
pub up_to : {A E : Type 0} (r : Result A E) (P Q : Type 0) (value most : ℕ) (x : A) → OkIff r (P × Q × (value ≤ most)) x → OkIff r (P × Q × (value < most + 1)) x
up_to (Ok y) P Q value most x h = ((h.0.0, h.0.1, omega (arith, h.0.2)), h.1)
up_to (Err e) P Q value most x h = λ q. h (q.0, q.1, omega (arith, q.2))

pub map_same : (o : Option ℕ) → option_map (λ n. n) o ≡ o
map_same None = refl
map_same (Some n) = refl

-- ---- what is written

pub numeral_written : (limit n : ℕ) → n < limit → n < 2 ^ 64 → numeral_below limit (decimal n) ≡ Some n
unfolding numeral_below
numeral_written limit n below small =
    let value : digits_value 10 (decimal n) ≡ n = digits_value-decimal numerals n small in
    let fits : nat_lt (digits_value 10 (decimal n)) limit ≡ true = ap (λ v. nat_lt v limit) value ∙ lt-ltb n limit below in
    let is : (all_ascii_digits (decimal n) && nat_lt 0 (length (decimal n)) && nat_lt (digits_value 10 (decimal n)) limit) ≡ true =
    and_from _ _ (and_from _ _ (digits_decimal numerals n small) (lt-ltb 0 (length (decimal n)) (decimal_nonempty n small))) fits in
    cond-true _ (Some (digits_value 10 (decimal n))) None is ∙ ap Some value

pub number_written : (n : ℕ) → n < 2 ^ 64 → number_in (decimal n) ≡ Some n
number_written n small = numeral_written (2 ^ 64) n small small

no_minus : (text : List ℕ) → all_ascii_digits text ≡ true → (slice_index text 0 == 45) ≡ false
no_minus [] h = refl
no_minus (b ∷ bs) h =
    let p = tells_all_ascii_digits.parts b bs h in
    false_from_ne_true (b == 45) (λ e. omega (arith, eqb-true b 45 e, p.0))

pub moment_written : (m : ℤ) → FitsSigned w64 m → moment_of (signed_decimal m) ≡ Some m
unfolding moment_of
moment_written (pos n) fits =
    let below : n < 2 ^ 63 = fits.sfits in
    let small : n < 2 ^ 64 = omega (arith, below) in
    cond-false (slice_index (decimal n) 0 == 45) _ (option_map pos (numeral_below (2 ^ 63) (decimal n))) (no_minus (decimal n) (digits_decimal numerals n small))
    ∙ ap (option_map pos) (numeral_written (2 ^ 63) n below small)
moment_written (negsuc n) fits =
    let below : n < 2 ^ 63 = fits.sfits in
    ap (option_map (λ n. neg_ℤ (pos n))) (numeral_written (2 ^ 63 + 1) (suc n) (omega (arith, below)) (omega (arith, below)))

-- ---- bytes that no number has

module _ (p : ℕ → Bool) (avoids : (b : ℕ) → IsInRange 48 57 b → p b ≡ false) where
  digits_avoid : (text : List ℕ) → all_ascii_digits text ≡ true → All (λ b. p b ≡ false) text
  digits_avoid [] h = All-nil (λ b. p b ≡ false)
  digits_avoid (b ∷ bs) h =
      let q = tells_all_ascii_digits.parts b bs h in
      All-cons (λ x. p x ≡ false) b bs (avoids b q.0) (digits_avoid bs q.1)

  pub number_avoids : (n : ℕ) → n < 2 ^ 64 → All (λ b. p b ≡ false) (decimal n)
  number_avoids n small = digits_avoid (decimal n) (digits_decimal numerals n small)

  pub moment_avoids : p 45 ≡ false → (m : ℤ) → FitsSigned w64 m → All (λ b. p b ≡ false) (signed_decimal m)
  moment_avoids minus (pos n) fits = let below : n < 2 ^ 63 = fits.sfits in number_avoids n (omega (arith, below))
  moment_avoids minus (negsuc n) fits =
      let below : n < 2 ^ 63 = fits.sfits in
      All-cons (λ x. p x ≡ false) 45 (decimal (suc n)) minus (number_avoids (suc n) (omega (arith, below)))
