-- The text of a number has no full stop, so that a token is cut in one place.
use Rattle.std.proofs.Common.{◌≡◌, ◌≢◌, ◌∙◌, ℕ, ◌+◌, ◌<◌, ◌^◌, ◌%◌, Bool, true, not, eqb, decimal, List, [], ◌∷◌, ◌++◌, length, get_or, Option, Some, None, IfSome, refl, ap, arith}
use Rattle.oai_lists.specs.Tokens.{IsToken, token_text}
use Rattle.oai_lists.specs.HeldTable.{AreNumbers}
use Rattle.oai_lists.specs.declared.tokens.Token.{Token}
use Rattle.std.specs.List.{list_all}
use Rattle.std.proofs.lemmas.Bool.{and_from, both_ways, eq-eqb, ne_eqb, not-true, not_from_false}
use Rattle.std.proofs.lemmas.Fmt.{decimal_by_steps}
use Rattle.std.proofs.lemmas.List.Folds.{list_all-append}
use Rattle.std.proofs.lemmas.List.Sums.{AllPass-from_list_all}

-- the byte is no full stop
abbrev pub is_other : ℕ → Bool
is_other b = not (eqb b 46)

digit_other : (d : ℕ) → is_other (48 + d) ≡ true
digit_other d = not_from_false _ (ne_eqb (48 + d) 46 (λ e. absurd (omega (arith, e))))

pub no_stop : (n : ℕ) → n < 2 ^ 64 → list_all is_other (decimal n) ≡ true
no_stop n small =
    decimal_by_steps (λ m ds. list_all is_other ds ≡ true)
    (λ m below. and_from (is_other (48 + m)) true (digit_other m) refl)
    (λ m ds above h. list_all-append is_other ds ((48 + m % 10) ∷ []) ∙ and_from (list_all is_other ds) _ h (and_from (is_other (48 + m % 10)) true (digit_other (m % 10)) refl))
    n small

pub no_stop_at : (n : ℕ) → n < 2 ^ 64 → (i : ℕ) → i < length (decimal n) → get_or (decimal n) i 0 ≢ 46
no_stop_at n small i within same =
    both_ways (eqb (get_or (decimal n) i 0) 46) (not-true _ (AllPass-from_list_all is_other (decimal n) (no_stop n small) i 0 within)) (eq-eqb (get_or (decimal n) i 0) 46 same)

-- two numbers with a full stop between them are a token
pub found_token : (text list cursor : List ℕ) (read : Option Token) → text ≡ list ++ 46 ∷ cursor
    → IfSome read (λ token. AreNumbers list cursor token) → IfSome read (λ token. IsToken text token)
unfolding token_text
found_token text list cursor None cut h = tt
found_token text list cursor (Some token) cut h = record { list = h.0; cursor = h.1; spelled = cut ∙ ap (λ ys. ys ++ 46 ∷ cursor) h.2 ∙ ap (λ ys. decimal token.list ++ 46 ∷ ys) h.3 }
