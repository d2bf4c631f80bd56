-- Two spaces in a text: one behind the first.
use Rattle.std.proofs.Common.{◌≡◌, ◌∙◌, ◌+◌, ℕ, suc, Bool, true, false, ◌||◌, nat_le, cond, List, [], ◌∷◌, drop, refl, sym, ap, arith}
use Rattle.std.specs.List.{after_first, count_by, list_any, position_or_len}
use Rattle.std.proofs.lemmas.List.Sums.{sum_by-cons}

counted : (here others : Bool) (n : ℕ) → others ≡ nat_le 1 n → (here || others) ≡ nat_le 1 (cond here 1 0 + n)
counted true others n so = grind arith
counted false others n so =
    let e : n ≡ 0 + n = omega arith in
    so ∙ ap (nat_le 1) e

-- one passes where one is counted
any_counted : (test : ℕ → Bool) (text : List ℕ) → list_any test text ≡ nat_le 1 (count_by test text)
any_counted test [] = grind arith
any_counted test (x ∷ text) =
    counted (test x) (list_any test text) (count_by test text) (any_counted test text) ∙ ap (nat_le 1) (sym (sum_by-cons (λ y. cond (test y) 1 0) x text))

counted_behind : (here any_after any_all : Bool) (n : ℕ) → any_all ≡ nat_le 1 n → any_after ≡ nat_le 2 n → cond here any_all any_after ≡ nat_le 2 (cond here 1 0 + n)
counted_behind true any_after any_all n one two = grind (arith, one)
counted_behind false any_after any_all n one two =
    let e : n ≡ 0 + n = omega arith in
    two ∙ ap (nat_le 2) e

further : (n x : ℕ) (text : List ℕ) → drop (1 + n + 1) (x ∷ text) ≡ drop (n + 1) text
further n x text =
    let e : 1 + n + 1 ≡ suc (n + 1) = omega arith in
    ap (λ k. drop k (x ∷ text)) e

any_behind : (test : ℕ → Bool) (x : ℕ) (text : List ℕ) (here : Bool) → test x ≡ here → list_any test (after_first test (x ∷ text)) ≡ cond here (list_any test text) (list_any test (after_first test text))
any_behind test x text true is = rw is refl
any_behind test x text false is = rw is (ap (list_any test) (further (position_or_len test text) x text))

-- one passes behind the first that does, where two are counted
pub any_after_first : (test : ℕ → Bool) (text : List ℕ) → list_any test (after_first test text) ≡ nat_le 2 (count_by test text)
any_after_first test [] = grind arith
any_after_first test (x ∷ text) =
    any_behind test x text (test x) refl
    ∙ counted_behind (test x) (list_any test (after_first test text)) (list_any test text) (count_by test text) (any_counted test text) (any_after_first test text)
    ∙ ap (nat_le 2) (sym (sum_by-cons (λ y. cond (test y) 1 0) x text))
