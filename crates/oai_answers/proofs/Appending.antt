-- One piece is appended after another.
use Rattle.std.proofs.Common.{ℕ, List, ◌++◌, ◌∙◌, ap, sym, append_assoc}
use Rattle.oai_answers.specs.Appends.{Appends}

-- the first piece and then the second are their sum
infixl 10 ◌⨾◌
pub ◌⨾◌ : {a b c p q : List ℕ} → Appends a b p → Appends b c q → Appends a c (p ++ q)
◌⨾◌ {a} {b} {c} {p} {q} first second = record { is = second.is ∙ ap (λ (xs : List ℕ). xs ++ q) first.is ∙ append_assoc a p q }

-- a piece and then three pieces
pub before_three : {a b c p : List ℕ} (x y z : List ℕ) → Appends a b p → Appends b c (x ++ y ++ z) → Appends a c (p ++ x ++ y ++ z)
before_three {a} {b} {c} {p} x y z first second =
    let whole = first ⨾ second in
    record {
      is =
          whole.is ∙ ap (λ (xs : List ℕ). a ++ xs) (sym (append_assoc p (x ++ y) z) ∙ ap (λ (xs : List ℕ). xs ++ z) (sym (append_assoc p x y)));
    }
