-- the lines in order
use Rattle.std.proofs.Common.{◌≡◌, List, ℕ, [], ◌++◌, ◌∙◌, ap, append_assoc}
use Rattle.oai_front.specs.Heads.{answer_head, plain}
use Rattle.oai_front.proofs.heads.write_head.Goals as goal

-- a buffer gained a piece
record Adds (old new piece : List ℕ) : Type 0 where
  is : new ≡ old ++ piece

infixl 10 ◌⨾◌
◌⨾◌ : {a b c p q : List ℕ} → Adds a b p → Adds b c q → Adds a c (p ++ q)
◌⨾◌ {a} {b} {c} {p} {q} first second = record { is = second.is ∙ ap (λ (xs : List ℕ). xs ++ q) first.is ∙ append_assoc a p q }

from_empty : (old new piece : List ℕ) → old ≡ [] → Adds old new piece → new ≡ piece
from_empty old new piece e a = a.is ∙ ap (λ (xs : List ℕ). xs ++ piece) e

pub returns : goal.returns
unfolding answer_head plain
returns c =
    from_empty _ _ _ c.requires.empty (record { is = c.write_status.ensures.items } ⨾ record { is = c.write_fields.ensures.items } ⨾ record { is = c.write_close.ensures.items }
    ⨾ record { is = c.write_length.ensures.items } ⨾ record { is = c.put.ensures.items })
