use Rattle.std.proofs.Common.{◌≡◌, ◌∙◌, ◌==◌, true, ℕ, arith, sym}
use Rattle.std.proofs.lemmas.Bool.{both_ways}
use Rattle.oai_places.proofs.reading.find_on.Goals as goal

same_eqb : (a b : ℕ) → a ≡ b → (a == b) ≡ true
same_eqb a b e = grind (arith, e)

pub returns-then-not-has_items : goal.returns-then-not-has_items
returns-then-not-has_items c = λ items page many begins.
    both_ways c.has_items.result c.if-not-has_items.true (c.has_items.ensures items page ∙ same_eqb _ _ (many ∙ sym c.len.ensures))
