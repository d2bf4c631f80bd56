use Rattle.std.proofs.Common.{◌≡◌, ◌∙◌, ℕ, ◌-◌, List, [], ◌∷◌, ◌++◌, length, ap, arith}
use Rattle.std.proofs.Math.ListN.{set}
use Rattle.std.proofs.lemmas.List.{length-append, set_at}
use Rattle.oai_journal.proofs.file.close_group.Goals as goal

-- the last byte of a text is set
last_set : (text inside : List ℕ) (gate n : ℕ) → text ≡ inside ++ gate ∷ [] → n ≡ length text → set text (n - 1) 45 ≡ inside ++ 45 ∷ []
last_set text inside gate n is size =
    let at : length inside ≡ n - 1 = omega (arith, ap length is, length-append inside (gate ∷ []), size) in
    ap (λ (l : List ℕ). set l (n - 1) 45) is ∙ set_at inside gate [] 45 (n - 1) at

pub returns-clause-gate : goal.returns-clause-gate
returns-clause-gate c inside gate is =
    last_set c.args.pending.now.items inside gate c.len-last.result is (omega (arith, c.len-last.ensures, c.args.pending.now.ok.0))
