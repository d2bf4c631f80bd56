-- What stands around an element: what each step passes.
use Rattle.std.proofs.Common.{◌≡◌, ◌∙◌, ◌<◌, ℕ, zero, suc, true, false, List, Ok, Err, length, ap, arith}
use Rattle.std.specs.Prelude.{codes}
use Rattle.std.proofs.lemmas.Bool.{cond-true, cond-false}
use Rattle.oai_xml.specs.Answers.{ContinuesAs}
use Rattle.oai_xml.specs.Readings.{Passing, ◌>>=◌, begins}
use Rattle.oai_xml.specs.Parts.{past_spaces}
use Rattle.oai_xml.specs.Documents.{misc_in, whole_comment_in, whole_instruction_in}

comment_in_step : (steps : ℕ) (bytes : List ℕ) → begins (codes "<!") (past_spaces bytes) ≡ true
    → misc_in (suc steps) bytes ≡ (whole_comment_in (past_spaces bytes) >>= λ rest. misc_in steps rest)
unfolding misc_in
comment_in_step steps bytes here = cond-true (begins (codes "<!") (past_spaces bytes)) _ _ here

instruction_in_step : (steps : ℕ) (bytes : List ℕ) → begins (codes "<!") (past_spaces bytes) ≡ false → begins (codes "<?") (past_spaces bytes) ≡ true
    → misc_in (suc steps) bytes ≡ (whole_instruction_in (past_spaces bytes) >>= λ rest. misc_in steps rest)
unfolding misc_in
instruction_in_step steps bytes none here = cond-false (begins (codes "<!") (past_spaces bytes)) _ _ none ∙ cond-true (begins (codes "<?") (past_spaces bytes)) _ _ here

end_step : (steps : ℕ) (bytes : List ℕ) → begins (codes "<!") (past_spaces bytes) ≡ false → begins (codes "<?") (past_spaces bytes) ≡ false
    → misc_in (suc steps) bytes ≡ Ok (past_spaces bytes)
unfolding misc_in
end_step steps bytes none other = cond-false (begins (codes "<!") (past_spaces bytes)) _ _ none ∙ cond-false (begins (codes "<?") (past_spaces bytes)) _ _ other

-- one thing that is passed
went_on : (bytes rest : List ℕ) (one : Passing) → length rest < length bytes → one ≡ Ok rest → ((steps : ℕ) → misc_in (suc steps) bytes ≡ (one >>= λ rest. misc_in steps rest))
    → ContinuesAs misc_in bytes rest
went_on bytes rest one shorter is step = record { goes_on = by_steps }
  where
    by_steps : (steps : ℕ) → length bytes < steps → (others : ℕ) × (length rest < others) × (misc_in steps bytes ≡ misc_in others rest)
    by_steps zero enough = absurd (omega arith)
    by_steps (suc steps) enough = (steps, omega arith, step steps ∙ ap (λ r. r >>= λ rest. misc_in steps rest) is)

pub comment_passed : (bytes rest : List ℕ) → begins (codes "<!") (past_spaces bytes) ≡ true → length rest < length bytes → whole_comment_in (past_spaces bytes) ≡ Ok rest → ContinuesAs misc_in bytes rest
comment_passed bytes rest here shorter is = went_on bytes rest (whole_comment_in (past_spaces bytes)) shorter is (λ steps. comment_in_step steps bytes here)

pub instruction_passed : (bytes rest : List ℕ) → begins (codes "<!") (past_spaces bytes) ≡ false → begins (codes "<?") (past_spaces bytes) ≡ true → length rest < length bytes
    → whole_instruction_in (past_spaces bytes) ≡ Ok rest → ContinuesAs misc_in bytes rest
instruction_passed bytes rest none here shorter is =
    went_on bytes rest (whole_instruction_in (past_spaces bytes)) shorter is (λ steps. instruction_in_step steps bytes none here)

-- a fault
went_wrong : (bytes : List ℕ) (left : ℕ) (one : Passing) → one ≡ Err left → ((steps : ℕ) → misc_in (suc steps) bytes ≡ (one >>= λ rest. misc_in steps rest))
    → (steps : ℕ) → length bytes < steps → misc_in steps bytes ≡ Err left
went_wrong bytes left one is step zero enough = absurd (omega arith)
went_wrong bytes left one is step (suc steps) enough = step steps ∙ ap (λ r. r >>= λ rest. misc_in steps rest) is

pub comment_failed : (bytes : List ℕ) (left : ℕ) → begins (codes "<!") (past_spaces bytes) ≡ true → whole_comment_in (past_spaces bytes) ≡ Err left
    → (steps : ℕ) → length bytes < steps → misc_in steps bytes ≡ Err left
comment_failed bytes left here is = went_wrong bytes left (whole_comment_in (past_spaces bytes)) is (λ steps. comment_in_step steps bytes here)

pub instruction_failed : (bytes : List ℕ) (left : ℕ) → begins (codes "<!") (past_spaces bytes) ≡ false → begins (codes "<?") (past_spaces bytes) ≡ true
    → whole_instruction_in (past_spaces bytes) ≡ Err left → (steps : ℕ) → length bytes < steps → misc_in steps bytes ≡ Err left
instruction_failed bytes left none here is = went_wrong bytes left (whole_instruction_in (past_spaces bytes)) is (λ steps. instruction_in_step steps bytes none here)

pub misc_ended : (bytes : List ℕ) → begins (codes "<!") (past_spaces bytes) ≡ false → begins (codes "<?") (past_spaces bytes) ≡ false
    → (steps : ℕ) → length bytes < steps → misc_in steps bytes ≡ Ok (past_spaces bytes)
misc_ended bytes none other zero enough = absurd (omega arith)
misc_ended bytes none other (suc steps) enough = end_step steps bytes none other
