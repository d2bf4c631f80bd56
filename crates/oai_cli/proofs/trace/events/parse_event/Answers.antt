-- What the three parts tell is what the line tells.
use Rattle.std.proofs.Common.{◌≡◌, ◌∙◌, ◌⊎◌, inl, inr, ℕ, ℤ, ◌==◌, true, List, Some, None, Err, refl, sym, ap, w64, FitsSigned, to_z-of_z}
use Rattle.std.proofs.lemmas.Bool.{eq-eqb}
use Rattle.std.specs.List.{count_by}
use Rattle.hex.specs.declared.error.FromHexError.{FromHexError}
use Rattle.hex.specs.declared.error.FromHexError.TheVariants.{InvalidHexCharacter, InvalidStringLength, OddLength, OutOfMemory}
use Rattle.oai_cli.specs.EventLines.{IsParsedEvent, coming, stop_at, parse_event}
use Rattle.oai_bytes.specs.Parts.{is_separator, part, rest}
use Rattle.oai_bytes.specs.Numbers.{moment_of, number_in}
use Rattle.oai_cli.proofs.LineLemmas.{told_all, told_no_piece}
use Rattle.oai_cli.proofs.trace.events.parse_event.Goals as goal

-- an error of the digits is the line's, out of memory apart
tells_nothing : (line : List ℕ) (number : ℕ) (error : FromHexError) → (error ≡ OutOfMemory) ⊎ (parse_event line ≡ None)
    → IsParsedEvent line number (Err (stop_at number error))
tells_nothing line number OutOfMemory h = refl
tells_nothing line number OddLength (inl e) = absurd cc
tells_nothing line number OddLength (inr t) = (t, refl)
tells_nothing line number InvalidStringLength (inl e) = absurd cc
tells_nothing line number InvalidStringLength (inr t) = (t, refl)
tells_nothing line number (InvalidHexCharacter ch index) (inl e) = absurd cc
tells_nothing line number (InvalidHexCharacter ch index) (inr t) = (t, refl)

why : (line text : List ℕ) (moment : ℤ) (label : ℕ) (error : FromHexError) → (count_by is_separator line == 2) ≡ true
    → Some moment ≡ moment_of (part line) → Some label ≡ number_in (part (rest line)) → text ≡ rest (rest line)
    → (error ≡ OutOfMemory) ⊎ (coming text ≡ None) → (error ≡ OutOfMemory) ⊎ (parse_event line ≡ None)
why line text moment label error two m l back (inl e) = inl e
why line text moment label error two m l back (inr t) = inr (told_no_piece line moment label two (sym m) (sym l) (ap coming (sym back) ∙ t))

pub returns-in-Ok : goal.returns-in-Ok
returns-in-Ok c =
    let line = c.args.line.now in
    let fits : FitsSigned w64 c.in-Some-Some.moment = record { sfits = (rw c.in-Some-Some.is-0 at c.read_moment.type_inv).1.1.1.1.0.1 } in
    let two : (count_by is_separator line == 2) ≡ true = eq-eqb _ _ (sym c.spaces.ensures ∙ c.if-spaces-ne2.false) in
    let moment : Some c.in-Some-Some.moment ≡ moment_of (part line) = c.in-Some-Some.ensures ∙ ap moment_of c.split_at_space.ensures.front in
    let label : Some c.in-Some-Some.label ≡ number_in (part (rest line)) =
    c.in-Some-Some.ensures' ∙ ap number_in (c.split_at_space-2.ensures.front ∙ ap part c.split_at_space.ensures.back) in
    let piece : coming (rest (rest line)) ≡ Some c.in-Ok.piece = ap coming (sym (c.split_at_space-2.ensures.back ∙ ap rest c.split_at_space.ensures.back)) ∙ c.in-Ok.ensures in
    simp to_z-of_z (told_all line c.in-Some-Some.moment c.in-Some-Some.label c.in-Ok.piece two (sym moment) (sym label) piece)

pub returns-in-Err : goal.returns-in-Err
returns-in-Err c =
    let line = c.args.line.now in
    let two : (count_by is_separator line == 2) ≡ true = eq-eqb _ _ (sym c.spaces.ensures ∙ c.if-spaces-ne2.false) in
    let moment : Some c.in-Some-Some.moment ≡ moment_of (part line) = c.in-Some-Some.ensures ∙ ap moment_of c.split_at_space.ensures.front in
    let label : Some c.in-Some-Some.label ≡ number_in (part (rest line)) =
    c.in-Some-Some.ensures' ∙ ap number_in (c.split_at_space-2.ensures.front ∙ ap part c.split_at_space.ensures.back) in
    let back : c.split_at_space-2.result.1.now ≡ rest (rest line) = c.split_at_space-2.ensures.back ∙ ap rest c.split_at_space.ensures.back in
    rw c.stop_at.ensures (tells_nothing line c.args.number c.in-Err.error (why line c.split_at_space-2.result.1.now _ _ c.in-Err.error two moment label back c.in-Err.ensures))
