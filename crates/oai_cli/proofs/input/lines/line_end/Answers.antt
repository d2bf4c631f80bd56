-- What is found is the first place at which the test passes.
use Rattle.std.proofs.Common.{◌≡◌, ℕ, List, Option, Some, None, length, arith, le_refl}
use Rattle.std.proofs.lemmas.Bool.{false_from_ne_true}
use Rattle.std.specs.List.{position, position_or_len}
use Rattle.std.proofs.lemmas.List.Sums.{position_or_len_is}
use Rattle.memchr.specs.Find.{IsFirstByte, is_byte}
use Rattle.oai_host.specs.Bodies.{is_line_end}
use Rattle.oai_cli.proofs.input.lines.line_end.Goals as goal

first : (text : List ℕ) (found : Option ℕ) → IsFirstByte (is_byte 10) text found → found ≡ position is_line_end text
first text None none =
    let at : position_or_len is_line_end text ≡ length text =
    position_or_len_is is_line_end text (length text) 0 (le_refl (length text)) (λ k h. false_from_ne_true _ (none k (omega arith) h)) (λ h. absurd (omega arith)) in
    grind (arith, at)
first text (Some place) found =
    let at : position_or_len is_line_end text ≡ place =
    position_or_len_is is_line_end text place 0 (omega (arith, found.0.high)) (λ k h. false_from_ne_true _ (found.0.before k (omega arith) h)) (λ _. found.1) in
    let inside = found.0.high in
    grind (arith, at, inside)

pub returns : goal.returns
returns c = first c.args.text.now c.memchr.result c.memchr.ensures
