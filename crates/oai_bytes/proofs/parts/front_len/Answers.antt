-- The place is the first at which a space stands, since none stands before it.
use Rattle.std.proofs.Common.{◌≡◌, ◌∙◌, ℕ, List, Option, Some, None, length, arith, sym, le_refl, unwrap_or}
use Rattle.std.specs.List.{position_or_len}
use Rattle.std.proofs.lemmas.List.Sums.{position_or_len_is}
use Rattle.std.proofs.lemmas.Bool.{false_from_ne_true}
use Rattle.memchr.specs.Find.{IsFirstByte, is_byte}
use Rattle.oai_bytes.specs.Parts.{is_separator}
use Rattle.oai_bytes.proofs.parts.front_len.Goals as goal

first : (text : List ℕ) (found : Option ℕ) → IsFirstByte (is_byte 32) text found → unwrap_or found (length text) ≡ position_or_len is_separator text
first text None none =
    sym (position_or_len_is is_separator text (length text) 0 (le_refl (length text)) (λ k h. false_from_ne_true _ (none k (omega arith) h)) (λ h. absurd (omega arith)))
first text (Some at) found =
    sym (position_or_len_is is_separator text at 0 (omega (arith, found.0.high)) (λ k h. false_from_ne_true _ (found.0.before k (omega arith) h)) (λ _. found.1))

pub returns-clause-length : goal.returns-clause-length
returns-clause-length c = c.unwrap_or.ensures ∙ first c.args.text.now c.memchr.result c.memchr.ensures
