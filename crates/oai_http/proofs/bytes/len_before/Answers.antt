-- The place is the first at which the byte stands, since it stands nowhere before.
use Rattle.std.proofs.Common.{◌≡◌, ◌∙◌, ℕ, List, Option, Some, None, length, arith, sym, le_refl, unwrap_or}
use Rattle.std.specs.List.{position_or_len}
use Rattle.std.proofs.lemmas.List.Sums.{position_or_len_is}
use Rattle.std.proofs.lemmas.Bool.{false_from_ne_true}
use Rattle.memchr.specs.Find.{IsFirstByte, is_byte}
use Rattle.oai_http.proofs.bytes.len_before.Goals as goal

first : (byte : ℕ) (text : List ℕ) (found : Option ℕ) → IsFirstByte (is_byte byte) text found → unwrap_or found (length text) ≡ position_or_len (is_byte byte) text
first byte text None none =
    sym (position_or_len_is (is_byte byte) text (length text) 0 (le_refl (length text)) (λ k h. false_from_ne_true _ (none k (omega arith) h)) (λ h. absurd (omega arith)))
first byte text (Some at) found =
    sym (position_or_len_is (is_byte byte) text at 0 (omega (arith, found.0.high)) (λ k h. false_from_ne_true _ (found.0.before k (omega arith) h)) (λ _. found.1))

pub returns-clause-length : goal.returns-clause-length
returns-clause-length c = c.unwrap_or.ensures ∙ first c.args.byte c.args.text.now c.memchr.result c.memchr.ensures
