use Rattle.std.proofs.Common.{◌≡◌, ◌∙◌, ℕ, List, ◌++◌, Bor, drop, length, take, ap, subst, sym, arith, length-append}
use Rattle.std.specs.Str.{IsUtf8}
use Rattle.std.proofs.lemmas.List.{drop_at, take_at}
use Rattle.std.proofs.lemmas.Str.{IsUtf8-from_is_utf8}
use Rattle.oai_item.specs.Encoding.{encoded_count, encoded_text}
use Rattle.oai_item.specs.SpellingParts.{IsCount, IsText}
use Rattle.oai_item.proofs.Spellings.{count_of_text, text_behind}
use Rattle.oai_item.proofs.Walking.{reads_some, reads_value}
use Rattle.oai_item.proofs.fronts.first_text.Goals as goal

pub unwrap-len-requires : goal.unwrap-len-requires
unwrap-len-requires c =
    let see : ℕ × Bor (List ℕ) → ℕ × List ℕ = λ a. (a.0, a.1.now) in
    reads_some see encoded_count IsCount c.args.bytes.now c.read_count.result c.read_count.ensures (count_of_text IsText c.args.bytes.now c.requires)

pub split_at-requires : goal.split_at-requires
split_at-requires c =
    let see : ℕ × Bor (List ℕ) → ℕ × List ℕ = λ a. (a.0, a.1.now) in
    let read = reads_value see encoded_count IsCount c.args.bytes.now c.read_count.result c.unwrap-len.result c.unwrap-len.ensures c.read_count.ensures in
    let h = text_behind IsText c.args.bytes.now c.unwrap-len.result.1.now c.unwrap-len.result.0 read.0 read.1 c.requires in
    omega (arith, h.0, ap length h.1, length-append c.requires.value c.requires.rest)

-- the bytes are those of the text that stands there
pub from_utf8_unchecked-requires : goal.from_utf8_unchecked-requires
from_utf8_unchecked-requires c =
    let see : ℕ × Bor (List ℕ) → ℕ × List ℕ = λ a. (a.0, a.1.now) in
    let read = reads_value see encoded_count IsCount c.args.bytes.now c.read_count.result c.unwrap-len.result c.unwrap-len.ensures c.read_count.ensures in
    let s = c.requires in
    let h = text_behind IsText c.args.bytes.now c.unwrap-len.result.1.now c.unwrap-len.result.0 read.0 read.1 s in
    let front : c.split_at.result.0.now ≡ s.value = c.split_at.ensures.front ∙ ap (take c.unwrap-len.result.0) (sym h.1) ∙ take_at s.value s.rest c.unwrap-len.result.0 h.0 in
    subst (λ t. IsUtf8 t) (sym front) (IsUtf8-from_is_utf8 s.value s.good)

pub returns : goal.returns
returns c =
    let see : ℕ × Bor (List ℕ) → ℕ × List ℕ = λ a. (a.0, a.1.now) in
    let read = reads_value see encoded_count IsCount c.args.bytes.now c.read_count.result c.unwrap-len.result c.unwrap-len.ensures c.read_count.ensures in
    let s = c.requires in
    let h = text_behind IsText c.args.bytes.now c.unwrap-len.result.1.now c.unwrap-len.result.0 read.0 read.1 s in
    let front : c.split_at.result.0.now ≡ s.value = c.split_at.ensures.front ∙ ap (take c.unwrap-len.result.0) (sym h.1) ∙ take_at s.value s.rest c.unwrap-len.result.0 h.0 in
    let text : c.from_utf8_unchecked.result.now ≡ s.value = c.from_utf8_unchecked.ensures ∙ front in
    let after : c.split_at.result.1.now ≡ s.rest = c.split_at.ensures.back ∙ ap (drop c.unwrap-len.result.0) (sym h.1) ∙ drop_at s.value s.rest c.unwrap-len.result.0 h.0 in
    (subst (λ t. IsText t) (sym text) s.good, s.parts ∙ (λ k. encoded_text (sym text k) ++ sym after k))
