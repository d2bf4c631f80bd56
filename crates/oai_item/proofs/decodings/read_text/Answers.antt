use Rattle.std.proofs.Common.{◌≡◌, ◌∙◌, length, take, ap, sym, subst, arith, length-append}
use Rattle.std.specs.Str.{is_utf8}
use Rattle.std.proofs.lemmas.Bool.{both_ways}
use Rattle.std.proofs.lemmas.List.{take_at}
use Rattle.oai_item.specs.SpellingParts.{IsText}
use Rattle.oai_item.proofs.Spellings.{count_of_text, text_behind, text_of_parts}
use Rattle.oai_item.proofs.decodings.read_text.Goals as goal

pub returns-in_err-len : goal.returns-in_err-len
returns-in_err-len c = rw c.from_residual.ensures (λ s. c.in_err-len.ensures (count_of_text IsText c.args.bytes.now s))

pub returns-then-rest-len : goal.returns-then-rest-len
returns-then-rest-len c = λ s.
    let read = c.in_ok-len.ensures in
    let h = text_behind IsText c.args.bytes.now c.in_ok-len.rest.now c.in_ok-len.len read.0 read.1 s in
    omega (arith, h.0, ap length h.1, length-append s.value s.rest, c.if-rest-len.true)

pub returns-in_err-text : goal.returns-in_err-text
returns-in_err-text c = rw c.from_residual-in_err-text.ensures (λ s.
    let read = c.in_ok-len.ensures in
    let h = text_behind IsText c.args.bytes.now c.in_ok-len.rest.now c.in_ok-len.len read.0 read.1 s in
    let front : c.split_at.result.0.now ≡ s.value = c.split_at.ensures.front ∙ ap (take c.in_ok-len.len) (sym h.1) ∙ take_at s.value s.rest c.in_ok-len.len h.0 in
    both_ways _ c.in_err-text.ensures (ap is_utf8 front ∙ s.good))

pub returns : goal.returns
returns c =
    let read = c.in_ok-len.ensures in
    let text = c.in_ok-text.ensures in
    let front : c.in_ok-text.text.now ≡ take c.in_ok-len.len c.in_ok-len.rest.now = text.0 ∙ c.split_at.ensures.front in (
      subst (λ t. IsText t) (sym text.0) text.1,
      text_of_parts c.args.bytes.now c.in_ok-len.rest.now c.in_ok-text.text.now c.split_at.result.1.now c.in_ok-len.len (omega arith) read.1 front c.split_at.ensures.back,
    )
