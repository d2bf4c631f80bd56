-- A text that spells a number is read as it, and as it alone.
use Rattle.std.proofs.Common.{◌≡◌, ◌∙◌, decimal, sym, ap, true}
use Rattle.std.specs.Str.{bytes_eq}
use Rattle.std.proofs.lemmas.Bool.{false≢true}
use Rattle.std.proofs.lemmas.Fmt.{parse-decimal}
use Rattle.std.proofs.lemmas.Slice.Eq.{bytes_eq-Decides}
use Rattle.oai_lists.proofs.tokens.read_decimal.Goals as goal

pub returns-in-Ok-clause-only : goal.returns-in-Ok-clause-only
returns-in-Ok-clause-only c = λ n small e. let read = parse-decimal 64 n c.args.text.now c.parse.result small small e c.parse.ensures.value.0 in cc

pub returns-in_default-clause-only : goal.returns-in_default-clause-only
returns-in_default-clause-only c = λ n small e.
    let read = parse-decimal 64 n c.args.text.now c.parse.result small small e c.parse.ensures.value.0 in
    let same : c.in-Ok.n ≡ n = cc in
    let spelled : bytes_eq (decimal c.in-Ok.n) c.args.text.now ≡ true = (bytes_eq-Decides (decimal c.in-Ok.n) c.args.text.now).1 (ap decimal same ∙ sym e) in
    absurd (false≢true (sym c.if-is_spelled.false ∙ c.is_spelled.ensures ∙ spelled))

pub returns-in_default-2-clause-only : goal.returns-in_default-2-clause-only
returns-in_default-2-clause-only c = λ n small e. let read = parse-decimal 64 n c.args.text.now c.parse.result small small e c.parse.ensures.value.0 in cc
