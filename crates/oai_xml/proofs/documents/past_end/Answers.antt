use Rattle.std.proofs.Common.{◌∙◌, ℕ, suc, Err, length, sym, ap, arith}
use Rattle.oai_xml.proofs.DocumentLemmas.{tail_ended, tail_more, tail_wrong}
use Rattle.oai_xml.proofs.documents.past_end.Goals as goal

pub returns-in-Err : goal.returns-in-Err
returns-in-Err c = tail_wrong c.args.bytes.now c.in-Err.fault.left (c.in-Err.ensures.gives (suc (length c.args.bytes.now)) (omega arith))

pub returns-then-not-is_empty : goal.returns-then-not-is_empty
returns-then-not-is_empty c =
    tail_more c.args.bytes.now c.in-Ok.rest.now (c.in-Ok.ensures.gives (suc (length c.args.bytes.now)) (omega arith)) (sym c.is_empty.ensures ∙ c.if-not-is_empty.true)
    ∙ ap (λ (n : ℕ). Err n) (sym c.fault_at.ensures)

pub returns : goal.returns
returns c = tail_ended c.args.bytes.now c.in-Ok.rest.now (c.in-Ok.ensures.gives (suc (length c.args.bytes.now)) (omega arith)) (sym c.is_empty.ensures ∙ c.if-not-is_empty.false)
