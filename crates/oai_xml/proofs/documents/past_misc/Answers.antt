use Rattle.std.proofs.Common.{◌∙◌, ℕ, List, Ok, Err, sym, ap, arith}
use Rattle.oai_xml.specs.Documents.{misc_in}
use Rattle.oai_xml.proofs.Goings.{on_none, on_then, on_end}
use Rattle.oai_xml.proofs.documents.past_misc.Goals as goal

pub loop-behind-init : goal.loop-behind-init
loop-behind-init c = (on_none misc_in c.args.bytes.now, omega arith)

pub loop-behind-preserved : goal.loop-behind-preserved
loop-behind-preserved c =
    let p = rw c.in-Ok-Some.field-0-is at c.in-Ok-Some.ensures in
    (on_then misc_in c.args.bytes.now c.loop-behind.rest.now c.in-Ok-Some.behind.now c.loop-behind.invariant.0 p.0, omega (arith, p.1, c.loop-behind.invariant.1))

pub returns-in-Ok-None-clause-gives : goal.returns-in-Ok-None-clause-gives
returns-in-Ok-None-clause-gives c =
    let p = rw c.in-Ok-None.field-0-is at c.in-Ok-None.ensures in
    on_end misc_in c.args.bytes.now c.loop-behind.rest.now (Ok c.past_spaces.result.now) c.loop-behind.invariant.0
    (λ steps enough. p steps enough ∙ ap (λ (w : List ℕ). Ok w) (sym c.past_spaces.ensures.rest))

pub returns-in-Err-clause-gives : goal.returns-in-Err-clause-gives
returns-in-Err-clause-gives c = on_end misc_in c.args.bytes.now c.loop-behind.rest.now (Err c.in-Err.fault.left) c.loop-behind.invariant.0 c.in-Err.ensures
