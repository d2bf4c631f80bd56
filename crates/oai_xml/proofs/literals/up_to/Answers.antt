use Rattle.std.proofs.Common.{◌≡◌, ◌∙◌, List, ℕ, true, false, Ok, drop, sym, ap}
use Rattle.oai_xml.specs.Readings.{begins, behind}
use Rattle.oai_xml.proofs.LiteralLemmas.{up_to_step, up_to_found, up_to_end}
use Rattle.oai_xml.proofs.literals.up_to.Goals as goal

pub returns-in-Some-clause-gives : goal.returns-in-Some-clause-gives
returns-in-Some-clause-gives c =
    let here : begins c.args.mark.now (drop c.loop-at.at c.args.bytes.now) ≡ true = ap (begins c.args.mark.now) (sym c.split_at.ensures.back) ∙ c.in-Some.ensures.0 in
    c.loop-at.invariant ∙ up_to_found c.args.mark.now c.args.bytes.now c.loop-at.at c.loop-at-test.true here
    ∙ ap (λ (w : List ℕ). Ok (w, behind c.args.mark.now (drop c.loop-at.at c.args.bytes.now))) (sym c.split_at.ensures.front)
    ∙ ap (λ (w : List ℕ). Ok (c.split_at.result.0.now, w)) (ap (behind c.args.mark.now) (sym c.split_at.ensures.back) ∙ sym c.in-Some.ensures.1)

pub loop-at-preserved : goal.loop-at-preserved
loop-at-preserved c =
    let none : begins c.args.mark.now (drop c.loop-at.at c.args.bytes.now) ≡ false = ap (begins c.args.mark.now) (sym c.split_at.ensures.back) ∙ c.in-None.ensures in
    c.loop-at.invariant ∙ up_to_step c.args.mark.now c.args.bytes.now c.loop-at.at c.loop-at-test.true none

pub returns-clause-gives : goal.returns-clause-gives
returns-clause-gives c = c.loop-at.invariant ∙ up_to_end c.args.mark.now c.args.bytes.now c.loop-at.at c.loop-at-test.false
