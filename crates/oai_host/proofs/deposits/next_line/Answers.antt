-- A blank line is passed over, and any other is the next one.
use Rattle.std.proofs.Common.{◌≡◌, ◌∙◌, true, false, arith, rules}
use Rattle.oai_host.specs.Bodies.{is_blank, lines_in}
use Rattle.oai_host.proofs.LineLemmas.{behind_on, from_empty}
use Rattle.oai_host.proofs.deposits.next_line.Goals as goal

pub returns-then-not-is_blank-clause-behind : goal.returns-then-not-is_blank-clause-behind
returns-then-not-is_blank-clause-behind c =
    let full : is_blank c.cut.result.0.now ≡ false = search rules in
    let less = c.cut.ensures.less in
    behind_on c.args.body.now c.loop-rest.rest.now c.cut.result.1.now 0 1 c.loop-rest.invariant.within (omega (arith, less)) c.loop-rest.invariant.behind (rw full at c.cut.ensures.behind)

pub loop-rest-preserved : goal.loop-rest-preserved
loop-rest-preserved c =
    let blank : is_blank c.cut.result.0.now ≡ true = search rules in
    let less = c.cut.ensures.less in
    let within = c.loop-rest.invariant.within in
    record {
      lines = c.loop-rest.invariant.lines ∙ c.cut.ensures.lines ∙ from_empty c.cut.result.0.now (lines_in c.cut.result.1.now) blank;
      behind = behind_on c.args.body.now c.loop-rest.rest.now c.cut.result.1.now 0 0 within (omega (arith, less)) c.loop-rest.invariant.behind (rw blank at c.cut.ensures.behind);
      within = omega (arith, within, less);
    }
