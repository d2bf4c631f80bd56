-- One more precedes the item.
use Rattle.std.proofs.Common.{◌∙◌, ap, sym}
use Rattle.std.specs.Ordering.{is_lt}
use Rattle.oai_holdings.proofs.MissingLemmas.{one_more_before}
use Rattle.oai_holdings.proofs.differences.from.Goals as goal

pub loop-other-preserved : goal.loop-other-preserved
loop-other-preserved c =
    let at = c.loop-other in
    one_more_before c.args.item.now c.args.others.now at.left.now at.invariant.0 c.in-Some.other.now c.in-Some.rest.now at.invariant.1 at.invariant.2 c.in-Some.ensures.cases.0
    (ap is_lt (sym c.order.ensures ∙ c.in-Less.is))
