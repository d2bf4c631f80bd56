use Rattle.oai_places.proofs.TestedLemmas.{forgets_more, forgets_none}
use Rattle.oai_places.proofs.names.forget_all.Goals as goal

pub loop-number-init : goal.loop-number-init
loop-number-init g c = forgets_none g.P.PagePool c.args.pages.now

pub loop-number-preserved : goal.loop-number-preserved
loop-number-preserved g c =
    forgets_more g.P.PagePool c.args.pages.now c.loop-number.pages c.forget.new.self c.loop-number.invariant c.forget.ensures.counts c.forget.ensures.same c.forget.ensures.pool
