use Rattle.oai_places.proofs.SumLemmas.{totals_more, totals_none}
use Rattle.oai_places.proofs.sums.sets_of.Goals as goal

pub places-init : goal.places-init
places-init c = totals_none c.new-totals.result c.new-totals.ensures

pub places-preserved : goal.places-preserved
places-preserved c =
    totals_more c.places.totals c.add_sets.new.totals c.args.places.now c.places.at c.index-places-at.result c.places-test.true c.index-places-at.is c.in_ok-add_sets.ensures.known c.in_ok-add_sets.ensures.counts c.places.invariant
