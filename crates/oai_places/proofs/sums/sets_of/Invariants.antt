use Rattle.std.proofs.Common.{take}
use Rattle.oai_places.specs.Sums.{AreTotals}
use Rattle.oai_places.proofs.sums.sets_of.Given as goal

abbrev pub invariant-places : goal.invariant-places
invariant-places l = AreTotals l.totals (take l.at l.places)
