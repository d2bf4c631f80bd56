use Rattle.oai_places.proofs.PickingLemmas.{AreTested}
use Rattle.oai_places.proofs.picking.may_have.Given as goal

abbrev pub invariant-sets : goal.invariant-sets
invariant-sets l = AreTested l.front l.bytes l.counter l.rest
