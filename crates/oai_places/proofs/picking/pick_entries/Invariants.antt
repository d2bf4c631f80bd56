use Rattle.std.proofs.Common.{length}
use Rattle.oai_places.specs.Places.{is_wanted}
use Rattle.oai_places.proofs.PickingLemmas.{ArePickedFrom}
use Rattle.oai_places.proofs.picking.pick_entries.Given as goal

abbrev pub invariant-entries : goal.invariant-entries
invariant-entries l = ArePickedFrom (is_wanted l.portion.wanted.filter.now l.portion.wanted.key.stamp l.portion.wanted.key.identifier.now) l.portion.most l.fn.part.items l.part.items l.portion.skip l.left l.entries l.rest

abbrev pub decreases-entries : goal.decreases-entries
decreases-entries l = length l.rest
