use Rattle.oai_item.specs.InPlace.{spelled_item}
use Rattle.oai_item.proofs.Placed.{sets_left_stand}
use Rattle.oai_item.proofs.in_place.Spelling.sets.Goals as goal

pub sets_alone-requires : goal.sets_alone-requires
sets_alone-requires c = sets_left_stand c.self.inside.bytes.now c.self.inside.rest.now (spelled_item c.self.inside) c.self.invariant.spells c.self.invariant.rest

pub returns : goal.returns
returns c = rw (← c.self.view_is) c.sets_alone.ensures
