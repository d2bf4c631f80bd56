use Rattle.oai_item.proofs.Decoded.{item_in-spelled}
use Rattle.oai_item.proofs.in_place.Spelling.bytes.Goals as goal

pub returns-clause-read : goal.returns-clause-read
returns-clause-read c = rw (← c.self.view_is) (item_in-spelled c.self.inside.bytes.now _ c.self.invariant.spells)
