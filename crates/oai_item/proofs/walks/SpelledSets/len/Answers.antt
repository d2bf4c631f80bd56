use Rattle.std.proofs.Common.{sym}
use Rattle.oai_item.specs.Decoding.{first_text}
use Rattle.oai_item.proofs.Walking.{length_left}
use Rattle.oai_item.proofs.walks.SpelledSets.len.Goals as goal

pub returns : goal.returns
returns c = rw (← c.self.view_is) (sym (length_left first_text c.self.inside.left c.self.inside.rest.now))
