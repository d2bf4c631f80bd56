use Rattle.std.proofs.Common.{sym}
use Rattle.oai_item.specs.Decoding.{first_field}
use Rattle.oai_item.proofs.Walking.{length_left}
use Rattle.oai_item.proofs.walks.SpelledFields.len.Goals as goal

pub returns : goal.returns
returns c = rw (← c.self.view_is) (sym (length_left first_field c.self.inside.left c.self.inside.rest.now))
