use Rattle.std.proofs.Common.{None, refl}
use Rattle.oai_places.proofs.WindowLemmas.{group_none}
use Rattle.oai_places.proofs.groups.Group.new.Goals as goal

pub returns : goal.returns
returns c = c.sum_up.ensures (group_none c.args.places.now (record { first = c.args.first; len = 256; sum = None }) refl)
