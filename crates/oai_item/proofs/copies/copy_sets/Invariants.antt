use Rattle.std.proofs.Common.{◌≡◌, take}
use Rattle.oai_item.proofs.copies.copy_sets.Given as goal

abbrev pub invariant-loop-set : goal.invariant-loop-set
invariant-loop-set l = l.copies.items ≡ take l.set-index l.sets
