use Rattle.std.proofs.Common.{◌≡◌, ◌++◌, length, map}
use Rattle.oai_item.specs.Item.{emptied}
use Rattle.oai_item.proofs.copies.emptied.Given as goal

-- those that were copied, and those that are to come
abbrev pub invariant-loop-format : goal.invariant-loop-format
invariant-loop-format l = l.left.items ++ map emptied l.records ≡ map emptied l.initial.records

abbrev pub decreases-loop-format : goal.decreases-loop-format
decreases-loop-format l = length l.records
