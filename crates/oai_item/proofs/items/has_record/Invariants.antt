use Rattle.std.proofs.Common.{◌≡◌, length}
use Rattle.oai_item.specs.Item.{has_record}
use Rattle.oai_item.proofs.items.has_record.Given as goal

-- the answer to those that are to come is that to all
abbrev pub invariant-loop-format : goal.invariant-loop-format
invariant-loop-format l = has_record l.prefix l.records ≡ has_record l.prefix l.initial.records

abbrev pub decreases-loop-format : goal.decreases-loop-format
decreases-loop-format l = length l.records
