use Rattle.std.proofs.Common.{◌≡◌, length}
use Rattle.oai_item.specs.Item.{record_named}
use Rattle.oai_item.proofs.items.fields_named.Given as goal

-- the answer to those that are to come is that to all
abbrev pub invariant-loop-format : goal.invariant-loop-format
invariant-loop-format l = record_named l.prefix l.records ≡ record_named l.prefix l.initial.records

abbrev pub decreases-loop-format : goal.decreases-loop-format
decreases-loop-format l = length l.records
