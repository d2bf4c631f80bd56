use Rattle.std.proofs.Common.{◌≡◌, length}
use Rattle.oai_item.specs.Elements.{from_nameless}
use Rattle.oai_item.proofs.item_records.from_nameless.Given as goal

-- what stands behind those with names that are to come is what stands behind all
abbrev pub invariant-loop : goal.invariant-loop
invariant-loop l = from_nameless l.rest ≡ from_nameless l.initial.rest

abbrev pub decreases-loop : goal.decreases-loop
decreases-loop l = length l.rest
