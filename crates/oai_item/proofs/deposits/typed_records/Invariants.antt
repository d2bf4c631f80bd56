use Rattle.std.proofs.Common.{◌≡◌, take, drop, true}
use Rattle.std.specs.List.{list_all}
use Rattle.oai_item.specs.Known.{has_format}
use Rattle.oai_item.proofs.deposits.typed_records.Given as goal

-- the records so far, and what is required of the others
abbrev pub invariant-loop-deposited : goal.invariant-loop-deposited
invariant-loop-deposited l = (l.typed.items ≡ take l.deposited-index l.records) × (list_all (has_format l.formats) (drop l.deposited-index l.records) ≡ true)
