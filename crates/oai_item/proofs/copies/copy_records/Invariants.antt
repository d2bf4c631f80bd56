use Rattle.std.proofs.Common.{◌≡◌, take}
use Rattle.oai_item.proofs.copies.copy_records.Given as goal

abbrev pub invariant-loop-prefix : goal.invariant-loop-prefix
invariant-loop-prefix l = l.copies.items ≡ take l.prefix-index l.records
