use Rattle.std.proofs.Common.{◌+◌, Ok, length, take}
use Rattle.std.specs.List.{flat_map}
use Rattle.oai_item.specs.Encoding.{IsMeasure, encoded_record}
use Rattle.oai_item.proofs.sizes.with_records.Given as goal

-- the count, and the elements so far
abbrev pub invariant-loop-format : goal.invariant-loop-format
invariant-loop-format g l = IsMeasure (l.fn.size + 4 + length (flat_map (λ r. encoded_record (g.R.MemoryRecord.record_of r)) (take l.format-index l.records))) (Ok l.sum)
