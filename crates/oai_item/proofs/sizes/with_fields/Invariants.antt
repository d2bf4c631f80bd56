use Rattle.std.proofs.Common.{◌+◌, Ok, length, take}
use Rattle.std.specs.List.{flat_map}
use Rattle.oai_item.specs.Encoding.{IsMeasure, encoded_field}
use Rattle.oai_item.proofs.sizes.with_fields.Given as goal

-- the count, and the elements so far
abbrev pub invariant-loop-field : goal.invariant-loop-field
invariant-loop-field l = IsMeasure (l.fn.size + 4 + length (flat_map encoded_field (take l.field-index l.fields))) (Ok l.sum)
