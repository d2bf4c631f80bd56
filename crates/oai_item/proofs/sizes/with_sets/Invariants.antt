use Rattle.std.proofs.Common.{◌+◌, Ok, length, take}
use Rattle.std.specs.List.{flat_map}
use Rattle.oai_item.specs.Encoding.{IsMeasure, encoded_text}
use Rattle.oai_item.proofs.sizes.with_sets.Given as goal

-- the count, and the elements so far
abbrev pub invariant-loop-set : goal.invariant-loop-set
invariant-loop-set l = IsMeasure (l.fn.size + 4 + length (flat_map encoded_text (take l.set-index l.sets))) (Ok l.sum)
