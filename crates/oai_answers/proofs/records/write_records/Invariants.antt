use Rattle.std.proofs.Common.{◌≡◌, ◌++◌, take}
use Rattle.std.specs.List.{flat_map}
use Rattle.oai_answers.specs.Documents.{record_element}
use Rattle.oai_answers.proofs.records.write_records.Given as goal

-- what was appended are the records of the items so far
abbrev pub invariant-loop-item : goal.invariant-loop-item
invariant-loop-item l = l.out.items ≡ l.fn.out.items ++ flat_map (record_element l.granularity l.format) (take l.item-index l.items)
