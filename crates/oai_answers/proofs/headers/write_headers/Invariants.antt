use Rattle.std.proofs.Common.{◌≡◌, ◌++◌, take}
use Rattle.std.specs.List.{flat_map}
use Rattle.oai_answers.specs.Documents.{header_element}
use Rattle.oai_answers.proofs.headers.write_headers.Given as goal

-- what was appended are the headers of the items so far
abbrev pub invariant-loop-item : goal.invariant-loop-item
invariant-loop-item l = l.out.items ≡ l.fn.out.items ++ flat_map (header_element l.granularity) (take l.item-index l.items)
