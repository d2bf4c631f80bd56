use Rattle.std.proofs.Common.{◌≡◌, ◌++◌, take}
use Rattle.std.specs.List.{flat_map}
use Rattle.oai_answers.specs.Answers.{described_sets}
use Rattle.oai_answers.specs.Documents.{set_element}
use Rattle.oai_answers.proofs.sets.write_sets.Given as goal

-- what was appended are the elements of the sets so far
abbrev pub invariant-loop-set : goal.invariant-loop-set
invariant-loop-set l = l.out.items ≡ l.fn.out.items ++ flat_map set_element (described_sets l.described (take l.set-index l.sets))
