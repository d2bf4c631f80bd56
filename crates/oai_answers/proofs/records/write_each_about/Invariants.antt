use Rattle.std.proofs.Common.{◌≡◌, ◌++◌, codes, length}
use Rattle.std.specs.List.{flat_map}
use Rattle.oai_item.specs.Givens.{field_texts}
use Rattle.oai_answers.specs.Markup.{container}
use Rattle.oai_answers.proofs.records.write_each_about.Given as goal

-- what was appended, and the containers of the elements that are to come
abbrev pub invariant-loop-field : goal.invariant-loop-field
invariant-loop-field l =
    l.out.items ++ flat_map (container (codes "about")) (field_texts l.fields)
    ≡ l.fn.out.items ++ flat_map (container (codes "about")) (field_texts l.initial.fields)

abbrev pub decreases-loop-field : goal.decreases-loop-field
decreases-loop-field l = length l.fields
