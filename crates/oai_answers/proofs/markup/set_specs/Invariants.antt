use Rattle.std.proofs.Common.{◌≡◌, ◌++◌, codes, take}
use Rattle.std.specs.List.{flat_map}
use Rattle.oai_answers.specs.Markup.{text_element}
use Rattle.oai_answers.proofs.markup.set_specs.Given as goal

-- what was appended are the elements of the setSpecs so far
abbrev pub invariant-loop-spec : goal.invariant-loop-spec
invariant-loop-spec l = l.out.items ≡ l.fn.out.items ++ flat_map (text_element (codes "setSpec")) (take l.spec-index l.specs)
