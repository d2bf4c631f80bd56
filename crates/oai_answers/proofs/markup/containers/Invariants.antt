use Rattle.std.proofs.Common.{◌≡◌, ◌++◌, take}
use Rattle.std.specs.List.{flat_map}
use Rattle.oai_answers.specs.Markup.{container}
use Rattle.oai_answers.proofs.markup.containers.Given as goal

-- what was appended are the containers of the elements so far
abbrev pub invariant-loop-element : goal.invariant-loop-element
invariant-loop-element l = l.out.items ≡ l.fn.out.items ++ flat_map (container l.name) (take l.element-index l.elements)
