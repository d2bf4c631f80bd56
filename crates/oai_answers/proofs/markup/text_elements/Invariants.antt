use Rattle.std.proofs.Common.{◌≡◌, ◌++◌, take}
use Rattle.std.specs.List.{flat_map}
use Rattle.oai_answers.specs.Markup.{text_element}
use Rattle.oai_answers.proofs.markup.text_elements.Given as goal

-- what was appended are the elements of the texts so far
abbrev pub invariant-loop-text : goal.invariant-loop-text
invariant-loop-text l = l.out.items ≡ l.fn.out.items ++ flat_map (text_element l.name) (take l.text-index l.texts)
