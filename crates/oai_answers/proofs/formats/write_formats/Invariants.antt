use Rattle.std.proofs.Common.{◌≡◌, ◌++◌, take}
use Rattle.std.specs.List.{filter, flat_map}
use Rattle.std.specs.Option.{option_copied}
use Rattle.oai_answers.specs.Documents.{format_element}
use Rattle.oai_answers.specs.Answers.{is_offered}
use Rattle.oai_answers.proofs.formats.write_formats.Given as goal

-- what was appended are the elements of the formats so far that are offered
abbrev pub invariant-loop-format : goal.invariant-loop-format
invariant-loop-format l = l.out.items ≡ l.fn.out.items ++ flat_map format_element (filter (is_offered (option_copied l.list.of)) (take l.format-index l.list.formats.now))
