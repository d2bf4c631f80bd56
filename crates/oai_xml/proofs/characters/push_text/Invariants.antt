use Rattle.std.proofs.Common.{◌≡◌, ◌++◌, take}
use Rattle.oai_names.specs.Escapes.{escaped_text}
use Rattle.oai_xml.proofs.characters.push_text.Given as goal

abbrev pub invariant-loop-b : goal.invariant-loop-b
invariant-loop-b l = l.out.items ≡ l.fn.out.items ++ escaped_text (take l.b-index l.text)
