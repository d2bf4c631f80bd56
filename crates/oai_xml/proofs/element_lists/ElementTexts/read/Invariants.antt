use Rattle.std.proofs.Common.{◌≡◌, drop}
use Rattle.oai_names.specs.Optional.{each_of}
use Rattle.oai_xml.specs.Documents.{canonical_in}
use Rattle.oai_xml.proofs.ListedElements.{with_front}
use Rattle.oai_xml.proofs.element_lists.ElementTexts.read.Given as goal

-- the elements of the texts so far were read, and the others are left
abbrev pub invariant-loop-text : goal.invariant-loop-text
invariant-loop-text l = with_front l.elements.items (each_of canonical_in (drop l.text-index l.texts)) ≡ each_of canonical_in l.texts
