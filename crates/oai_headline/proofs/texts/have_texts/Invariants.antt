use Rattle.std.specs.List.{AllWithin}
use Rattle.oai_headline.specs.XmlAnswers.{HasLegalTexts}
use Rattle.oai_headline.proofs.texts.have_texts.Given as goal

abbrev pub invariant-loop-entry : goal.invariant-loop-entry
invariant-loop-entry l = AllWithin HasLegalTexts l.entries 0 l.entry-index
