use Rattle.std.specs.List.{AllWithin}
use Rattle.oai_headline.specs.XmlAnswers.{IsUtf8Text}
use Rattle.oai_headline.proofs.texts.are_texts.Given as goal

abbrev pub invariant-loop-text : goal.invariant-loop-text
invariant-loop-text l = AllWithin IsUtf8Text l.texts 0 l.text-index
