use Rattle.std.specs.List.{AllWithin}
use Rattle.oai_headline.specs.XmlAnswers.{HasUtf8Texts}
use Rattle.oai_headline.proofs.texts.are_formats.Given as goal

abbrev pub invariant-loop-format : goal.invariant-loop-format
invariant-loop-format l = AllWithin HasUtf8Texts l.formats 0 l.format-index
