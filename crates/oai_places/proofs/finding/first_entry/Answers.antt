use Rattle.std.proofs.Common.{◌∙◌, ◌++◌, ap, arith}
use Rattle.oai_item.specs.Encoding.{encoded}
use Rattle.oai_places.proofs.FindingLemmas.{entry_text}
use Rattle.oai_places.proofs.finding.first_entry.Goals as goal

pub returns-clause-parts : goal.returns-clause-parts
returns-clause-parts c = λ item behind s e. c.first_text.ensures.parts (encoded item) behind (omega (arith, s.few)) (e ∙ ap (λ bs. bs ++ behind) (entry_text item))
