use Rattle.oai_deposit.proofs.ShapeLemmas.{shape_law_holds}
use Rattle.oai_deposit.proofs.lines.shape_law.Goals as goal

pub returns : goal.returns
returns c = shape_law_holds
