use Rattle.oai_config.proofs.ShapeLemmas.{shape_law_holds}
use Rattle.oai_config.proofs.host_settings.shape_law.Goals as goal

pub returns : goal.returns
returns c = shape_law_holds
