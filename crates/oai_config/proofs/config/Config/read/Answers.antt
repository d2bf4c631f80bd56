use Rattle.oai_config.proofs.TextLemmas.{made_of_told}
use Rattle.oai_config.proofs.config.Config.read.Goals as goal

pub returns : goal.returns
returns c = made_of_told c.args.forms c.args.text.now c.in_ok-told.told c.of.result c.in_ok-told.ensures c.of.ensures
