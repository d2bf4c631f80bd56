use Rattle.oai_config.proofs.SetLemmas.{set_descriptions_of-Object}
use Rattle.oai_config.proofs.repositories.set_descriptions_of.Goals as goal

pub returns-in-Object : goal.returns-in-Object
returns-in-Object c = rw (c.in-Object.is, set_descriptions_of-Object c.in-Object.members) c.set_descriptions_in.ensures
