use Rattle.oai_laws.proofs.ChangingLemmas.{accepted_is, refused_is}
use Rattle.oai_laws.proofs.laws.change_law.Goals as goal

pub returns-clause-accepted : goal.returns-clause-accepted
returns-clause-accepted c = accepted_is

pub returns-clause-refused : goal.returns-clause-refused
returns-clause-refused c = refused_is
