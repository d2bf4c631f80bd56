use Rattle.oai_holdings.proofs.DifferenceLemmas.{differences_are, differences_lead}
use Rattle.oai_holdings.proofs.laws.difference_law.Goals as goal

pub returns-clause-lead : goal.returns-clause-lead
returns-clause-lead c = differences_lead

pub returns-clause-some : goal.returns-clause-some
returns-clause-some c = differences_are
