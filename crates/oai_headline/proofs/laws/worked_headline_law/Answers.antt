use Rattle.oai_headline.proofs.WorkedCalls.{carried_a, carried_b}
use Rattle.oai_headline.proofs.WorkedLemmas.{host_accepted, host_rules, worked_beside, worked_list}
use Rattle.oai_headline.proofs.laws.worked_headline_law.Goals as goal

pub returns : goal.returns
returns c = record { accepted = host_accepted; rules = host_rules; followed = worked_list carried_a; beside = worked_beside carried_b }
