use Rattle.oai_answers.proofs.UnseenLemmas.{regular_by_prefix, regular_in_both, regular_issue, regular_of_day, same_by_prefix, same_in_both, same_of_day}
use Rattle.oai_answers.proofs.laws.unseen_law.Goals as goal

pub returns-clause-regular : goal.returns-clause-regular
returns-clause-regular c = (regular_issue, regular_by_prefix, regular_of_day, regular_in_both)

pub returns-clause-prefix : goal.returns-clause-prefix
returns-clause-prefix c = same_by_prefix

pub returns-clause-day : goal.returns-clause-day
returns-clause-day c = same_of_day

pub returns-clause-others : goal.returns-clause-others
returns-clause-others c = same_in_both
