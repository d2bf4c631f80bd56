use Rattle.oai_archive.proofs.SameLemmas.{same_of_journal, same_repositories}
use Rattle.oai_archive.proofs.laws.same_config_law.Goals as goal

pub returns-clause-texts : goal.returns-clause-texts
returns-clause-texts c = same_repositories

pub returns-clause-journal : goal.returns-clause-journal
returns-clause-journal c = same_of_journal
