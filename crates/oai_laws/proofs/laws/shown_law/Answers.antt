use Rattle.oai_laws.proofs.ReadLemmas.{answers_shown, lists_shown}
use Rattle.oai_laws.proofs.laws.shown_law.Goals as goal

pub returns-clause-documents : goal.returns-clause-documents
returns-clause-documents c = answers_shown

pub returns-clause-lists : goal.returns-clause-lists
returns-clause-lists c = lists_shown
