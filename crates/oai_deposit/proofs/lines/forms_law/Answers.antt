use Rattle.oai_deposit.proofs.FormsLemmas.{line_listed, line_no_put}
use Rattle.oai_deposit.proofs.lines.forms_law.Goals as goal

pub returns : goal.returns
returns c = record { lists = line_listed; no_put = line_no_put }
