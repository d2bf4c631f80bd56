use Rattle.oai_front.proofs.ClientLemmas.{answer_read, fault_read}
use Rattle.oai_front.proofs.laws.head_law.Goals as goal

pub returns : goal.returns
returns c = record { answers = answer_read; faults = fault_read }
