use Rattle.oai_deposit.proofs.DumpLemmas.{dump_read}
use Rattle.oai_deposit.proofs.dumps.dump_law.Goals as goal

pub returns : goal.returns
returns c = dump_read
