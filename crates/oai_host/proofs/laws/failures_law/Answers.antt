use Rattle.oai_host.proofs.BrokenLemmas.{exchanged_broken, exchanged_counted, run_counted}
use Rattle.oai_host.proofs.laws.failures_law.Goals as goal

pub returns : goal.returns
returns c = record { exchanged = exchanged_counted; run = run_counted; broken = exchanged_broken }
