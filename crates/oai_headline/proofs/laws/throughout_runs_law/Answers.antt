use Rattle.oai_headline.proofs.ThroughoutLemmas.{throughout_runs}
use Rattle.oai_headline.proofs.laws.throughout_runs_law.Goals as goal

pub returns : goal.returns
returns c = throughout_runs
