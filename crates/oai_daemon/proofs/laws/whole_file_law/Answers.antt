use Rattle.oai_daemon.proofs.LifeLemmas.{begins_with_file}
use Rattle.oai_daemon.proofs.laws.whole_file_law.Goals as goal

pub returns : goal.returns
returns g c = λ text rings origin later result new lived clean. begins_with_file _ _ _ _ _ _ _ _ text rings origin later result new lived clean
