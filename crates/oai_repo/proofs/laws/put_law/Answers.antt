use Rattle.oai_repo.specs.State.{moved}
use Rattle.oai_repo.proofs.PutLemmas.{put_alike, put_twice}
use Rattle.oai_repo.proofs.laws.put_law.Goals as goal

pub returns-clause-again : goal.returns-clause-again
returns-clause-again c = λ config state first next identifier sets records. put_twice config (moved first state) next identifier sets records

pub returns-clause-alike : goal.returns-clause-alike
returns-clause-alike c = λ config state moment identifier sets records. put_alike config (moved moment state) identifier sets records
