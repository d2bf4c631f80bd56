-- A path with that endpoint begins with its front.
use Rattle.std.proofs.Common.{ap, length, List, ℕ}
use Rattle.oai_http.proofs.TargetLemmas.{name_end}
use Rattle.oai_http.proofs.targets.name_in.Goals as goal

pub returns : goal.returns
returns c = name_end c.args.endpoint c.args.target.now (length c.front.result.now) c.args.path (ap (λ (xs : List ℕ). length xs) c.front.ensures) c.requires.path c.requires.endpoint
