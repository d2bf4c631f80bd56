use Rattle.std.proofs.Common.{◌∙◌, ap}
use Rattle.oai_copy.specs.Copies.{are_listed}
use Rattle.oai_copy.proofs.ListedLemmas.{caught_same, listed_caught}
use Rattle.oai_copy.proofs.merges.catch_up.Goals as goal

pub returns-clause-ok : goal.returns-clause-ok
returns-clause-ok c = c.merge.ensures ∙ caught_same c.args.items.now.items c.args.harvest.now c.in_ok-newer.newer.items c.requires c.in_ok-newer.ensures.same

pub returns-clause-listed : goal.returns-clause-listed
returns-clause-listed c = ap are_listed c.merge.ensures ∙ listed_caught c.args.items.now.items c.in_ok-newer.newer.items c.requires
