use Rattle.std.proofs.Common.{arith}
use Rattle.oai_names.proofs.Parents.{parent_splits, root_splits}
use Rattle.oai_names.proofs.set_trees.parent_of.Goals as goal

pub returns-in-Some : goal.returns-in-Some
returns-in-Some c =
    let cut = c.in-Some.ensures.cases in
    parent_splits c.args.spec.now c.in-Some.parent.now cut.0 cut.1 cut.2 cut.3 cut.5 (omega (arith, cut.7))

pub returns-in-None : goal.returns-in-None
returns-in-None c = root_splits _ c.in-None.ensures.cases
