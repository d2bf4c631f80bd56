-- The set stands at its place. What a set lies in is a set, since the tree is one.
use Rattle.std.proofs.Common.{◌∙◌}
use Rattle.oai_names.proofs.Ancestors.{sets_stand_above}
use Rattle.oai_names.proofs.Places.{found_at, found_none}
use Rattle.oai_names.proofs.set_trees.SetTree.find.Goals as goal

pub returns-in-Some-clause-found : goal.returns-in-Some-clause-found
returns-in-Some-clause-found c =
    let there = rw c.in-Some.is at c.place_of.ensures.place in
    c.spec_at.ensures ∙ found_at c.args.self.now c.args.spec.now c.in-Some.place there

pub returns-in-None-clause-found : goal.returns-in-None-clause-found
returns-in-None-clause-found c = found_none c.args.self.now c.args.spec.now (rw c.in-None.is at c.place_of.ensures.place)

pub returns-in-Some-clause-above : goal.returns-in-Some-clause-above
returns-in-Some-clause-above c = sets_stand_above c.args.self.now c.place_of.ensures.tree

pub returns-in-None-clause-above : goal.returns-in-None-clause-above
returns-in-None-clause-above c = sets_stand_above c.args.self.now c.place_of.ensures.tree
