-- The index has the place of each set.
use Rattle.std.proofs.Common.{◌≡◌, ◌∙◌}
use Rattle.std.specs.BTreeMap.{get_by_text}
use Rattle.oai_names.proofs.set_trees.SetTree.place_of.Goals as goal

pub returns-clause-place : goal.returns-clause-place
returns-clause-place c =
    let found : c.copied.result ≡ get_by_text c.self.inside.places c.args.spec.now = c.copied.ensures ∙ c.get.ensures.value in
    rw (← c.self.view_is, found) (c.self.invariant.1 c.args.spec.now)
