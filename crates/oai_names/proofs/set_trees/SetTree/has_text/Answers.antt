use Rattle.std.proofs.Common.{◌∙◌}
use Rattle.oai_names.proofs.Places.{place_tells}
use Rattle.oai_names.proofs.set_trees.SetTree.has_text.Goals as goal

pub returns : goal.returns
returns c = c.is_some.ensures ∙ place_tells c.args.self.now c.args.spec.now c.place_of.result c.place_of.ensures.place
