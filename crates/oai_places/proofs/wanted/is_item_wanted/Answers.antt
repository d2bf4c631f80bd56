use Rattle.std.proofs.Common.{◌∙◌, sym}
use Rattle.oai_places.proofs.PickingLemmas.{not_given}
use Rattle.oai_places.proofs.wanted.is_item_wanted.Goals as goal

pub returns-then-not-is_in_given : goal.returns-then-not-is_in_given
returns-then-not-is_in_given c =
    sym (not_given c.args.wanted.filter.now c.args.wanted.key.stamp c.args.wanted.key.identifier.now c.args.item.now (sym c.is_in_given.ensures ∙ c.if-not-is_in_given.true))
