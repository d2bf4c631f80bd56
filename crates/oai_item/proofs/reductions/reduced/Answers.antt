-- What stays of the sets is of the grammar, since all of them are.
use Rattle.std.proofs.Common.{◌∙◌, ap, sym}
use Rattle.oai_item.specs.Item.{are_set_specs}
use Rattle.oai_item.proofs.Grammars.{are_set_specs-flagged}
use Rattle.oai_item.proofs.reductions.reduced.Goals as goal

pub returns-clause-names : goal.returns-clause-names
returns-clause-names c =
    ap are_set_specs (sym (rw c.as_slice.ensures at c.in_ok-stay.ensures.kept))
    ∙ are_set_specs-flagged c.in_ok-stay.stay.items c.args.sets (rw c.as_slice.ensures at c.in_ok-stay.ensures.names)
