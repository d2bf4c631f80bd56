-- What is left of an item that was stored can be stored.
use Rattle.std.proofs.Common.{FitsSigned, w64}
use Rattle.std.proofs.lemmas.Int.{to_z-of_z}
use Rattle.oai_holdings.proofs.ChangeLemmas.{stamp_fits}
use Rattle.oai_holdings.proofs.KeptLemmas.{small-tombstone}
use Rattle.oai_holdings.proofs.changes.deletions.replace_with_tombstone.Goals as goal

pub put_left-requires-clause-small : goal.put_left-requires-clause-small
put_left-requires-clause-small g c = λ honest.
    let fits : FitsSigned w64 c.args.context.now.stamp = stamp_fits c.args.context.now.stamp c.requires.stamped in
    small-tombstone c.args.context.now.stamp c.args.item.now c.in_ok-left.left (simp to_z-of_z at c.in_ok-left.ensures) (c.requires.held.held.small honest)
