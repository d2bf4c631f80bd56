-- What was written through the borrow is what the map has.
use Rattle.std.proofs.Common.{Some, FitsSigned, w64, to_z, of_z}
use Rattle.std.proofs.lemmas.Int.{to_z-of_z}
use Rattle.std.proofs.lemmas.Map.Text.{btree_map_updates_text}
use Rattle.oai_holdings.proofs.item_index.overwrite_stamp.Goals as goal

pub returns-in-Some-clause-stamps : goal.returns-in-Some-clause-stamps
returns-in-Some-clause-stamps c = λ q.
    let fits : FitsSigned w64 c.args.stamp = c.ranges.stamp in
    let w = to_z w64 (of_z w64 c.args.stamp) in
    simp to_z-of_z (simp to_z-of_z at (btree_map_updates_text c.args.identifier.now c.args.stamps.now (c.get_mut.follows.lender w) (Some w) ((c.get_mut.follows.holds w).3 c.requires) q))
