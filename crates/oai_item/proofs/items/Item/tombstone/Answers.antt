use Rattle.std.proofs.Common.{FitsSigned, w64}
use Rattle.std.proofs.lemmas.Int.{to_z-of_z}
use Rattle.oai_item.proofs.Tombstones.{tombstone_is_item}
use Rattle.oai_item.proofs.items.Item.tombstone.Goals as goal

-- what is left of an item keeps the rules of items
pub invariant_of-result : goal.invariant_of-result
invariant_of-result c =
    let fits : FitsSigned w64 c.args.stamp = c.ranges.stamp in
    rw (c.in_ok-copy.ensures, c.in_ok-copy_sets.ensures, c.as_slice.ensures, c.typed.ensures, c.in_ok-emptied.ensures, c.walk.ensures)
    (simp to_z-of_z (tombstone_is_item c.args.stamp _ c.requires c.self.invariant))
