use Rattle.std.proofs.Common.{◌≡◌, sym, subst, rules, FitsSigned, w64}
use Rattle.std.proofs.lemmas.Int.{to_z-of_z}
use Rattle.oai_item.specs.Item.{IsItem, ItemState}
use Rattle.oai_item.proofs.Numbers.{stamp_fits}
use Rattle.oai_item.proofs.Wholes.{same_parts}
use Rattle.oai_item.proofs.items.Item.with_records.Goals as goal

-- the item is the one that was read in place, which keeps the rules
pub invariant_of-result : goal.invariant_of-result
invariant_of-result c =
    let item : ItemState = c.args.spelling.now in
    let made : ItemState = record {
      identifier = c.in_ok-new.field-0;
      stamp = c.stamp.result;
      live = c.is_live.result;
      sets = c.in_ok-sets_in_memory.field-0;
      formats = c.args.formats;
    } in
    let identifier : made.identifier ≡ item.identifier = search rules in
    let sets : made.sets ≡ item.sets = search rules in
    let formats : made.formats ≡ item.formats = c.requires in
    let is : made ≡ item = same_parts made item c.is_live.ensures c.stamp.ensures identifier sets formats in
    let valid : IsItem made = subst IsItem (sym is) c.identifier.ensures.valid in
    let fits : FitsSigned w64 c.stamp.result = stamp_fits c.stamp.result valid.stamped in
    simp to_z-of_z valid
