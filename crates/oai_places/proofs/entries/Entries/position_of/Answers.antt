use Rattle.std.proofs.Common.{◌≡◌, ◌∙◌, ◌+◌, ◌-◌, ◌/◌, ◌<◌, ◌≤◌, ℕ, length, drop, pos, [], refl, ap, sym, arith}
use Rattle.std.specs.List.{list_all}
use Rattle.std.specs.Ordering.{is_gt}
use Rattle.std.proofs.lemmas.List.{drop_all}
use Rattle.oai_item.specs.Item.{ItemState}
use Rattle.oai_item.specs.Order.{place_cmp}
use Rattle.oai_item.proofs.Around.{found_place, only_place}
use Rattle.oai_places.proofs.RisingItems.{back_higher, front_lower}
use Rattle.oai_places.proofs.entries.Entries.position_of.Goals as goal

lowest : (low high : ℕ) → low ≤ high → high ≤ low → low ≡ high
lowest low high h g = omega (arith, h, g)

pub loop-low-init : goal.loop-low-init
loop-low-init c = record {
  order = omega arith;
  within = omega (arith, c.len-high.ensures.len);
  below = refl;
  above = ap (list_all (λ (item : ItemState). is_gt (place_cmp item c.args.key.stamp c.args.key.identifier.now)))
      (drop_all c.len-high.result c.args.self.now (omega (arith, c.len-high.ensures.len)));
}

pub order_to-requires : goal.order_to-requires
order_to-requires c = omega (arith, c.loop-low.invariant.within, c.loop-low-test.true)

pub loop-low-preserved-in-Less : goal.loop-low-preserved-in-Less
loop-low-preserved-in-Less c =
    let d : ItemState = only_place (pos 0) [] in
    let middle = c.loop-low.low + (c.loop-low.high - c.loop-low.low) / 2 in
    let so_far = c.loop-low.invariant in
    let here = c.in-Less.ensures d in
    record {
      order = omega (arith, c.loop-low-test.true);
      within = so_far.within;
      below = front_lower c.args.key.stamp c.args.key.identifier.now c.args.self.now middle d c.requires (omega (arith, so_far.within, c.loop-low-test.true)) (sym here);
      above = so_far.above;
    }

pub returns-in-Equal : goal.returns-in-Equal
returns-in-Equal c =
    let middle = c.loop-low.low + (c.loop-low.high - c.loop-low.low) / 2 in
    let here = c.in-Equal.ensures in
    let within : c.loop-low.low + (c.loop-low.high - c.loop-low.low) / 2 < length c.args.self.now = omega (arith, c.loop-low.invariant.within, c.loop-low-test.true) in
    (within, (λ d. sym (here d)), found_place c.args.key.stamp c.args.key.identifier.now c.args.self.now middle c.requires within (λ d. sym (here d)))

pub loop-low-preserved : goal.loop-low-preserved
loop-low-preserved c =
    let d : ItemState = only_place (pos 0) [] in
    let middle = c.loop-low.low + (c.loop-low.high - c.loop-low.low) / 2 in
    let so_far = c.loop-low.invariant in
    let here = c.in-Greater.ensures d in
    record {
      order = omega (arith, c.loop-low-test.true);
      within = omega (arith, so_far.within, c.loop-low-test.true);
      below = so_far.below;
      above = back_higher c.args.key.stamp c.args.key.identifier.now c.args.self.now middle d c.requires (omega (arith, so_far.within, c.loop-low-test.true)) (sym here);
    }

pub returns : goal.returns
returns c =
    let so_far = c.loop-low.invariant in
    (omega (arith, so_far.order, so_far.within), record { below = so_far.below; above = ap (λ n. list_all (λ (item : ItemState). is_gt (place_cmp item c.args.key.stamp c.args.key.identifier.now)) (drop n c.args.self.now)) (lowest c.loop-low.low c.loop-low.high so_far.order c.loop-low-test.false) ∙ so_far.above })
