use Rattle.std.proofs.Common.{◌≡◌, ◌-◌, ◌≤◌, true, length, take, drop}
use Rattle.std.specs.List.{list_all}
use Rattle.std.specs.Ordering.{is_lt, is_gt}
use Rattle.oai_item.specs.Order.{place_cmp}
use Rattle.oai_places.proofs.entries.Entries.position_of.Given as goal

-- the items before `low` stand before the place, those from `high` on behind it
abbrev pub invariant-loop-low : goal.invariant-loop-low
invariant-loop-low l = record {
  order : l.low ≤ l.high;
  within : l.high ≤ length l.self;
  below : list_all (λ item. is_lt (place_cmp item l.key.stamp l.key.identifier.now)) (take l.low l.self) ≡ true;
  above : list_all (λ item. is_gt (place_cmp item l.key.stamp l.key.identifier.now)) (drop l.high l.self) ≡ true;
}

abbrev pub decreases-loop-low : goal.decreases-loop-low
decreases-loop-low l = l.high - l.low
