use Rattle.std.proofs.Common.{◌≡◌, ◌-◌, true, take, get_or}
use Rattle.oai_item.specs.Item.{ItemState}
use Rattle.oai_item.specs.Order.{are_in_order}
use Rattle.oai_places.proofs.entries.Entries.are_rising.Given as goal

-- the items up to the next rise, and the last of them
abbrev pub invariant-loop-at : goal.invariant-loop-at
invariant-loop-at l = record {
  rising : are_in_order (take l.at l.self) ≡ true;
  last : (d : ItemState) → l.before ≡ get_or l.self (l.at - 1) d;
}
