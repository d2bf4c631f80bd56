use Rattle.std.proofs.Common.{◌≡◌, ◌++◌, List, length, true}
use Rattle.std.specs.List.{list_all}
use Rattle.oai_item.specs.Item.{ItemState}
use Rattle.oai_item.specs.Order.{precedes}
use Rattle.oai_holdings.proofs.differences.from.Given as goal

-- those that were passed precede the item
abbrev pub invariant-loop-other : goal.invariant-loop-other
invariant-loop-other l = (front : List ItemState) × (l.others ≡ front ++ l.left) × (list_all (λ (other : ItemState). precedes other l.item) front ≡ true)

abbrev pub decreases-loop-other : goal.decreases-loop-other
decreases-loop-other l = length l.left
