use Rattle.std.specs.Prelude.{◌≡◌, ◌<◌, ◌≤◌, ◌-◌, true, false, length, HoldsAt}
use Rattle.std.specs.Ordering.{is_gt}
use Rattle.oai_places.specs.Places.{first_cmp}
use Rattle.oai_places.proofs.searches.leaf_of.Given as goal

abbrev pub invariant-halves : goal.invariant-halves
invariant-halves l =
    (l.low ≤ l.high) × (l.high ≤ length l.places) × (0 < length l.places → l.low < l.high)
    × (0 < l.low → HoldsAt (λ place. is_gt (first_cmp place l.key.stamp l.key.identifier.now) ≡ false) l.places l.low)
    × (l.high < length l.places → HoldsAt (λ place. is_gt (first_cmp place l.key.stamp l.key.identifier.now) ≡ true) l.places l.high)

abbrev pub decreases-halves : goal.decreases-halves
decreases-halves l = l.high - l.low
