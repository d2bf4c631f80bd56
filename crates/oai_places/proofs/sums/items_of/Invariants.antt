use Rattle.std.proofs.Common.{◌≡◌, take}
use Rattle.std.specs.Prelude.{sum_by}
use Rattle.oai_places.specs.Places.{PlaceState}
use Rattle.oai_places.proofs.sums.items_of.Given as goal

abbrev pub invariant-places : goal.invariant-places
invariant-places l = sum_by (λ (place : PlaceState). place.len) (take l.at l.places) ≡ l.items
