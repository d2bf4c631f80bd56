-- Sums of places: one place more.
use Rattle.std.proofs.Common.{◌≡◌, ◌∙◌, ◌+◌, ◌<◌, ℕ, ◌&&◌, List, [], length, take, get_or, true, refl, sym, ap}
use Rattle.std.specs.Prelude.{is_some}
use Rattle.std.proofs.lemmas.List.Folds.{list_all_more}
use Rattle.std.proofs.lemmas.List.Sums.{sum_by_more}
use Rattle.oai_sums.specs.Sums.{SetTotal, counted_in}
use Rattle.oai_places.specs.Places.{PlaceState}
use Rattle.oai_places.specs.Sums.{AreTotals, counted_at}

-- no places
pub totals_none : (totals : List SetTotal) → totals ≡ [] → AreTotals totals []
totals_none totals none = record { known = refl; numbers = λ set. ap (counted_in set) (sym none) }

-- one place more, of which it is known how many of its items are in each set
pub totals_more : (totals more : List SetTotal) (places : List PlaceState) (at : ℕ) (own : PlaceState) → at < length places → own ≡ get_or places at own → is_some own.sets ≡ true
    → ((set : List ℕ) → counted_in set more ≡ counted_in set totals + counted_at set own.sets) → AreTotals totals (take at places) → AreTotals more (take (at + 1) places)
totals_more totals more places at own within is known added so_far = record {
  known = list_all_more (λ (place : PlaceState). is_some place.sets) places at own within
      ∙ (λ i. so_far.known i && (ap (λ (place : PlaceState). is_some place.sets) (sym is) ∙ known) i);
  numbers = λ set. sum_by_more (λ (place : PlaceState). counted_at set place.sets) places at own within
      ∙ (λ i. so_far.numbers set i + ap (λ (place : PlaceState). counted_at set place.sets) (sym is) i)
      ∙ sym (added set);
}
