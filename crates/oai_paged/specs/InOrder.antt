-- No definition: the lists of a store are in order, one fact, which shows a law of its trait.
use Rattle.std.specs.Prelude.{◌≡◌, ℕ, zero, suc, true, List, [], ◌∷◌, Option, None, Some, option_map, unwrap_or}
use Rattle.std.proofs.Common.{refl}
use Rattle.oai_catalogue.specs.Store.{AreInOrder, list_at}
use Rattle.oai_item.specs.Order.{are_in_order}
use Rattle.oai_places.specs.Places.{Pages, PlaceState, items_on}
use Rattle.oai_paged.specs.Shelves.{AreShelved, directory_at, lists_on}
use Rattle.oai_paged.specs.Versions.{DirectoryNumbers, Shelves, directories_named, directory_named, places_of}

module _ (counts : List ℕ) (pages : Pages) (shelves : Shelves) (h : AreShelved counts pages (places_of shelves)) where
  in_order_at : (d : ℕ) (o : Option (List PlaceState)) → directory_at (places_of shelves) d ≡ o
      → are_in_order (unwrap_or (option_map (items_on pages) o) []) ≡ true
  in_order_at d None is = refl
  in_order_at d (Some places) is = (h.directories d places is).rising

  in_order_named : (o : Option ℕ) → are_in_order (unwrap_or (option_map (items_on pages) (directory_named shelves o)) []) ≡ true
  in_order_named None = refl
  in_order_named (Some d) = in_order_at d (directory_at (places_of shelves) d) refl

  pub named_in_order : (versions : DirectoryNumbers) → AreInOrder (lists_on pages (directories_named versions shelves))
  named_in_order [] zero = refl
  named_in_order [] (suc v) = refl
  named_in_order (o ∷ versions) zero = in_order_named o
  named_in_order (o ∷ versions) (suc v) = named_in_order versions v
