-- Page directories: the leaves (places) of the items of one version, in the order of the items.
use Rattle.std.specs.Prelude.{◌≡◌, ◌+◌, ◌≤◌, ℕ, true, List, length, take, drop, ◌++◌, [], ◌∷◌}
use Rattle.std.specs.List.{AllByRecursion}
use Rattle.oai_item.specs.Item.{ItemState}
use Rattle.oai_item.specs.Items.{with_item}
use Rattle.oai_item.specs.Order.{are_in_order}
use Rattle.oai_pool.specs.Counts.{count_of}
use Rattle.oai_pool.specs.declared.pools.PagePool.{Ghosts}
use Rattle.oai_places.specs.Pages.{fit_one}
use Rattle.oai_places.specs.Places.{IsSoundPlace, Pages, PlaceState, items_on, named_in}
use Rattle.oai_places.specs.declared.sizes.TheConstants.{MAX_REPLACED}

-- the leaves are those of items in order, and share no pages
pub record IsDirectory (pages : Pages) (places : List PlaceState) : Type 0 where
  pub placed : AllByRecursion (IsSoundPlace pages) places
  pub rising : are_in_order (items_on pages places) ≡ true
  pub once : (n : ℕ) → named_in places n ≤ 1

-- the directory is one of the pool: it refers to the pool's pages, whose counts include each of its references
pub record StandsIn {P : Type 0} (g : Ghosts P) (pool : P) (places : List PlaceState) : Type 0 where
  pub directory : IsDirectory (g.pages pool) places
  pub named : (n : ℕ) → named_in places n ≤ count_of (g.counts pool) n

-- that many leaves from `at` on are at most three, and exist
pub record IsRunWithin (at len count : ℕ) : Type 0 where
  pub within : at + len ≤ count
  pub few : len ≤ MAX_REPLACED

-- the items of all leaves, with these in place of those of that many leaves from `at` on
abbrev pub items_with_run : Pages → List PlaceState → ℕ → ℕ → List ItemState → List ItemState
items_with_run pages places at len items = items_on pages (take at places) ++ (items ++ items_on pages (drop (at + len) places))

-- the items may replace those of that many leaves from `at` on: all are then in order
abbrev pub MayStand : Pages → List PlaceState → ℕ → ℕ → List ItemState → Type 0
MayStand pages places at len items = are_in_order (items_with_run pages places at len items) ≡ true

-- they may replace them on one page
pub record MayReplace (pages : Pages) (places : List PlaceState) (at len : ℕ) (items : List ItemState) : Type 0 where
  pub run : IsRunWithin at len (length places)
  pub fits : fit_one items ≡ true
  pub order : MayStand pages places at len items

-- the item alone, in place of that many leaves from `at` on, is the item inserted among those of all leaves
abbrev pub PutsAt : Pages → List PlaceState → ItemState → ℕ → ℕ → Type 0
PutsAt pages places item at len = items_with_run pages places at len (item ∷ []) ≡ with_item item (items_on pages places)
