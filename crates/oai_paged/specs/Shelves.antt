-- The directories of all versions of a store, over the pages of one pool.
use Rattle.std.specs.Prelude.{◌≡◌, ◌+◌, ◌-◌, ◌<◌, ◌/◌, ℕ, zero, suc, List, [], ◌∷◌, Option, None, Some, length, map, max, min, option_map, sum_by, slice_index_or}
use Rattle.std.specs.List.{Contains}
use Rattle.oai_catalogue.specs.Store.{VersionLists, list_at}
use Rattle.oai_item.specs.Item.{ItemState}
use Rattle.oai_pool.specs.Counts.{count_of}
use Rattle.oai_pool.specs.Names.{times}
use Rattle.oai_pool.specs.declared.pools.TheConstants.{MAX_PAGES}
use Rattle.oai_places.specs.Directory.{IsDirectory}
use Rattle.oai_places.specs.Pages.{FitAlone, FitPage, pages_of}
use Rattle.oai_places.specs.Places.{Pages, PlaceState, items_on, named_in, page_at}

-- a directory at each number that is in use
abbrev pub Directories : Type 0
Directories = List (Option (List PlaceState))

-- the one at that number
abbrev pub directory_at : Directories → ℕ → Option (List PlaceState)
directory_at slots v = slice_index_or slots v None

-- the lists of items that they hold
abbrev pub lists_on : Pages → Directories → VersionLists
lists_on pages slots v = option_map (items_on pages) (directory_at slots v)

-- how often the leaves of a slot reference a number
abbrev pub named_at : ℕ → Option (List PlaceState) → ℕ
named_at n None = 0
named_at n (Some places) = named_in places n

-- how often all leaves of all directories reference a number
unfoldable pub named_by_all : Directories → ℕ → ℕ
named_by_all slots n = sum_by (named_at n) slots

-- the reference count of each page is the number of references by the leaves of all directories, and each directory is
-- one
pub record AreShelved (counts : List ℕ) (pages : Pages) (slots : Directories) : Type 0 where
  pub counted : (n : ℕ) → count_of counts n ≡ named_by_all slots n
  pub directories : (v : ℕ) (places : List PlaceState) → directory_at slots v ≡ Some places → IsDirectory pages places

-- the greatest count
unfoldable pub most_of : List ℕ → ℕ
most_of [] = 0
most_of (count ∷ counts) = max count (most_of counts)

-- the most pages that one call adds
abbrev pub MAX_ADDED : ℕ
MAX_ADDED = 68

-- how many calls are sure to find room: pages, and further references to each page
abbrev pub calls_left : ℕ → List ℕ → ℕ
calls_left pages_left counts = min (pages_left / MAX_ADDED) (MAX_PAGES - most_of counts)

-- how many items all lists below that number have together
unfoldable pub items_below : ℕ → VersionLists → ℕ
items_below zero lists = 0
items_below (suc v) lists = length (list_at lists v) + items_below v lists

-- the item is stored on referenced pages: they are the pages of some items, of which it is one. These are complete on
-- one page; or it is alone, and has as many overflow pages as it needs
pub record StandsOnPages (counts : List ℕ) (pages : Pages) (item : ItemState) : Type 0 where
  pub numbers : List ℕ
  pub items : List ItemState
  pub named : (n : ℕ) → 0 < times n numbers → 0 < count_of counts n
  pub written : map (page_at pages) numbers ≡ pages_of items
  pub fit : FitPage items
  pub alone : FitAlone items
  pub among : Contains items item
