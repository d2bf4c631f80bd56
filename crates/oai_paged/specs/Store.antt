-- What clauses see of a store of versions over a pool.
use Rattle.std.specs.Prelude.{◌≡◌, ◌+◌, ◌≤◌, ℕ, List, [], Option, Some, unwrap_or}
use Rattle.oai_pool.specs.Counts.{count_of}
use Rattle.oai_pool.specs.declared.pools.PagePool.{Ghosts}
use Rattle.oai_places.specs.Places.{PlaceState, named_in}
use Rattle.oai_paged.specs.Shelves.{Directories, directory_at}
use Rattle.oai_paged.specs.Versions.{directories_named, directory_number_at, references_to}
use Rattle.oai_paged.specs.declared.store.VersionsOver.{VersionsOver}

module _ {P : Type 0} {g : Ghosts P} where
  -- its pool
  abbrev pub pool_of : VersionsOver P g → P
  pool_of store = store.pool

  -- the directory of each version
  abbrev pub directories_of : VersionsOver P g → Directories
  directories_of store = directories_named store.versions.slots store.directories.slots

  -- the leaves of a version
  abbrev pub places_at : VersionsOver P g → ℕ → List PlaceState
  places_at store v = unwrap_or (directory_at (directories_of store) v) []

  -- the number of the directory of a version
  abbrev pub named_by : VersionsOver P g → ℕ → Option ℕ
  named_by store v = directory_number_at store.versions.slots v

  -- how many versions refer to a directory
  abbrev pub named_times : VersionsOver P g → ℕ → ℕ
  named_times store number = references_to number store.versions.slots

-- the version alone has the directory with that number, and that alone may have added references to pages
pub record IsUnshared {P : Type 0} {g : Ghosts P} (v number : ℕ) (old new : VersionsOver P g) : Type 0 where
  pub named : named_by new v ≡ Some number
  pub alone : named_times new number ≡ 1
  pub pages : (n : ℕ) → count_of (g.counts (pool_of new)) n ≤ count_of (g.counts (pool_of old)) n + named_in (places_at new v) n
