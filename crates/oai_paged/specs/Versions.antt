-- The versions of a store: each refers to a directory, and several may share one.
use Rattle.std.specs.Prelude.{◌≡◌, ◌==◌, if◌then◌else◌, ◌<◌, ℕ, List, Option, None, Some, map, option_map, slice_index_or, sum_by}
use Rattle.oai_places.specs.Places.{PlaceState}
use Rattle.oai_paged.specs.Shelves.{Directories, directory_at}

-- a directory, and how many versions refer to it
pub record DirectoryState : Type 0 where
  pub places : List PlaceState
  pub versions : ℕ

-- a directory at each number that is in use
abbrev pub Shelves : Type 0
Shelves = List (Option DirectoryState)

-- the number of a directory at each version that is in use
abbrev pub DirectoryNumbers : Type 0
DirectoryNumbers = List (Option ℕ)

-- the number to which a version refers
abbrev pub directory_number_at : DirectoryNumbers → ℕ → Option ℕ
directory_number_at versions v = slice_index_or versions v None

-- the directory at a number
abbrev pub shelf_at : Shelves → ℕ → Option DirectoryState
shelf_at shelves d = slice_index_or shelves d None

-- the leaves of a directory, if there is one
abbrev pub places_in : Option DirectoryState → Option (List PlaceState)
places_in shelf = option_map (λ (directory : DirectoryState). directory.places) shelf

-- the leaves of all directories
abbrev pub places_of : Shelves → Directories
places_of shelves = map places_in shelves

-- the directory with the number, if there is one
abbrev pub directory_named : Shelves → Option ℕ → Option (List PlaceState)
directory_named shelves None = None
directory_named shelves (Some d) = directory_at (places_of shelves) d

-- for each version its directory
abbrev pub directories_named : DirectoryNumbers → Shelves → Directories
directories_named versions shelves = map (directory_named shelves) versions

-- how often a version refers to the directory
abbrev pub names_at : ℕ → Option ℕ → ℕ
names_at d None = 0
names_at d (Some number) = if d == number then 1 else 0

-- how many versions refer to the directory
unfoldable pub references_to : ℕ → DirectoryNumbers → ℕ
references_to d versions = sum_by (names_at d) versions

-- the reference count of a directory, if there is one
abbrev pub shelf_count : Option DirectoryState → ℕ
shelf_count None = 0
shelf_count (Some directory) = directory.versions

-- the reference count of each directory is the number of versions that refer to it, at least one; each version refers
-- to a directory
pub record AreShared (versions : DirectoryNumbers) (shelves : Shelves) : Type 0 where
  pub counted : (d : ℕ) → references_to d versions ≡ shelf_count (shelf_at shelves d)
  pub named : (d : ℕ) (directory : DirectoryState) → shelf_at shelves d ≡ Some directory → 0 < directory.versions
