-- The batches in which a snapshot is handed out. This repository's own.
use Rattle.std.specs.Prelude.{◌≡◌, ◌⊎◌, ◌<◌, ℕ, Bool, true, false, ◌==◌, ◌&&◌, nat_le, List, [], ◌∷◌, ◌++◌, drop, length, map, take, Option, None, Some, IsTrue}
use Rattle.oai_item.specs.Item.{ItemState}
use Rattle.oai_catalogue.specs.Store.{VersionLists}
use Rattle.oai_holdings.specs.Differences.{ItemDifference, comes, goes}
use Rattle.oai_holdings.specs.Holdings.{NamedSet}
use Rattle.oai_holdings.specs.Missing.{goes_on}
use Rattle.oai_repo.specs.Fields.{AreInUse, KeepsOthers, has}
use Rattle.oai_repo.specs.SavedLists.{part_of_difference}
use Rattle.oai_repo.specs.Saved.{SavedPartState, has_clock, has_named_set}
use Rattle.oai_snapshots.specs.Snapshots.{SnapshotFields, SnapshotPlace, arriving, going, have_whole, list_parts, numbers_of_snapshot}
use Rattle.oai_snapshots.specs.declared.batches.Batch.{Batch}
use Rattle.oai_snapshots.specs.declared.batches.Batch.TheVariants.{Begins, HasSet, Gone, Come}

-- the items that go, and the items that come
abbrev pub all_go : List ItemState → List ItemDifference
all_go items = map (λ (item : ItemState). goes item.identifier) items

abbrev pub all_come : List ItemState → List ItemDifference
all_come items = map comes items

-- the parts of a batch, of a repository with these sets
abbrev pub parts_of_batch : List NamedSet → Batch → List SavedPartState
parts_of_batch sets (Begins clock next) = has_clock clock next ∷ []
parts_of_batch sets (HasSet at) = map has_named_set (take 1 (drop at sets))
parts_of_batch sets (Gone items) = map part_of_difference (all_go items)
parts_of_batch sets (Come items list) = map part_of_difference (all_come items) ++ list_parts list

-- the parts that are handed out next; none where nothing is left
abbrev pub next_parts : List NamedSet → Option Batch → List SavedPartState
next_parts sets None = []
next_parts sets (Some batch) = parts_of_batch sets batch

-- nothing is left to hand out
abbrev pub has_nothing_left : SnapshotFields → Bool
has_nothing_left snapshot = snapshot.begun && nat_le snapshot.sets snapshot.given && length snapshot.versions == 0

-- the precondition of a call on a snapshot: its numbers are in use, each for one thing, and an honest store has items
-- under them that can be read as a whole
pub record HoldsSnapshot (honest : Bool) (snapshot : SnapshotFields) (lists : VersionLists) : Type 0 where
  pub stands : AreInUse (numbers_of_snapshot snapshot) lists
  pub whole : IsTrue honest → have_whole (numbers_of_snapshot snapshot) lists ≡ true

-- what handing out a batch leaves: the precondition of the next call; the lists of others, and those under the numbers
-- that the snapshot still has; its clock, and how many sets there were
pub record LeavesSnapshot (honest : Bool) (old : SnapshotFields) (before : VersionLists) (new : SnapshotFields) (after : VersionLists) : Type 0 where
  pub holds : HoldsSnapshot honest new after
  pub others : KeepsOthers (numbers_of_snapshot old) before (numbers_of_snapshot new) after
  pub kept : (n : ℕ) → has (numbers_of_snapshot new) n ≡ true → after n ≡ before n
  pub clock : new.clock ≡ old.clock
  pub sets : new.sets ≡ old.sets

-- ---- how far it is handed out

-- the place comes after the first: later items go, others come, or later ones come
abbrev pub is_place_after : SnapshotPlace → SnapshotPlace → Bool
is_place_after (going behind) (going after) = goes_on behind after
is_place_after (going behind) (arriving after) = true
is_place_after (arriving behind) (going after) = false
is_place_after (arriving behind) (arriving after) = goes_on behind after

-- a version was handed out whole, or more of the changes to the first
abbrev pub IsFurtherOn : SnapshotFields → SnapshotFields → Type 0
IsFurtherOn old new =
    (length new.versions < length old.versions) ⊎ ((new.versions ≡ old.versions) × (is_place_after old.place new.place ≡ true))

-- more was handed out: the clock, a set, or changes
abbrev pub HasHandedOutMore : SnapshotFields → SnapshotFields → Type 0
HasHandedOutMore old new = ((old.begun ≡ false) × (new.begun ≡ true)) ⊎ ((old.given < new.given) ⊎ IsFurtherOn old new)
