-- How the differences between two versions are read, batch by batch. It ties the code to the definitions.
use Rattle.std.specs.Prelude.{◌≡◌, true, ◌++◌, List, Option, None, Some}
use Rattle.oai_item.specs.Item.{ItemState}
use Rattle.oai_holdings.specs.declared.differences.MissingItems.{MissingItems}
use Rattle.oai_holdings.specs.declared.differences.OwnedKey.{OwnedKey}
use Rattle.oai_snapshots.specs.Batches.{all_come, all_go, is_place_after}
use Rattle.oai_snapshots.specs.Snapshots.{SnapshotPlace, arriving, differences_left, going}
use Rattle.oai_snapshots.specs.declared.places.DifferencePlace.{DifferencePlace}
use Rattle.oai_snapshots.specs.declared.places.DifferencePlace.TheVariants.{Going, Arriving}
use Rattle.oai_snapshots.specs.declared.places.Differences.{Differences}
use Rattle.oai_snapshots.specs.declared.places.Differences.TheVariants.{Go, Come}

-- the place
abbrev pub place_in_differences : DifferencePlace → SnapshotPlace
place_in_differences (Going behind) = going behind
place_in_differences (Arriving behind) = arriving behind

-- the key after which items come, if they do
abbrev pub key_of_place : SnapshotPlace → Option OwnedKey
key_of_place (going behind) = None
key_of_place (arriving behind) = behind

-- they are the next differences from the items to the others at that place, and the others are left at the place after
-- them, which is further on, or none
abbrev pub AreNextDifferences : SnapshotPlace → List ItemState → List ItemState → Differences → Type 0
AreNextDifferences place items others (Go batch after) =
    (differences_left place items others ≡ all_go batch ++ differences_left (place_in_differences after) items others)
    × (is_place_after place (place_in_differences after) ≡ true)
AreNextDifferences place items others (Come batch None) = differences_left place items others ≡ all_come batch
AreNextDifferences place items others (Come batch (Some after)) =
    (differences_left place items others ≡ all_come batch ++ differences_left (place_in_differences after) items others)
    × (is_place_after place (place_in_differences after) ≡ true)

-- the items of the batch go
abbrev pub place_after : Option OwnedKey → DifferencePlace
place_after None = Arriving None
place_after (Some next) = Going (Some next)

abbrev pub going_of : MissingItems → Differences
going_of batch = Go batch.items (place_after batch.next)

-- the items of the batch come
abbrev pub left_after_key : Option OwnedKey → Option DifferencePlace
left_after_key None = None
left_after_key (Some next) = Some (Arriving (Some next))

abbrev pub coming_of : MissingItems → Differences
coming_of batch = Come batch.items (left_after_key batch.next)
