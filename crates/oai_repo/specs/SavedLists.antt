-- The parts of a repository's state with its open lists. This repository's own.
use Rattle.std.specs.Prelude.{◌≡◌, List, [], ◌∷◌, ◌++◌, map}
use Rattle.std.specs.List.{flat_map}
use Rattle.oai_item.specs.Item.{ItemState}
use Rattle.oai_holdings.specs.Differences.{AreDifferences, AreInOrderAndApart, ItemDifference, comes, goes}
use Rattle.oai_repo.specs.Saved.{SavedListState, SavedPartState, begun_list, has_clock, has_gone, has_item, has_list, has_named_set}
use Rattle.oai_repo.specs.State.{FrozenList, RepoState}

-- an item that comes, or goes
abbrev pub part_of_difference : ItemDifference → SavedPartState
part_of_difference (comes item) = has_item item
part_of_difference (goes identifier) = has_gone identifier

-- the beginning of a list: what has changed of the items since the list before it began, and the list
pub record Beginning : Type 0 where
  pub differences : List ItemDifference
  pub list : SavedListState

abbrev pub parts_of_beginning : Beginning → List SavedPartState
parts_of_beginning b = map part_of_difference b.differences ++ has_list b.list ∷ []

-- the parts of a state: the clock and the next number; the sets; for each open list its beginning; and what has changed
-- of the items since the last one
abbrev pub listed_parts : RepoState → List Beginning → List ItemDifference → List SavedPartState
listed_parts state beginnings last =
    has_clock state.clock state.open_lists.next
    ∷ (map has_named_set state.holdings.sets ++ (flat_map parts_of_beginning beginnings ++ map part_of_difference last))

-- items that were held before; the beginnings of these lists, in their order; and what has changed since up to the
-- items that are held. Each list has what its filter selects of the items when it began
abbrev pub AreBeginnings : List ItemState → List Beginning → List ItemDifference → List FrozenList → List ItemState → Type 0
AreBeginnings before [] last lists held = (lists ≡ []) × AreDifferences before last held × AreInOrderAndApart held
AreBeginnings before (b ∷ bs) last lists held =
    (items : List ItemState) × (others : List FrozenList)
    × AreDifferences before b.differences items × AreInOrderAndApart items
    × (lists ≡ begun_list b.list items ∷ others)
    × AreBeginnings items bs last others held
