-- A harvester's copy of an archive, and how harvests update it. OAI-PMH 2.0, sections 2.7 and 2.5.1; that a copy is in
-- the order of identifiers is this repository's own.
use Rattle.std.specs.Prelude.{ℕ, Bool, true, ◌&&◌, List, [], ◌∷◌, reverse, Option, if◌then◌else◌}
use Rattle.std.specs.List.{list_all}
use Rattle.oai_item.specs.Item.{ItemState, is_before}
use Rattle.oai_item.specs.Items.{is_named, item_named}

-- the identifier of the first item precedes that of the second
abbrev pub is_listed_before : ItemState → ItemState → Bool
is_listed_before a b = is_before a.identifier b.identifier

-- the items are in the order of their identifiers, which are distinct
abbrev pub are_listed : List ItemState → Bool
are_listed [] = true
are_listed (item ∷ items) = list_all (is_listed_before item) items && are_listed items

-- a copy with that item: it replaces the one with its identifier, or is inserted at its position
abbrev pub with_state : ItemState → List ItemState → List ItemState
with_state item [] = item ∷ []
with_state item (other ∷ others) =
    if is_named item.identifier other then item ∷ others
    else if is_listed_before item other then item ∷ other ∷ others
    else other ∷ with_state item others

-- a copy after those items, each in turn
abbrev pub caught_up : List ItemState → List ItemState → List ItemState
caught_up copy [] = copy
caught_up copy (item ∷ items) = caught_up (with_state item copy) items

-- a copy after the items of each harvest, one harvest after the other
abbrev pub caught_up_with : List ItemState → List (List ItemState) → List ItemState
caught_up_with copy [] = copy
caught_up_with copy (items ∷ harvests) = caught_up_with (caught_up copy items) harvests

-- the last item with that identifier
abbrev pub last_named : List ℕ → List ItemState → Option ItemState
last_named identifier items = item_named identifier (reverse items)
