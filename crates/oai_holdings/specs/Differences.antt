-- Differences between the items that are held at two moments. This repository's own.
use Rattle.std.specs.Prelude.{◌≡◌, ℕ, true, List, [], ◌∷◌, Option, None, Some, if◌then◌else◌}
use Rattle.std.specs.Str.{bytes_eq}
use Rattle.oai_item.specs.Item.{ItemState}
use Rattle.oai_item.specs.Items.{are_apart, is_named, item_named, without}
use Rattle.oai_item.specs.Order.{are_in_order}
use Rattle.oai_holdings.specs.Changes.{with_new}

-- a difference: an item comes in place of the one with its identifier, if there is one; or the item with an identifier
-- goes
pub data ItemDifference : Type 0 where
  comes : ItemState → ItemDifference
  goes : List ℕ → ItemDifference

-- items with a difference
abbrev pub with_difference : List ItemState → ItemDifference → List ItemState
with_difference items (comes item) = with_new item items
with_difference items (goes identifier) = without identifier items

-- items with differences, one after the other
abbrev pub with_differences : List ItemState → List ItemDifference → List ItemState
with_differences items [] = items
with_differences items (difference ∷ differences) = with_differences (with_difference items difference) differences

-- the item with an identifier after differences, by the one before them: the last difference of the identifier tells
abbrev pub named_after : List ℕ → List ItemDifference → Option ItemState → Option ItemState
named_after identifier [] found = found
named_after identifier (comes item ∷ differences) found = named_after identifier differences (if is_named identifier item then Some item else found)
named_after identifier (goes gone ∷ differences) found = named_after identifier differences (if bytes_eq gone identifier then None else found)

-- the items are in their order, and their identifiers are distinct
pub record AreInOrderAndApart (items : List ItemState) : Type 0 where
  pub ordered : are_in_order items ≡ true
  pub apart : are_apart items ≡ true

-- the differences are those from the items to the others: under each identifier they lead to the item that the others
-- have, or to none
abbrev pub AreDifferences : List ItemState → List ItemDifference → List ItemState → Type 0
AreDifferences items differences others = (identifier : List ℕ) → named_after identifier differences (item_named identifier items) ≡ item_named identifier others
