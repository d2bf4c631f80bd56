-- Lists of items: look-up, removal and insertion. This repository's own view of OAI-PMH 2.0, sections 2.3 to 2.5.
use Rattle.std.specs.Prelude.{ℕ, ℤ, Bool, true, not, ◌&&◌, List, [], ◌∷◌, Option, filter, find}
use Rattle.std.specs.List.{insert, list_all, position_or_len}
use Rattle.std.specs.Ordering.{int_eq, is_gt}
use Rattle.std.specs.Str.{bytes_eq}
use Rattle.oai_item.specs.Item.{ItemState}
use Rattle.oai_item.specs.Order.{place_cmp, precedes}

-- ---- by identifier

-- the item has that identifier
abbrev pub is_named : List ℕ → ItemState → Bool
is_named identifier item = bytes_eq item.identifier identifier

-- the item with that identifier
unfoldable pub item_named : List ℕ → List ItemState → Option ItemState
item_named identifier items = find (is_named identifier) items

-- the items without the one with that identifier
unfoldable pub without : List ℕ → List ItemState → List ItemState
without identifier items = filter (λ item. not (is_named identifier item)) items

-- the second item does not have the identifier of the first
abbrev pub is_apart : ItemState → ItemState → Bool
is_apart item other = not (is_named item.identifier other)

-- the identifiers are distinct
abbrev pub are_apart : List ItemState → Bool
are_apart [] = true
are_apart (item ∷ items) = list_all (is_apart item) items && are_apart items

-- ---- by datestamp and identifier

-- the item has that datestamp and that identifier
abbrev pub is_at : ℤ → List ℕ → ItemState → Bool
is_at stamp identifier item = int_eq item.stamp stamp && is_named identifier item

-- the item with that datestamp and identifier
unfoldable pub item_at : ℤ → List ℕ → List ItemState → Option ItemState
item_at stamp identifier items = find (is_at stamp identifier) items

-- the items without the one with that datestamp and identifier
unfoldable pub without_at : ℤ → List ℕ → List ItemState → List ItemState
without_at stamp identifier items = filter (λ item. not (is_at stamp identifier item)) items

-- the items after that datestamp and identifier, whether or not an item has them
unfoldable pub items_after : ℤ → List ℕ → List ItemState → List ItemState
items_after stamp identifier items = filter (λ item. is_gt (place_cmp item stamp identifier)) items

-- the items with one more, inserted before the first that it precedes
unfoldable pub placed : ItemState → List ItemState → List ItemState
placed item items = insert items (position_or_len (precedes item) items) item

-- the items with that one, in place of any with its datestamp and identifier
unfoldable pub with_item : ItemState → List ItemState → List ItemState
with_item item items = placed item (without_at item.stamp item.identifier items)
