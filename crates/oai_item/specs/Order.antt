-- The order of items: by datestamp, as selective harvesting requests them (OAI-PMH 2.0, section 2.7), then by the bytes
-- of the identifier, which is this repository's own choice.
use Rattle.std.specs.Prelude.{◌≡◌, ◌+◌, ◌<◌, ◌≤◌, ℕ, ℤ, Bool, true, ◌&&◌, List, [], ◌∷◌, length, take, drop, Result, Ok, Err}
use Rattle.std.specs.List.{HoldsAt, list_all}
use Rattle.std.specs.Ordering.{nat_cmp, int_cmp, ordering_then, is_lt, is_gt}
use Rattle.std.specs.declared.cmp.Ordering.{Ordering}
use Rattle.std.specs.declared.cmp.Ordering.TheVariants.{Equal}
use Rattle.std.specs.Cmp.Lexicographic.{slice_cmp}
use Rattle.oai_item.specs.Item.{ItemState}

-- compares an item with that datestamp and that identifier
abbrev pub place_cmp : ItemState → ℤ → List ℕ → Ordering
place_cmp item stamp identifier =
    ordering_then (int_cmp item.stamp stamp) (slice_cmp nat_cmp item.identifier identifier)

-- the order of two items
abbrev pub item_cmp : ItemState → ItemState → Ordering
item_cmp a b = place_cmp a b.stamp b.identifier

-- the first item precedes the second
abbrev pub precedes : ItemState → ItemState → Bool
precedes a b = is_lt (item_cmp a b)

-- the items rise strictly: each precedes every later one
abbrev pub are_in_order : List ItemState → Bool
are_in_order [] = true
are_in_order (item ∷ items) = list_all (precedes item) items && are_in_order items

-- the first items all precede that datestamp and identifier, the others all follow them
pub record AreAround (stamp : ℤ) (identifier : List ℕ)
    (before behind : List ItemState) : Type 0 where
  pub below : list_all (λ item. is_lt (place_cmp item stamp identifier)) before ≡ true
  pub above : list_all (λ item. is_gt (place_cmp item stamp identifier)) behind ≡ true

-- the position of that datestamp and identifier among the items: that of the item that has them, or the one between
-- those before and those after
abbrev pub IsPlace : List ItemState → ℤ → List ℕ → Result ℕ ℕ → Type 0
IsPlace items stamp identifier (Ok at) =
    (at < length items) × HoldsAt (λ item. place_cmp item stamp identifier ≡ Equal) items at
    × AreAround stamp identifier (take at items) (drop (at + 1) items)
IsPlace items stamp identifier (Err at) =
    (at ≤ length items) × AreAround stamp identifier (take at items) (drop at items)
