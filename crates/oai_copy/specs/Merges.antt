-- The steps of an update of a copy. This repository's own.
use Rattle.std.specs.Prelude.{◌≡◌, ◌-◌, ℕ, Bool, true, false, not, ◌&&◌, List, [], ◌∷◌, ◌++◌, length, Option, None, Some, filter, slice_get, if◌then◌else◌}
use Rattle.std.specs.List.{list_all}
use Rattle.std.specs.Option.{option_to_list}
use Rattle.oai_item.specs.Item.{ItemState}
use Rattle.oai_item.specs.Items.{is_named}
use Rattle.oai_copy.specs.Copies.{is_listed_before}

-- the identifier of the first item precedes that of the second, or is the same
abbrev pub is_not_behind : ItemState → ItemState → Bool
is_not_behind a b = not (is_listed_before b a)

-- the items are in the order of their identifiers, which may repeat
abbrev pub never_fall : List ItemState → Bool
never_fall [] = true
never_fall (item ∷ items) = list_all (is_not_behind item) items && never_fall items

-- the second list has the items of the first in the order of their identifiers; those with one identifier keep their
-- order
pub record IsArranged (items arranged : List ItemState) : Type 0 where
  pub ordered : never_fall arranged ≡ true
  pub same : (identifier : List ℕ) → filter (is_named identifier) arranged ≡ filter (is_named identifier) items

-- the last item
abbrev pub last_of : List ItemState → Option ItemState
last_of items = slice_get items (length items - 1)

-- the last item of the newer list is taken before that of the older one, whose identifier is not greater
abbrev pub goes_first : Option ItemState → Option ItemState → Bool
goes_first None newer = true
goes_first (Some older) None = false
goes_first (Some older) (Some newer) = is_not_behind older newer

-- the last item of one of two lists was taken out, if there is one; the other list is unchanged
abbrev pub IsLastPopped : List ItemState → List ItemState → Option ItemState → List ItemState → List ItemState → Type 0
IsLastPopped older newer taken older_left newer_left =
    (goes_first (last_of older) (last_of newer) ≡ true → (newer ≡ newer_left ++ option_to_list taken) × (older_left ≡ older))
    × (goes_first (last_of older) (last_of newer) ≡ false → (older ≡ older_left ++ option_to_list taken) × (newer_left ≡ newer))

-- the items with one more in front, unless the first one has its identifier
abbrev pub with_first : ItemState → List ItemState → List ItemState
with_first item [] = item ∷ []
with_first item (first ∷ items) = if is_named item.identifier first then first ∷ items else item ∷ first ∷ items

-- the first item exists, and has the identifier of the second
abbrev pub is_same_named : Option ItemState → ItemState → Bool
is_same_named None item = false
is_same_named (Some first) item = is_named item.identifier first
