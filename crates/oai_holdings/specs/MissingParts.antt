-- The parts of a batch of missing items, for the private functions that read it.
use Rattle.std.specs.Prelude.{◌≡◌, ◌-◌, ℕ, Bool, true, false, ◌++◌, nat_lt, if◌then◌else◌, List, [], ◌∷◌, length, Option, None, Some, slice_get}
use Rattle.std.specs.List.{list_all}
use Rattle.oai_item.specs.Item.{ItemState}
use Rattle.oai_item.specs.Order.{precedes}
use Rattle.oai_holdings.specs.Missing.{is_after, is_same_item, sort_key_of}
use Rattle.oai_holdings.specs.declared.differences.OwnedKey.{OwnedKey}

-- the last of so many items that were asked for; none if there are fewer, since none follow these
abbrev pub last_in_batch : ℕ → List ItemState → Option ItemState
last_in_batch most items = if nat_lt (length items) most then None else slice_get items (length items - 1)

-- the earlier of two items, in their order, or the only one
abbrev pub earlier_of : Option ItemState → Option ItemState → Option ItemState
earlier_of None other = other
earlier_of (Some item) None = Some item
earlier_of (Some item) (Some other) = if precedes item other then Some item else Some other

-- the item, if there is one, comes after the key
abbrev pub is_further : Option ItemState → Option OwnedKey → Bool
is_further None behind = true
is_further (Some item) behind = is_after (sort_key_of item) behind

-- the first of the others is equal to the item
abbrev pub is_first : ItemState → List ItemState → Bool
is_first item [] = false
is_first item (other ∷ others) = is_same_item item other

-- the first of the others precedes the item
abbrev pub begins_before : ItemState → List ItemState → Bool
begins_before item [] = false
begins_before item (other ∷ others) = precedes other item

-- the others from the first on that does not precede the item
pub record AreFrom (item : ItemState) (others rest : List ItemState) : Type 0 where
  pub front : List ItemState
  pub split : others ≡ front ++ rest
  pub before : list_all (λ (other : ItemState). precedes other item) front ≡ true
  pub reached : begins_before item rest ≡ false
