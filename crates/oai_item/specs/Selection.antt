-- Selective harvesting: which items a list request selects. OAI-PMH 2.0, sections 2.5.1, 2.6, 2.7, 4.3 and 4.5.
use Rattle.std.specs.Prelude.{ℕ, ℤ, ◌≤ℤ◌, int_le, Bool, true, ◌&&◌, List, Option, None, Some, IfSome, IsTrue, filter}
use Rattle.std.specs.List.{Contains}
use Rattle.oai_item.specs.Item.{ItemState, has_record}
use Rattle.oai_item.specs.Membership.{is_in}

-- what a list request asks for: a metadataPrefix, the datestamps from the lower to the upper bound, in seconds from
-- 1970 on and both included, and a set if one is given
pub record Filter : Type 0 where
  pub prefix : List ℕ
  pub lower : ℤ
  pub upper : ℤ
  pub set : Option (List ℕ)

-- an item with these setSpecs is in the set, if one is given
abbrev pub is_in_given : Option (List ℕ) → List (List ℕ) → Bool
is_in_given None sets = true
is_in_given (Some set) sets = is_in set sets

-- the request selects the item, live or deleted
abbrev pub passes : Filter → ItemState → Bool
passes asked item =
    has_record asked.prefix item.formats
    && int_le asked.lower item.stamp
    && int_le item.stamp asked.upper
    && is_in_given asked.set item.sets

-- the selection: the items that the request selects
unfoldable pub selected : Filter → List ItemState → List ItemState
selected asked items = filter (passes asked) items

-- the item is one of these, has a record with the prefix, a datestamp within the bounds, and is in the set if one is
-- given
pub record IsSelected (asked : Filter) (items : List ItemState) (item : ItemState) : Type 0 where
  pub stands : Contains items item
  pub has_prefix : IsTrue (has_record asked.prefix item.formats)
  pub from : asked.lower ≤ℤ item.stamp
  pub until : item.stamp ≤ℤ asked.upper
  pub in_set : IfSome asked.set (λ set. IsTrue (is_in set item.sets))
