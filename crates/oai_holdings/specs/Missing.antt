-- What the items of one version are and those of another are not, and how it is read in batches. This repository's own.
use Rattle.std.specs.Prelude.{◌≡◌, ◌+◌, ◌≤◌, ℕ, Bool, true, false, ◌&&◌, not, List, [], ◌∷◌, ◌++◌, length, map, filter, Option, None, Some, is_none, is_some, IfSome, IsSome, IsTrue}
use Rattle.std.specs.Bool.{beq}
use Rattle.std.specs.List.{list_all, list_any}
use Rattle.std.specs.Cmp.Lexicographic.{pointwise, slice_cmp}
use Rattle.std.specs.Ordering.{int_cmp, int_eq, is_gt, nat_cmp, ordering_then}
use Rattle.std.specs.Str.{bytes_eq}
use Rattle.oai_item.specs.Item.{ItemState}
use Rattle.oai_item.specs.Items.{item_named, without}
use Rattle.oai_catalogue.specs.Store.{list_at}
use Rattle.oai_catalogue.specs.declared.versions.Versions.{Ghosts}
use Rattle.oai_holdings.specs.Changes.{is_same_record, with_new}
use Rattle.oai_holdings.specs.Differences.{ItemDifference, comes, goes}
use Rattle.oai_holdings.specs.Index.{has_writable_stamp}
use Rattle.oai_holdings.specs.Purges.{is_in_core}
use Rattle.oai_holdings.specs.declared.differences.MissingItems.{MissingItems}
use Rattle.oai_holdings.specs.declared.differences.OwnedKey.{OwnedKey}

-- ---- the items that others lack

-- the items are equal: one datestamp, one identifier, both live or both deleted, the same sets and the same records
abbrev pub is_same_item : ItemState → ItemState → Bool
is_same_item item other =
    int_eq item.stamp other.stamp && bytes_eq item.identifier other.identifier && beq item.live other.live
    && pointwise bytes_eq item.sets other.sets && pointwise is_same_record item.formats other.formats

-- one of the others is equal to the item
abbrev pub has_equal : List ItemState → ItemState → Bool
has_equal others item = list_any (is_same_item item) others

-- the items that are none of the others
unfoldable pub missing_in : List ItemState → List ItemState → List ItemState
missing_in others items = filter (λ item. not (has_equal others item)) items

-- the differences from the items to the others: first the items that the others lack go, then the others that the items
-- lack come
abbrev pub differences_of : List ItemState → List ItemState → List ItemDifference
differences_of items others =
    map (λ (item : ItemState). goes item.identifier) (missing_in others items) ++ map comes (missing_in items others)

-- each of the differences, one after the other, is one of its own: an item that goes is there, and none of the
-- identifier of one that comes is. So the first makes the items one fewer, and the second one more
abbrev pub AreStepwise : List ItemState → List ItemDifference → Type 0
AreStepwise items [] = Unit {0}
AreStepwise items (comes item ∷ differences) =
    (is_none (item_named item.identifier items) ≡ true) × AreStepwise (with_new item items) differences
AreStepwise items (goes identifier ∷ differences) =
    (is_some (item_named identifier items) ≡ true) × AreStepwise (without identifier items) differences

-- ---- batches of them

-- the first key comes after the second in the order of items; each does if there is no second
abbrev pub is_after : OwnedKey → Option OwnedKey → Bool
is_after key None = true
is_after key (Some other) =
    is_gt (ordering_then (int_cmp key.stamp other.stamp) (slice_cmp nat_cmp key.identifier other.identifier))

-- the key of an item
abbrev pub sort_key_of : ItemState → OwnedKey
sort_key_of item = record { stamp = item.stamp; identifier = item.identifier }

-- the items after the key, or all
unfoldable pub items_past : Option OwnedKey → List ItemState → List ItemState
items_past behind items = filter (λ (item : ItemState). is_after (sort_key_of item) behind) items

-- how many items of both come after the key
abbrev pub left_after : List ItemState → List ItemState → Option OwnedKey → ℕ
left_after items others behind = length (items_past behind items) + length (items_past behind others)

-- the item is at the key or before it; each is if there is no key
abbrev pub is_up_to : Option OwnedKey → ItemState → Bool
is_up_to None item = true
is_up_to (Some key) item = not (is_after (sort_key_of item) (Some key))

-- the items up to the key, or all
unfoldable pub items_up_to : Option OwnedKey → List ItemState → List ItemState
items_up_to next items = filter (is_up_to next) items

-- a batch of the items that the others lack: those after a key, up to the key after which the next batch begins, or to
-- the end
abbrev pub IsBatch : List ItemState → List ItemState → Option OwnedKey → MissingItems → Type 0
IsBatch items others behind batch = batch.items ≡ missing_in others (items_up_to batch.next (items_past behind items))

-- after the batch, if it is not the last one, at least so many fewer items of both are left
abbrev pub GoesPast : ℕ → List ItemState → List ItemState → Option OwnedKey → MissingItems → Type 0
GoesPast most items others behind batch =
    IfSome batch.next (λ next. left_after items others (Some next) + most ≤ left_after items others behind)

-- there is a next batch, and it begins further on
abbrev pub goes_on : Option OwnedKey → Option OwnedKey → Bool
goes_on behind None = false
goes_on behind (Some next) = is_after next behind

-- batches, each from the key to which the one before it goes, and the last one to the end
abbrev pub AreBatches : List ItemState → List ItemState → Option OwnedKey → List MissingItems → Type 0
AreBatches items others behind [] = ⊥
AreBatches items others behind (batch ∷ []) = IsBatch items others behind batch × (batch.next ≡ None)
AreBatches items others behind (batch ∷ more ∷ batches) =
    IsBatch items others behind batch × (goes_on behind batch.next ≡ true)
    × AreBatches items others batch.next (more ∷ batches)

-- ---- a version that is read

-- the version is in use, and in an honest store each item has a record in unqualified Dublin Core (OAI-PMH 2.0, section
-- 2.5) and a datestamp that can be written, as the items of a repository do
pub record IsReadableVersion {V : Type 0} (g : Ghosts V) (store : V) (version : ℕ) : Type 0 where
  pub stands : IsSome (g.lists store version)
  pub core : IsTrue (g.honest store) → list_all is_in_core (list_at (g.lists store) version) ≡ true
  pub dated : IsTrue (g.honest store) → list_all has_writable_stamp (list_at (g.lists store) version) ≡ true
