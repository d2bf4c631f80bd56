-- Places: the leaves of a page directory, where items are stored in a pool of pages, and their statistics.
use Rattle.std.specs.Prelude.{◌≡◌, ◌==◌, ◌&&◌, ◌+◌, ◌<◌, ◌≤◌, ℕ, ℤ, Bool, true, List, [], ◌∷◌, length, drop, take, map, Option, None, Some, option_map, unwrap_or, slice_index}
use Rattle.std.specs.List.{flat_map, list_all}
use Rattle.std.specs.Option.{option_flatten}
use Rattle.std.specs.Ordering.{nat_cmp, int_cmp, ordering_then, is_gt, is_lt}
use Rattle.std.specs.declared.cmp.Ordering.{Ordering}
use Rattle.std.specs.Cmp.Lexicographic.{slice_cmp}
use Rattle.oai_item.specs.Item.{ItemState, has_record}
use Rattle.oai_item.specs.Order.{place_cmp}
use Rattle.oai_item.specs.Selection.{Filter, passes}
use Rattle.oai_pool.specs.Names.{times}
use Rattle.oai_sums.specs.Sums.{AreCounts, SetTotal, count_in_set, counted_in, span_in}
use Rattle.oai_sums.specs.declared.spans.Span.{Span}
use Rattle.oai_places.specs.Entries.{ending_by}
use Rattle.oai_places.specs.Pages.{IsPage, begins_at, fit_one, items_in, joined_pages, pages_of, size_of}
use Rattle.oai_places.specs.declared.sizes.TheConstants.{FRONT_BYTES, MAX_ENTRY_BYTES, MAX_OVERFLOW_PAGES}

-- a leaf: the numbers of its pages, the datestamp and the identifier of its first item, how many items there are and
-- how many bytes their entries have, prefixes with which each of them has a record, and how many are in each set, if it
-- is known
pub record PlaceState : Type 0 where
  pub pages : List ℕ
  pub stamp : ℤ
  pub identifier : List ℕ
  pub len : ℕ
  pub size : ℕ
  pub prefixes : List (List ℕ)
  pub sets : Option (List SetTotal)

-- the page under each number
abbrev pub Pages : Type 0
Pages = ℕ → Option (List ℕ)

-- ---- the items

-- the page under a number
abbrev pub page_at : Pages → ℕ → List ℕ
page_at pages n = unwrap_or (pages n) []

-- the bytes of the pages with these numbers, of which the first has the entries, and the others are its overflow pages
unfoldable pub bytes_on : Pages → List ℕ → List ℕ
bytes_on pages numbers = joined_pages (map (page_at pages) numbers)

-- the items of a leaf
unfoldable pub items_at : Pages → PlaceState → List ItemState
items_at pages place = items_in (bytes_on pages place.pages)

-- the items of leaves, one after the other
unfoldable pub items_on : Pages → List PlaceState → List ItemState
items_on pages places = flat_map (items_at pages) places

-- each item has a record with each prefix
unfoldable pub have_records : List (List ℕ) → List ItemState → Bool
have_records prefixes items =
    list_all (λ (item : ItemState). list_all (λ prefix. has_record prefix item.formats) prefixes) items

-- the span begins and ends where entries of these items do, and no item of the set is before or after it
pub record IsSpan (set : List ℕ) (items : List ItemState) (span : Span) : Type 0 where
  pub order : span.from ≤ span.to
  pub from : span.from ≡ size_of (take (ending_by span.from items) items)
  pub to : span.to ≡ size_of (take (ending_by span.to items) items)
  pub before : count_in_set set (take (ending_by span.from items) items) ≡ 0
  pub behind : count_in_set set (drop (ending_by span.to items) items) ≡ 0

-- each set has as many of the items as are counted in it; and if the entries of all have at most MAX_ENTRY_BYTES bytes,
-- its items are within its span
pub record AreCountedWithin (totals : List SetTotal) (items : List ItemState) : Type 0 where
  pub counts : AreCounts totals items
  pub spans : size_of items ≤ MAX_ENTRY_BYTES → (set : List ℕ) (span : Span) → span_in set totals ≡ Some span → IsSpan set items span

-- if it is known how many are in each set, that many of the items are; and these are within its span, if the entries of
-- all have at most MAX_ENTRY_BYTES bytes
abbrev pub AreSetCounts : Option (List SetTotal) → List ItemState → Type 0
AreSetCounts sets items = (totals : List SetTotal) → sets ≡ Some totals → AreCountedWithin totals items

-- how many items of the leaf are known to be in the set, if one is given
abbrev pub known_in : PlaceState → Option (List ℕ) → Option ℕ
known_in place None = Some place.len
known_in place (Some set) = option_map (counted_in set) place.sets

-- within which span of the entries of the leaf those are that are in the set, if one is given, and it is known
abbrev pub span_at : PlaceState → Option (List ℕ) → Option Span
span_at place None = None
span_at place (Some set) = option_flatten (option_map (span_in set) place.sets)

-- how many pages items may have: one if they fit on it; one item may have overflow pages besides, and then only zeros
-- follow the first bytes of the first page
pub record FitPages (pages : Pages) (numbers : List ℕ) (items : List ItemState) : Type 0 where
  pub some : 0 < length numbers
  pub few : length numbers ≤ MAX_OVERFLOW_PAGES + 1
  pub one : length numbers ≤ 1 → fit_one items ≡ true
  pub alone : 1 < length numbers → length items ≡ 1
  pub zeros : 1 < length numbers → list_all (λ byte. byte == 0) (drop FRONT_BYTES (page_at pages (slice_index numbers 0))) ≡ true

-- the invariant of a leaf: its pages are those of its items, and as many as these may have; the first item is the one
-- that the leaf names, and its statistics are those of its items
pub record IsSoundPlace (pages : Pages) (place : PlaceState) : Type 0 where
  pub written : map (page_at pages) place.pages ≡ pages_of (items_at pages place)
  pub page : IsPage (bytes_on pages place.pages) (items_at pages place)
  pub many : FitPages pages place.pages (items_at pages place)
  pub begins : begins_at place.stamp place.identifier (items_at pages place) ≡ true
  pub counted : length (items_at pages place) ≡ place.len
  pub sized : size_of (items_at pages place) ≡ place.size
  pub common : have_records place.prefixes (items_at pages place) ≡ true
  pub sets : AreSetCounts place.sets (items_at pages place)

-- ---- their order

-- compares the first item of a leaf with that datestamp and identifier
abbrev pub first_cmp : PlaceState → ℤ → List ℕ → Ordering
first_cmp place stamp identifier =
    ordering_then (int_cmp place.stamp stamp) (slice_cmp nat_cmp place.identifier identifier)

-- each item precedes the first one of the next leaf, if there is one
abbrev pub are_below : List ItemState → List PlaceState → Bool
are_below items [] = true
are_below items (next ∷ _) = list_all (λ item. is_lt (place_cmp item next.stamp next.identifier)) items

-- the item passes the filter, and comes after that datestamp and identifier
abbrev pub is_wanted : Filter → ℤ → List ℕ → ItemState → Bool
is_wanted asked stamp identifier item = is_gt (place_cmp item stamp identifier) && passes asked item

-- ---- references to pages

-- the numbers that leaves reference
unfoldable pub page_numbers : List PlaceState → List ℕ
page_numbers places = flat_map (λ (place : PlaceState). place.pages) places

-- how often leaves reference a number
abbrev pub named_in : List PlaceState → ℕ → ℕ
named_in places n = times n (page_numbers places)
