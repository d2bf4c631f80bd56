-- How items are encoded on a page. This encoding is this repository's own, and no part of OAI-PMH.
use Rattle.std.specs.Prelude.{◌≡◌, ◌⊎◌, ◌&&◌, ◌+◌, ◌-◌, ◌/◌, ◌^◌, ◌<◌, ◌≤◌, nat_le, if◌then◌else◌, ℕ, zero, suc, ℤ, Bool, true, false, List, [], ◌∷◌, ◌++◌, length, take, drop, replicate, Option, None, Some, IsSome, Result, Ok, Err, ⊤}
use Rattle.std.specs.List.{AllByRecursion, flat_map, list_all}
use Rattle.std.specs.Int.{w32, from_be_bytes}
use Rattle.oai_item.specs.Encoding.{Spells, encoded, encoded_count, encoded_text}
use Rattle.oai_item.specs.Item.{ItemState}
use Rattle.oai_item.specs.Items.{is_at, item_at, without_at}
use Rattle.oai_item.specs.Order.{are_in_order}
use Rattle.oai_item.specs.declared.decodings.DecodeFault.{DecodeFault}
use Rattle.oai_item.specs.declared.decodings.DecodeFault.TheVariants.{Damaged, NoMemory}
use Rattle.oai_item.specs.Decoding.{item_in}
use Rattle.oai_device.specs.declared.devices.TheConstants.{PAGE_BYTES}
use Rattle.oai_pool.specs.declared.kinds.PageKind.{PageKind}
use Rattle.oai_pool.specs.declared.kinds.PageKind.TheVariants.{Items, Bytes}
use Rattle.oai_places.specs.declared.sizes.TheConstants.{FRONT_BYTES, MAX_ENTRY_BYTES, MAX_WHOLE_BYTES, NUMBER_BYTES}

-- ---- how a page is written

-- the entry of an item: the length of its encoding, in four bytes, and its encoding
unfoldable pub entry_of : ItemState → List ℕ
entry_of item = encoded_text (encoded item)

-- the entries of items, one after the other
unfoldable pub entries_of : List ItemState → List ℕ
entries_of items = flat_map entry_of items

-- how many bytes these are
unfoldable pub size_of : List ItemState → ℕ
size_of items = length (entries_of items)

-- what is written of items: how many they are, in four bytes, and their entries
unfoldable pub written : List ItemState → List ℕ
written items = encoded_count (length items) ++ entries_of items

-- the page of items, with that many bytes after their number: what is written of them, and zeros after it
unfoldable pub page_spelling : ℕ → List ItemState → List ℕ
page_spelling room items = written items ++ replicate (room - size_of items) 0

-- each item has an encoding that can be decoded
abbrev pub AreStorable : List ItemState → Type 0
AreStorable items = AllByRecursion (λ item. Spells (encoded item) item) items

-- items that a page may have: at least one, no more than can be counted in four bytes, and in their order
pub record FitPage (items : List ItemState) : Type 0 where
  pub some : 0 < length items
  pub few : length items < 2 ^ 32
  pub storable : AreStorable items
  pub rising : are_in_order items ≡ true

-- the bytes are the page of these items. A page is longer than one of the device if it continues on overflow pages
pub record IsPage (bytes : List ℕ) (items : List ItemState) : Type 0 where
  pub spelling : bytes ≡ page_spelling (length bytes - NUMBER_BYTES) items
  pub fit : FitPage items

-- the result of reading the items of a page: those whose page it is; or that it is the page of none
abbrev pub IsPageReading : List ℕ → Result (List ItemState) DecodeFault → Type 0
IsPageReading bytes (Ok items) = IsPage bytes items
IsPageReading bytes (Err Damaged) = (items : List ItemState) → ¬ (IsPage bytes items)
IsPageReading bytes (Err NoMemory) = ⊤

-- ---- overflow pages: if the page of items is longer than one of the device

-- the bytes, and zeros after them up to the end of a page of the device
unfoldable pub filled : List ℕ → List ℕ
filled bytes = bytes ++ replicate (PAGE_BYTES - length bytes) 0

-- the bytes on that many pages, one after the other
abbrev pub spread : ℕ → List ℕ → List (List ℕ)
spread zero bytes = []
spread (suc n) bytes = filled (take PAGE_BYTES bytes) ∷ spread n (drop PAGE_BYTES bytes)

-- each encoded item is short enough to fit in its entry
unfoldable pub are_short : List ItemState → Bool
are_short items = list_all (λ item. nat_le (length (encoded item)) MAX_WHOLE_BYTES) items

-- the items fit on one page, without overflow pages
unfoldable pub fit_one : List ItemState → Bool
fit_one items = nat_le (size_of items) MAX_ENTRY_BYTES && are_short items

-- how many overflow pages items need: as many as what is not at the start of the first page
unfoldable pub overflow_of : List ItemState → ℕ
overflow_of items = if fit_one items then 0 else (size_of items + NUMBER_BYTES - FRONT_BYTES + (PAGE_BYTES - 1)) / PAGE_BYTES

-- the pages of items: one with all of them; or one with the first of their bytes, and overflow pages with the rest
unfoldable pub pages_of : List ItemState → List (List ℕ)
pages_of items =
    if fit_one items then filled (written items) ∷ []
    else filled (take FRONT_BYTES (written items)) ∷ spread (overflow_of items) (drop FRONT_BYTES (written items))

-- the kind of the pages of items with that many overflow pages
abbrev pub kind_for : ℕ → PageKind
kind_for zero = Items
kind_for (suc n) = Bytes

-- the bytes of pages: those of one; or, of several, the first bytes of the first and then the others
abbrev pub joined_pages : List (List ℕ) → List ℕ
joined_pages [] = []
joined_pages (page ∷ []) = page
joined_pages (page ∷ next ∷ others) = take FRONT_BYTES page ++ (next ++ flat_map (λ other. other) others)

-- ---- how it is read

-- the number in the first four of the bytes
abbrev pub first_number : List ℕ → ℕ
first_number bytes = from_be_bytes w32 (take 4 bytes)

-- the item, if there is one
abbrev pub as_list : Option ItemState → List ItemState
as_list None = []
as_list (Some item) = item ∷ []

-- the items of the first that many entries
abbrev pub items_of_entries : ℕ → List ℕ → List ItemState
items_of_entries zero bytes = []
items_of_entries (suc n) bytes =
    as_list (item_in (take (first_number bytes) (drop 4 bytes))) ++ items_of_entries n (drop (4 + first_number bytes) bytes)

-- the items of a page; unspecified for bytes that are no page
unfoldable pub items_in : List ℕ → List ItemState
items_in bytes = items_of_entries (first_number bytes) (drop 4 bytes)

-- ---- how the entries of a page are split

-- those in the range
unfoldable pub between : ℕ → ℕ → List ItemState → List ItemState
between from to items = drop from (take to items)

-- the first of them is at that datestamp and identifier
abbrev pub begins_at : ℤ → List ℕ → List ItemState → Bool
begins_at stamp identifier [] = false
begins_at stamp identifier (item ∷ _) = is_at stamp identifier item

-- the items fit on one page, or are one, which may have overflow pages
abbrev pub FitAlone : List ItemState → Type 0
FitAlone items = (fit_one items ≡ true) ⊎ (length items ≡ 1)

-- split at these positions, the items go on three pages, without those that have no item; the second one may have
-- overflow pages, for one item; if all fit on one, that is the first
pub record AreCuts (items : List ItemState) (first second : ℕ) : Type 0 where
  pub first_below : first ≤ second
  pub second_below : second ≤ length items
  pub one : fit_one (between 0 first items) ≡ true
  pub two : FitAlone (between first second items)
  pub three : fit_one (between second (length items) items) ≡ true
  pub whole : fit_one items ≡ true → first ≡ length items

-- the items without that with a datestamp and identifier; or that none has these
abbrev pub IsRemoval : ℤ → List ℕ → List ItemState → Option (List ItemState) → Type 0
IsRemoval stamp identifier items (Some left) = IsSome (item_at stamp identifier items) × (left ≡ without_at stamp identifier items)
IsRemoval stamp identifier items None = item_at stamp identifier items ≡ None
