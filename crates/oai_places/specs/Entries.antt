-- The entries of a page in memory. The promises of public functions rest on `items_with`, `ends_from` and `ending_by`;
-- all else is for private functions.
use Rattle.std.specs.Prelude.{◌≡◌, ◌+◌, ◌≤◌, nat_le, ℕ, List, [], ◌∷◌, ◌++◌, length, drop, filter, Result, Ok, Err, ⊤}
use Rattle.oai_item.specs.Encoding.{Spells, encoded}
use Rattle.oai_item.specs.Item.{ItemState}
use Rattle.oai_item.specs.declared.decodings.DecodeFault.{DecodeFault}
use Rattle.oai_item.specs.declared.decodings.DecodeFault.TheVariants.{Damaged, NoMemory}
use Rattle.oai_places.specs.Pages.{AreStorable, between, entries_of, entry_of, items_of_entries, size_of}
use Rattle.oai_sums.specs.declared.spans.Span.{Span}

-- the items of entries, each of which ends at one of the numbers
abbrev pub items_with : List ℕ → List ℕ → List ItemState
items_with bytes ends = items_of_entries (length ends) bytes

-- where each entry ends, if the first begins at that number
abbrev pub ends_from : ℕ → List ItemState → List ℕ
ends_from start [] = []
ends_from start (item ∷ items) = (start + length (entry_of item)) ∷ ends_from (start + length (entry_of item)) items

-- the bytes are the entries of their items, which end at the numbers
pub record AreEntries (bytes ends : List ℕ) : Type 0 where
  pub spelling : bytes ≡ entries_of (items_with bytes ends)
  pub ending : ends ≡ ends_from 0 (items_with bytes ends)
  pub storable : AreStorable (items_with bytes ends)

-- the first that many bytes are an entry
pub record HasEntry (bytes : List ℕ) (len : ℕ) : Type 0 where
  pub item : ItemState
  pub spelled : Spells (encoded item) item
  pub long : len ≡ length (entry_of item)
  pub parts : bytes ≡ entry_of item ++ drop len bytes

-- the bytes do not begin with an entry
abbrev pub HasNoEntry : List ℕ → Type 0
HasNoEntry bytes =
    (item : ItemState) (behind : List ℕ) → Spells (encoded item) item → ¬ (bytes ≡ entry_of item ++ behind)

-- the result of reading the entry at the start of bytes: its length; or that there is none, unless memory ran out
abbrev pub IsEntryReading : List ℕ → Result ℕ DecodeFault → Type 0
IsEntryReading bytes (Ok len) = HasEntry bytes len
IsEntryReading bytes (Err Damaged) = HasNoEntry bytes
IsEntryReading bytes (Err NoMemory) = ⊤

-- the bytes begin with that many entries, which end at these numbers, and have that many bytes together
pub record HasEntries (bytes ends : List ℕ) (count size : ℕ) : Type 0 where
  pub items : List ItemState
  pub storable : AreStorable items
  pub many : length items ≡ count
  pub long : size ≡ size_of items
  pub parts : bytes ≡ entries_of items ++ drop size bytes
  pub ending : ends ≡ ends_from 0 items

-- a position among that many entries, from another one on or after the last
pub record IsPlaceFrom (from place len : ℕ) : Type 0 where
  pub above : from ≤ place
  pub within : place ≤ len

-- how many of the entries end within the first that many bytes
abbrev pub ending_by : ℕ → List ItemState → ℕ
ending_by byte items = length (filter (λ end. nat_le end byte) (ends_from 0 items))

-- the span of the entry of the item at one position among those from another one on
pub record IsSpanOfOne (from at : ℕ) (items : List ItemState) (span : Span) : Type 0 where
  pub from_byte : span.from ≡ size_of (between from at items)
  pub to_byte : span.to ≡ size_of (between from (at + 1) items)
