-- Pages of items, and other pages. How items are laid out on a page is this repository's own, and no part of OAI-PMH.
use Rattle.std.specs.Prelude.{◌≡◌, ◌&&◌, ◌==◌, ◌+◌, ◌≤◌, nat_le, ℕ, zero, suc, Bool, true, false, is_some, List, length, take, drop, Option, Some, None}
use Rattle.std.specs.Int.{w32, from_be_bytes}
use Rattle.std.specs.List.{list_all}
use Rattle.oai_item.specs.Decoding.{item_in}
use Rattle.oai_pool.specs.declared.kinds.PageKind.{PageKind}
use Rattle.oai_pool.specs.declared.kinds.PageKind.TheVariants.{Items, Bytes}

-- the number in the first four of the bytes
abbrev pub leading_number : List ℕ → ℕ
leading_number bytes = from_be_bytes w32 (take 4 bytes)

-- the bytes begin with an entry that encodes an item: the number of its other bytes, in four bytes, and these
unfoldable pub spells_item : List ℕ → Bool
spells_item bytes = nat_le (4 + leading_number bytes) (length bytes) && is_some (item_in (take (leading_number bytes) (drop 4 bytes)))

-- the bytes are that many such entries, and zeros after them
abbrev pub spells_items : ℕ → List ℕ → Bool
spells_items zero bytes = list_all (λ byte. byte == 0) bytes
spells_items (suc n) bytes = spells_item bytes && spells_items n (drop (4 + leading_number bytes) bytes)

-- the bytes are a number and that many such entries, and zeros after them
unfoldable pub has_items : List ℕ → Bool
has_items bytes = spells_items (leading_number bytes) (drop 4 bytes)

-- the bytes are of that kind
abbrev pub is_of : PageKind → List ℕ → Bool
is_of Items bytes = has_items bytes
is_of Bytes bytes = true

-- the entry at the start of the bytes, with that length, encodes an item
pub record IsItemEntry (bytes : List ℕ) (len : ℕ) : Type 0 where
  pub spells : spells_item bytes ≡ true
  pub long : len ≡ 4 + leading_number bytes
  pub within : len ≤ length bytes

-- the result for the entry at the start of bytes: its length; or that the bytes begin with none that encodes an item
abbrev pub IsEntryTest : List ℕ → Option ℕ → Type 0
IsEntryTest bytes (Some len) = IsItemEntry bytes len
IsEntryTest bytes None = spells_item bytes ≡ false
