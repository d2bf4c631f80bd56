-- What is looked for on a page, for private functions. The definitions speak of the items whose page the bytes are, and
-- say nothing if there are none, as over a faulty device.
use Rattle.std.specs.Prelude.{◌≡◌, ◌+◌, ◌-◌, ℕ, ℤ, true, List, ◌++◌, length, Option, Some, None, Result, Ok, Err, ⊤}
use Rattle.oai_item.specs.Item.{ItemState}
use Rattle.oai_item.specs.Items.{item_at}
use Rattle.oai_item.specs.declared.decodings.DecodeFault.{DecodeFault}
use Rattle.oai_item.specs.declared.decodings.DecodeFault.TheVariants.{Damaged, NoMemory}
use Rattle.oai_pool.specs.Kinds.{spells_items}
use Rattle.oai_places.specs.Pages.{AreStorable, IsPage, entries_of, first_number}
use denote.Ref.{Bor}

-- the result of splitting the text from the remaining bytes: the text, and these
abbrev pub IsTextParted : List ℕ → List ℕ → Option (Bor (List ℕ) × Bor (List ℕ)) → Type 0
IsTextParted text behind (Some parts) = (parts.0.now ≡ text) × (parts.1.now ≡ behind)
IsTextParted text behind None = ⊥

-- the result of looking for the item with that datestamp and identifier among the items: that item, or that there is
-- none; or out of memory
abbrev pub IsFinding : ℤ → List ℕ → List ItemState → Result (Option ItemState) DecodeFault → Type 0
IsFinding stamp identifier items (Ok found) = found ≡ item_at stamp identifier items
IsFinding stamp identifier items (Err Damaged) = ⊥
IsFinding stamp identifier items (Err NoMemory) = ⊤

-- that many of the items remain, the last ones, with their entries at the start of the bytes, and the wanted item is
-- among them or does not exist
pub record IsLeftToFind (stamp : ℤ) (identifier : List ℕ) (items : List ItemState) (left : ℕ) (rest : List ℕ) : Type 0 where
  pub later : List ItemState
  pub behind : List ℕ
  pub found : item_at stamp identifier later ≡ item_at stamp identifier items
  pub many : length later ≡ left
  pub parts : rest ≡ entries_of later ++ behind
  pub storable : AreStorable later

-- after that many entries of a page of items these are the bytes, and the others remain
abbrev pub IsSoughtBehind : ℤ → List ℕ → List ℕ → ℕ → List ℕ → Type 0
IsSoughtBehind stamp identifier page passed rest =
    (items : List ItemState) (left : ℕ) → IsPage page items → left + passed ≡ length items → IsLeftToFind stamp identifier items left rest

-- and of each of the others it is known that it encodes an item
pub record IsSought (stamp : ℤ) (identifier page : List ℕ) (passed : ℕ) (rest : List ℕ) : Type 0 where
  pub known : spells_items (first_number page - passed) rest ≡ true
  pub sought : IsSoughtBehind stamp identifier page passed rest
