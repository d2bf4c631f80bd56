-- Lines of elements in blocks that they share: what blocks hold, and how often lines name them.
use Rattle.std.specs.Prelude.{◌≡◌, ◌==◌, ◌+◌, ◌<◌, ◌≤◌, ℕ, List, [], length, Option, None, Some, count_by, map, option_map, slice_index_or, sum_by, unwrap_or, Vec}
use Rattle.std.specs.declared.alloc.Global.{Global}

-- a block: its elements, how many lines name it, how many elements it has memory for, and what was noted of its elements
pub record BlockState (T S : Type 0) : Type 0 where
  pub items : List T
  pub names : ℕ
  pub room : ℕ
  pub note : Option S

-- the numbers of the blocks of each line that is in use
abbrev pub Numbers : Type 0
Numbers = List (Option (List ℕ))

-- the numbers of a line's blocks, if it is in use
abbrev pub numbers_at : Numbers → ℕ → Option (List ℕ)
numbers_at lines v = slice_index_or lines v None

-- the numbers in a slot
abbrev pub numbers_in : Option (List ℕ) → List ℕ
numbers_in slot = unwrap_or slot []

-- how often the block's number is among the numbers
unfoldable pub times_named : ℕ → List ℕ → ℕ
times_named b numbers = count_by (λ k. b == k) numbers

-- the same of those in a slot
abbrev pub times_in : ℕ → Option (List ℕ) → ℕ
times_in b slot = times_named b (numbers_in slot)

-- how often all lines name the block, those that were dropped and wait too
unfoldable pub named_by : ℕ → Numbers → List (List ℕ) → ℕ
named_by b lines waiting = sum_by (times_in b) lines + sum_by (times_named b) waiting

-- the work that is left of the lines that wait: one step a block, and one a line
unfoldable pub steps_for : List (List ℕ) → ℕ
steps_for waiting = sum_by (λ numbers. 1 + length numbers) waiting

-- a block at each number that is in use
abbrev pub Shelf : Type 0 → Type 0 → Type 0
Shelf T S = List (Option (BlockState T S))

-- the elements that a call hands out
abbrev pub items_out : {T : Type 0} → Option (Vec T Global) → List T
items_out None = []
items_out (Some out) = out.items

module _ {T S : Type 0} where
  -- the block at a number
  abbrev pub block_at : Shelf T S → ℕ → Option (BlockState T S)
  block_at shelf b = slice_index_or shelf b None

  -- what is in a slot: elements, how often it is named, and memory
  abbrev pub items_in : Option (BlockState T S) → List T
  items_in None = []
  items_in (Some block) = block.items

  abbrev pub names_in : Option (BlockState T S) → ℕ
  names_in None = 0
  names_in (Some block) = block.names

  abbrev pub room_in : Option (BlockState T S) → ℕ
  room_in None = 0
  room_in (Some block) = block.room

  abbrev pub note_in : Option (BlockState T S) → Option S
  note_in None = None
  note_in (Some block) = block.note

  -- the elements of the block at a number
  abbrev pub items_at : Shelf T S → ℕ → List T
  items_at shelf b = items_in (block_at shelf b)

  -- how often it is named
  abbrev pub names_at : Shelf T S → ℕ → ℕ
  names_at shelf b = names_in (block_at shelf b)

  -- how many elements it has memory for
  abbrev pub room_at : Shelf T S → ℕ → ℕ
  room_at shelf b = room_in (block_at shelf b)

  -- what was noted of its elements
  abbrev pub note_at : Shelf T S → ℕ → Option S
  note_at shelf b = note_in (block_at shelf b)

  -- of a block of these elements, this is noted
  abbrev pub IsNotedOn : S → List T → Shelf T S → Type 0
  IsNotedOn note items shelf = (b : ℕ) × (note_at shelf b ≡ Some note) × (items_at shelf b ≡ items)

  -- nothing is noted of elements but what was noted of them before
  abbrev pub KeepsNotesOn : Shelf T S → Shelf T S → Type 0
  KeepsNotesOn old new = (note : S) (items : List T) → IsNotedOn note items new → IsNotedOn note items old

  -- the elements of blocks, block by block
  abbrev pub blocks_of : Shelf T S → List ℕ → List (List T)
  blocks_of shelf numbers = map (items_at shelf) numbers

  -- the elements of each line, block by block
  abbrev pub lines_on : Shelf T S → Numbers → ℕ → Option (List (List T))
  lines_on shelf lines v = option_map (blocks_of shelf) (numbers_at lines v)

  -- what the elements of a slot weigh together
  abbrev pub weight_in : (T → ℕ) → Option (BlockState T S) → ℕ
  weight_in weigh slot = sum_by weigh (items_in slot)

  -- what the elements of all blocks weigh together, each block once however many lines name it
  unfoldable pub weight : (T → ℕ) → Shelf T S → ℕ
  weight weigh shelf = sum_by (weight_in weigh) shelf

-- the count of each block is how many lines name it, at least one; no line names a block twice
pub record AreBlocked {T S : Type 0} (shelf : Shelf T S) (lines : Numbers) (waiting : List (List ℕ)) : Type 0 where
  pub counted : (b : ℕ) → names_at shelf b ≡ named_by b lines waiting
  pub named : (b : ℕ) (block : BlockState T S) → block_at shelf b ≡ Some block → 0 < block.names
  pub once : (v b : ℕ) → times_in b (numbers_at lines v) ≤ 1
  pub once_waiting : (k b : ℕ) → times_named b (slice_index_or waiting k []) ≤ 1
