-- What clauses see of lines.
use Rattle.std.specs.Prelude.{◌≡◌, ◌==◌, ◌+◌, ◌<◌, ◌≤◌, ℕ, List, [], Option, if◌then◌else◌, slice_index_or, sum_by, unwrap_or, length, Vec, vec_capacity, vec_len}
use Rattle.std.specs.declared.alloc.Global.{Global}
use Rattle.oai_blocks.specs.Calls.{IsLineSet}
use Rattle.oai_blocks.specs.Blocks.{IsNotedOn, lines_on, names_at, note_at, numbers_at, numbers_in, room_at, steps_for, weight}
use Rattle.oai_blocks.specs.declared.lines.BlockLines.{BlockLines}

module _ {T S : Type 0} where
  -- the elements of each line that is in use, block by block
  abbrev pub lines_of : BlockLines T S → ℕ → Option (List (List T))
  lines_of store v = lines_on store.blocks.slots store.lines.slots v

  -- the blocks of a line
  abbrev pub line_at : BlockLines T S → ℕ → List (List T)
  line_at store v = unwrap_or (lines_of store v) []

  -- the elements of a block of a line
  abbrev pub block_of : BlockLines T S → ℕ → ℕ → List T
  block_of store v j = slice_index_or (line_at store v) j []

  -- the number of a block of a line
  abbrev pub number_of : BlockLines T S → ℕ → ℕ → ℕ
  number_of store v j = slice_index_or (numbers_in (numbers_at store.lines.slots v)) j 0

  -- how many lines name a block of a line, those that wait too
  abbrev pub names_of : BlockLines T S → ℕ → ℕ → ℕ
  names_of store v j = names_at store.blocks.slots (number_of store v j)

  -- how many elements a block of a line has memory for
  abbrev pub room_of : BlockLines T S → ℕ → ℕ → ℕ
  room_of store v j = room_at store.blocks.slots (number_of store v j)

  -- what is noted of the elements of a block of a line
  abbrev pub note_of : BlockLines T S → ℕ → ℕ → Option S
  note_of store v j = note_at store.blocks.slots (number_of store v j)

  -- of a block of these elements, this is noted
  abbrev pub IsNoted : S → List T → BlockLines T S → Type 0
  IsNoted note items store = IsNotedOn note items store.blocks.slots

  -- nothing is noted of elements but what was noted of them before
  abbrev pub KeepsNotes : BlockLines T S → BlockLines T S → Type 0
  KeepsNotes old new = (note : S) (items : List T) → IsNoted note items new → IsNoted note items old

  -- what the elements of all blocks weigh together, each block once however many lines name it
  abbrev pub weight_of : (T → ℕ) → BlockLines T S → ℕ
  weight_of weigh store = weight weigh store.blocks.slots

  -- how many steps of `release` are left
  abbrev pub steps_left : BlockLines T S → ℕ
  steps_left store = steps_for store.waiting.items

  -- the elements that are copied before the block at `j` of the line is changed: its own, if other lines name it too
  abbrev pub copied_of : BlockLines T S → ℕ → ℕ → List T
  copied_of store v j = if names_of store v j == 1 then [] else block_of store v j

  -- the line has a block at `j`
  abbrev pub HasBlock : BlockLines T S → ℕ → ℕ → Type 0
  HasBlock store v j = j < length (line_at store v)

-- a line is set, no other one changes, the weight of all elements changes by that of those which are added and handed out,
-- and nothing new is noted
pub record SetsLine {T S : Type 0} (v : ℕ) (line : Option (List (List T))) (added gone : List T) (old new : BlockLines T S) : Type 0 where
  pub lines : IsLineSet v line (lines_of old) (lines_of new)
  pub weight : (weigh : T → ℕ) → weight_of weigh new + sum_by weigh gone ≡ weight_of weigh old + sum_by weigh added
  pub steps : steps_left new ≡ steps_left old
  pub notes : KeepsNotes old new

-- each line, how often its blocks are named, and the weight of all elements is what it was, no block has memory for fewer,
-- and nothing new is noted
pub record KeepsLines {T S : Type 0} (old new : BlockLines T S) : Type 0 where
  pub lines : (v : ℕ) → lines_of new v ≡ lines_of old v
  pub names : (v j : ℕ) → names_of new v j ≡ names_of old v j
  pub room : (v j : ℕ) → room_of old v j ≤ room_of new v j
  pub weight : (weigh : T → ℕ) → weight_of weigh new ≡ weight_of weigh old
  pub steps : steps_left new ≡ steps_left old
  pub notes : KeepsNotes old new

-- the line has a block at `j`, and that an element at `i`
pub record HasElement {T S : Type 0} (store : BlockLines T S) (v j i : ℕ) : Type 0 where
  pub block : HasBlock store v j
  pub within : i < length (block_of store v j)

-- so many elements of the block at `j` of the line, from `i` on, can be exchanged for the others: no other line names it,
-- it has memory for the others beside its own, and the others' vector for those that come out
pub record CanExchange {T S : Type 0} (v j i len : ℕ) (others : Vec T Global) (store : BlockLines T S) : Type 0 where
  pub block : HasBlock store v j
  pub own : names_of store v j ≡ 1
  pub within : i + len ≤ length (block_of store v j)
  pub room : length (block_of store v j) + vec_len others ≤ room_of store v j
  pub back : vec_len others + len ≤ vec_capacity others

-- the block at `j` of the line and the one behind it can be joined: no other line names either
pub record CanJoin {T S : Type 0} (v j : ℕ) (store : BlockLines T S) : Type 0 where
  pub blocks : HasBlock store v (j + 1)
  pub own : names_of store v j ≡ 1
  pub next_own : names_of store v (j + 1) ≡ 1

-- as many lines name each block as before, and no block has memory for fewer
pub record KeepsSharing {T S : Type 0} (old new : BlockLines T S) : Type 0 where
  pub names : (v j : ℕ) → names_of new v j ≡ names_of old v j
  pub room : (v j : ℕ) → room_of old v j ≤ room_of new v j
