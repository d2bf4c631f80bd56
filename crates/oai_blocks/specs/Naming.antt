-- What a step does to blocks, and to the numbers of lines. For private functions.
use Rattle.std.specs.Prelude.{◌≡◌, ◌≢◌, ◌+◌, ◌<◌, ◌≤◌, ℕ, List, Option, None, Some, Vec, slice_index_or, sum_by, vec_capacity}
use Rattle.std.specs.declared.alloc.Global.{Global}
use Rattle.oai_blocks.specs.Blocks.{BlockState, KeepsNotesOn, Shelf, block_at, items_at, names_at, room_at, times_named, weight}

-- no slot is another than it was but one
abbrev pub AreBut : {X : Type 0} → ℕ → List (Option X) → List (Option X) → Type 0
AreBut k old new = (j : ℕ) → j ≢ k → slice_index_or new j None ≡ slice_index_or old j None

-- that slot has this, and each other one what it had
pub record IsSlotSet {X : Type 0} (k : ℕ) (slot : Option X) (old new : List (Option X)) : Type 0 where
  pub this : slice_index_or new k None ≡ slot
  pub others : AreBut k old new

-- the blocks are named by the numbers after in place of those before; a block that others name too has the elements that
-- it had; and none is kept that nobody names
pub record IsNamedAnew {T S : Type 0} (before after : List ℕ) (old new : Shelf T S) : Type 0 where
  pub counts : (b : ℕ) → names_at new b + times_named b before ≡ names_at old b + times_named b after
  pub kept : (b : ℕ) → times_named b before < names_at old b → items_at new b ≡ items_at old b
  pub named : ((b : ℕ) (block : BlockState T S) → block_at old b ≡ Some block → 0 < block.names)
      → (b : ℕ) (block : BlockState T S) → block_at new b ≡ Some block → 0 < block.names

-- a step renames blocks so, the weight of all of them changes by that of the elements that it adds and hands out, and nothing new is noted
pub record Turns {T S : Type 0} (before after : List ℕ) (added gone : List T) (old new : Shelf T S) : Type 0 where
  pub renames : IsNamedAnew before after old new
  pub weight : (weigh : T → ℕ) → weight weigh new + sum_by weigh gone ≡ weight weigh old + sum_by weigh added
  pub notes : KeepsNotesOn old new

-- neither vector has memory for fewer elements
pub record KeepsRoom {T : Type 0} (first new_first second new_second : Vec T Global) : Type 0 where
  pub items : vec_capacity first ≤ vec_capacity new_first
  pub others : vec_capacity second ≤ vec_capacity new_second

-- the block at a number has these elements; it is named as often, and has memory for no fewer; nothing new is noted
pub record Alters {T S : Type 0} (k : ℕ) (items : List T) (old new : Shelf T S) : Type 0 where
  pub others : AreBut k old new
  pub items_are : items_at new k ≡ items
  pub names : names_at new k ≡ names_at old k
  pub room : room_at old k ≤ room_at new k
  pub notes : KeepsNotesOn old new
