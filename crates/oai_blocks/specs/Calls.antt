-- What a call does to lines, in plain lists and of all lines at once.
use Rattle.std.specs.Prelude.{◌≡◌, ◌≢◌, ◌+◌, ℕ, List, [], ◌∷◌, ◌++◌, Bool, Option, drop, length, slice_index_or, take, true}
use Rattle.std.specs.List.{flat_map}

module _ {T : Type 0} where
  -- the elements of a line, without its blocks
  abbrev pub listed : List (List T) → List T
  listed blocks = flat_map (λ block. block) blocks

  -- the place in a line of the element at `i` of its block at `j`
  abbrev pub place_of : List (List T) → ℕ → ℕ → ℕ
  place_of blocks j i = length (listed (take j blocks)) + i

  -- others in place of so many elements from `i` on
  abbrev pub spliced : ℕ → ℕ → List T → List T → List T
  spliced i len others block = take i block ++ (others ++ drop (i + len) block)

  -- the block at `j` cut in two before its element at `i`
  abbrev pub cut_at : List (List T) → ℕ → ℕ → List (List T)
  cut_at blocks j i =
      take j blocks ++ (take i (slice_index_or blocks j []) ∷ drop i (slice_index_or blocks j []) ∷ drop (j + 1) blocks)

  -- the block at `j` and the one behind it as one
  abbrev pub joined_at : List (List T) → ℕ → List (List T)
  joined_at blocks j =
      take j blocks ++ ((slice_index_or blocks j [] ++ slice_index_or blocks (j + 1) []) ∷ drop (j + 2) blocks)

  -- a block begins by an element that the test answers so; if it has none, the answer is true
  abbrev pub BeginsBy : (T → Bool → Type 0) → List T → Bool → Type 0
  BeginsBy test [] answer = answer ≡ true
  BeginsBy test (x ∷ xs) answer = test x answer

-- that line is this, and each other line is what it was
pub record IsLineSet {T : Type 0} (v : ℕ) (line : Option (List (List T))) (old new : ℕ → Option (List (List T))) : Type 0 where
  pub this : new v ≡ line
  pub others : (w : ℕ) → w ≢ v → new w ≡ old w
