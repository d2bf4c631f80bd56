-- The numbers of a pool: the reference count of each, and which are free to be reused. For its private functions.
use Rattle.std.specs.Prelude.{◌≡◌, ◌-◌, ◌<◌, ◌==◌, ℕ, Bool, List, Vec, length, count_by, slice_index_or, vec_len, vec_capacity}
use Rattle.std.specs.declared.alloc.Global.{Global}
use Rattle.oai_pool.specs.declared.pools.TheConstants.{MAX_PAGES}

-- how often the number occurs among the numbers
unfoldable pub times : ℕ → List ℕ → ℕ
times n numbers = count_by (λ k. n == k) numbers

-- the number was used once and is no longer referenced
unfoldable pub is_free : List ℕ → ℕ → Bool
is_free counts n = slice_index_or counts n 1 == 0

-- the number that is used next: the last one that is free, or one that was never used
unfoldable pub number_to_give : List ℕ → List ℕ → ℕ
number_to_give counts free = slice_index_or free (length free - 1) (length counts)

-- if no number is free, one that was never used can be: it is below the limit, and there is capacity for its count, and
-- for the number once it is free
pub record HasRoomToName (counts free : Vec ℕ Global) : Type 0 where
  pub room : vec_len free ≡ 0 → vec_len counts < vec_capacity counts
  pub free_room : vec_len free ≡ 0 → vec_len counts < vec_capacity free
  pub few : vec_len free ≡ 0 → vec_len counts < MAX_PAGES
