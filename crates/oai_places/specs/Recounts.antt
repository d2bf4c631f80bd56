-- The reference counts of numbers after a call.
use Rattle.std.specs.Prelude.{◌≡◌, ◌+◌, ◌<◌, ◌≤◌, ℕ, List, [], map}
use Rattle.oai_pool.specs.Counts.{count_of}
use Rattle.oai_pool.specs.Names.{times}
use Rattle.oai_pool.specs.declared.pools.PagePool.{Ghosts}
use Rattle.oai_pool.specs.declared.pools.TheConstants.{MAX_PAGES}
use Rattle.oai_places.specs.Places.{page_at}

-- the counts of the numbers before are decremented, and those of the numbers after incremented; the page of one that
-- others referenced too is unchanged
pub record Recounts {P : Type 0} (g : Ghosts P) (before after : List ℕ) (old new : P) : Type 0 where
  pub counts : (n : ℕ) → count_of (g.counts new) n + times n before ≡ count_of (g.counts old) n + times n after
  pub kept : (n : ℕ) → times n before < count_of (g.counts old) n → g.pages new n ≡ g.pages old n

-- pages were added under new numbers, in this order
pub record AddsNumbers {P : Type 0} (g : Ghosts P) (added : List (List ℕ)) (numbers : List ℕ) (old new : P) : Type 0 where
  pub pages : map (page_at (g.pages new)) numbers ≡ added
  pub once : (n : ℕ) → times n numbers ≤ 1
  pub fresh : (n : ℕ) → 0 < count_of (g.counts old) n → times n numbers ≡ 0
  pub names : Recounts g [] numbers old new

-- one of the numbers has as many references as it can
abbrev pub HasFull : {P : Type 0} → Ghosts P → List ℕ → P → Type 0
HasFull g numbers pool = (n : ℕ) × (0 < times n numbers) × (MAX_PAGES ≤ count_of (g.counts pool) n)
