-- What a call does to the pool of pages.
use Rattle.std.specs.Prelude.{◌≡◌, ◌⊎◌, ◌+◌, ◌<◌, ℕ, List, Result, Ok}
use Rattle.oai_catalogue.specs.Store.{Spares, Spends}
use Rattle.oai_item.specs.declared.decodings.DecodeFault.{DecodeFault}
use Rattle.oai_item.specs.declared.decodings.DecodeFault.TheVariants as decoding
use Rattle.oai_item.specs.declared.faults.Fault.{Fault}
use Rattle.oai_item.specs.declared.faults.Fault.TheVariants as told
use Rattle.oai_pool.specs.declared.pools.PoolFault.{PoolFault}
use Rattle.oai_pool.specs.declared.pools.PoolFault.TheVariants as pool
use Rattle.oai_pool.specs.Counts.{count_of}
use Rattle.oai_pool.specs.declared.pools.PagePool.{Ghosts}
use Rattle.oai_places.specs.Places.{PlaceState, named_in}

-- the result of a call that cannot fail, as that of one that can
abbrev pub returned : {A : Type 0} → A → Result A Fault
returned a = Ok a

-- it only reads pages
pub record ReadsPages {P A : Type 0} (g : Ghosts P) (result : Result A Fault) (old new : P) : Type 0 where
  pub counts : g.counts new ≡ g.counts old
  pub same : g.pages new ≡ g.pages old
  pub pool : Spends g.room g.failures g.honest 0 result old new

-- the reference counts of the pages of the leaves before are decremented, and of those of the leaves after incremented;
-- a page that others referenced too is unchanged
pub record Renames {P : Type 0} (g : Ghosts P) (before after : List PlaceState) (old new : P) : Type 0 where
  pub counts : (n : ℕ) → count_of (g.counts new) n + named_in before n ≡ count_of (g.counts old) n + named_in after n
  pub kept : (n : ℕ) → named_in before n < count_of (g.counts old) n → g.pages new n ≡ g.pages old n

-- pages are dropped from memory, and nothing else changes
pub record Evicts {P : Type 0} (g : Ghosts P) (old new : P) : Type 0 where
  pub counts : g.counts new ≡ g.counts old
  pub same : g.pages new ≡ g.pages old
  pub pool : Spares g.room g.failures g.honest old new

-- further references fail for lack of memory, or since one of the pages has as many references as it can
abbrev pub IsShareFault : Type 0 → Fault → Type 0
IsShareFault full cause = (cause ≡ told.NoMemory) ⊎ ((cause ≡ told.TooManyPages) × full)

-- the fault of a store that reports the fault of a pool
abbrev pub fault_of : PoolFault → Fault
fault_of pool.Device = told.Device
fault_of pool.Damaged = told.Damaged
fault_of pool.NoMemory = told.NoMemory
fault_of pool.TooManyPages = told.TooManyPages

-- the fault of a store that reports why bytes could not be read as items
abbrev pub decoding_fault_of : DecodeFault → Fault
decoding_fault_of decoding.Damaged = told.Damaged
decoding_fault_of decoding.NoMemory = told.NoMemory
