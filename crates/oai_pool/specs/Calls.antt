-- What a call does to a pool: to its pages, to the numbers that are left, to the device, and to the capacity of the
-- cache.
use Rattle.std.specs.Prelude.{◌≡◌, ◌+◌, ◌<◌, ◌≤◌, ℕ, Bool, false, List, Option, Some, Result, IsErrOf}
use Rattle.oai_device.specs.Device.{CountsFailures}
use Rattle.oai_pool.specs.Counts.{AddsName, count_of}
use Rattle.oai_pool.specs.declared.pools.PoolFault.{PoolFault}
use Rattle.oai_pool.specs.declared.pools.PoolFault.TheVariants.{Damaged, Device, TooManyPages}

-- a page of these bytes was added under that number, which nothing referenced, and which has one reference now
pub record IsAdded {P : Type 0} (counts_of : P → List ℕ) (pages_of : P → ℕ → Option (List ℕ)) (bytes : List ℕ) (no : ℕ) (old new : P) : Type 0 where
  pub free : count_of (counts_of old) no ≡ 0
  pub counts : AddsName no (counts_of old) (counts_of new)
  pub once : count_of (counts_of new) no ≡ 1
  pub page : pages_of new no ≡ Some bytes

-- a call that uses at most that many numbers, and reaches the device: it lacks a number only if fewer were sure to be
-- left, so never if it uses none; and it finds damage only over a device that is not honest
pub record SpendsNumbers {V A : Type 0} (room_of failures_of size_of : V → ℕ) (honest_of : V → Bool) (numbers : ℕ) (result : Result A PoolFault) (old new : V) : Type 0 where
  pub enough : IsErrOf result TooManyPages → room_of old < numbers
  pub room : room_of old ≤ room_of new + numbers
  pub device : CountsFailures Device result (failures_of old) (failures_of new)
  pub honesty : honest_of new ≡ honest_of old
  pub damaged : IsErrOf result Damaged → honest_of old ≡ false
  pub cache : size_of new ≡ size_of old

-- a call that uses no number, and does not reach the device
pub record SparesNumbers {V : Type 0} (room_of failures_of size_of : V → ℕ) (honest_of : V → Bool) (old new : V) : Type 0 where
  pub room : room_of old ≤ room_of new
  pub failures : failures_of new ≡ failures_of old
  pub honesty : honest_of new ≡ honest_of old
  pub cache : size_of new ≡ size_of old
