-- A device that stores pages: how calls that reach it count its failures.
use Rattle.std.specs.Prelude.{◌≡◌, ◌⊎◌, ◌<◌, ◌≤◌, ℕ, List, Option, Result, IfErr, drop, option_map, take}
use Rattle.oai_device.specs.declared.devices.TheConstants.{MAX_FAILURES}

-- the count of failures never falls; and a call returns the fault that names the device only if the count rose, or has
-- reached its highest value
pub record CountsFailures {E A : Type 0} (failed : E) (result : Result A E) (old new : ℕ) : Type 0 where
  pub count : old ≤ new
  pub device : IfErr result (λ fault. fault ≡ failed → (old < new) ⊎ (old ≡ MAX_FAILURES))

-- that many bytes of a page, if there is one, from that byte on
abbrev pub range_of : ℕ → ℕ → Option (List ℕ) → Option (List ℕ)
range_of from len page = option_map (λ bytes. take len (drop from bytes)) page
