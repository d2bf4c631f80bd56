-- Why a call that consumes a store may fail: this repository's own.
use Rattle.std.specs.Prelude.{ℕ, Bool, Result}
use Rattle.oai_catalogue.specs.Store.{IsHonest}
use Rattle.oai_device.specs.Device.{CountsFailures}
use Rattle.oai_item.specs.declared.faults.Fault.TheVariants.{Device}
use Rattle.oai_item.specs.declared.faults.Fault.{Fault}

-- there is a store, not older than this one, in which the fault has its cause
pub record HasCause {A S : Type 0} (failures : S → ℕ) (honest : S → Bool) (store : S) (result : Result A Fault) : Type 0 where
  pub last : S
  pub device : CountsFailures Device result (failures store) (failures last)
  pub honesty : IsHonest result (honest store) (honest last)
