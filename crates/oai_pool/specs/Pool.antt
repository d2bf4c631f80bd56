-- What clauses see of a pool.
use Rattle.oai_device.specs.declared.devices.PageDevice.{Ghosts}
use Rattle.oai_pool.specs.declared.pool.Pool.{Pool}

-- the device on which its pages are
abbrev pub device_of : {D : Type 0} {g : Ghosts D} → Pool D g → D
device_of pool = pool.device
