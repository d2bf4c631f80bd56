-- What a file holds that was just opened.
use Rattle.std.proofs.Common.{◌≡◌, false, refl}
use Rattle.sqlite_disk.specs.Events.{replay}
use Rattle.sqlite_disk.specs.Modelled.{start_of}
use Rattle.sqlite_disk.specs.declared.calls.Calls as calls
use Rattle.sqlite_disk.specs.declared.modelled.Modelled.{Modelled}
use Rattle.sqlite_disk.specs.declared.start.Start.{Ghosts}
use Rattle.sqlite_std_file.specs.File.{IsFresh}
use Rattle.sqlite_std_file.specs.declared.host.Host.{Host}

pub fresh_seen : {S : Type 0} {g : calls.Ghosts Host} (start : Ghosts S) (f : Modelled Host S g start) → IsFresh false f
    → (replay (start_of start f) f.calls.log.events).seen ≡ start.db
fresh_seen start f fresh = rw (fresh.0, fresh.1) refl
