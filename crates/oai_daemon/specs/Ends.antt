-- Why the program stops when its service ended. This repository's own.
use Rattle.std.specs.Prelude.{ℕ, Option, Some, None, Result, Ok, Err}
use Rattle.oai_archive.specs.declared.stop.ServerStop.{ServerStop}
use Rattle.oai_archive.specs.declared.stop.ServerStop.TheVariants.{CannotWrite, Common, Jumped}
use Rattle.oai_serving.specs.declared.faults.ServeFault.{ServeFault}
use Rattle.oai_serving.specs.declared.faults.ServeFault.TheVariants.{Clock, Unsettled, Wait}
use Rattle.oai_startup.specs.declared.stop.Stop.TheVariants as other
use Rattle.oai_recovery.specs.Moments.{moment_at}

-- the journal could not be written; or the clock jumped to that second, or could not be read; or the program could not
-- wait for readiness
abbrev pub stop_of : ServeFault → Option ℕ → ServerStop
stop_of Wait jumped = Common other.SocketFault
stop_of Clock None = Common other.InputFault
stop_of Clock (Some second) = Jumped (moment_at second)
stop_of Unsettled jumped = CannotWrite

abbrev pub serve_outcome : Result Unit ServeFault → Option ℕ → Result Unit ServerStop
serve_outcome (Ok done) jumped = Ok tt
serve_outcome (Err fault) jumped = Err (stop_of fault jumped)
