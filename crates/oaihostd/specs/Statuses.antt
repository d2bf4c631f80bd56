-- The exit status of the program. This repository's own.
use Rattle.std.specs.Prelude.{ℕ, Result, Ok, Err}
use Rattle.oai_archive.specs.Stops as stop
use Rattle.oaihostd.specs.declared.configurations.Failure.{Failure}
use Rattle.oaihostd.specs.declared.configurations.Failure.TheVariants.{Config, Keys, NoElement, NoKeys, NoLines, NoRepository, Refused, Stop}

-- that of the stop; 2 for a configuration that is invalid or has no such repository, for keys that are invalid, and for
-- keys, lines and an element that cannot be read; 1 for lines, or an element, that are refused
abbrev pub failure_status : Failure → ℕ
failure_status (Stop cause) = stop.server_status_of cause
failure_status (Config fault text) = 2
failure_status (Keys fault) = 2
failure_status NoKeys = 2
failure_status NoRepository = 2
failure_status NoLines = 2
failure_status NoElement = 2
failure_status Refused = 1

-- 0 if all was done
abbrev pub command_status : Result Unit Failure → ℕ
command_status (Ok done) = 0
command_status (Err failure) = failure_status failure
