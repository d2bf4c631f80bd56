-- The message at a stop of the program, and its exit status. This repository's own.
use Rattle.std.specs.Prelude.{ℕ, List, ◌++◌, codes, decimal}
use Rattle.oai_config.specs.Reading.{read_fault_text}
use Rattle.oai_startup.specs.declared.stop.Stop.{Stop}
use Rattle.oai_startup.specs.declared.stop.Stop.TheVariants.{BadConfig, BadExchange, BadPiece, CannotRead, DeviceFault, InputFault, NoMemory, OutputFault, SocketFault, TooManyConnections, Usage}

abbrev pub stop_text : Stop → List ℕ
stop_text Usage = codes "usage: oaihost check CONFIG | ask CONFIG | trace CONFIG | serve CONFIG PORT SPILL CONNECTIONS"
stop_text CannotRead = codes "config: cannot read"
stop_text (BadConfig fault) = codes "config: " ++ read_fault_text fault
stop_text (BadExchange number) = codes "line " ++ decimal number ++ codes ": bad exchange"
stop_text (BadPiece number) = codes "line " ++ decimal number ++ codes ": bad piece"
stop_text (TooManyConnections number) = codes "line " ++ decimal number ++ codes ": too many connections"
stop_text InputFault = codes "input fault"
stop_text OutputFault = codes "output fault"
stop_text DeviceFault = codes "device fault"
stop_text SocketFault = codes "socket fault"
stop_text NoMemory = codes "out of memory"

-- 2 if the arguments or the configuration are invalid; out of memory, a file that cannot be truncated, and a port that
-- it cannot listen on, are 1
abbrev pub status_of : Stop → ℕ
status_of Usage = 2
status_of CannotRead = 2
status_of (BadConfig fault) = 2
status_of (BadExchange number) = 1
status_of (BadPiece number) = 1
status_of (TooManyConnections number) = 1
status_of InputFault = 1
status_of OutputFault = 1
status_of DeviceFault = 1
status_of SocketFault = 1
status_of NoMemory = 1
