-- Why lines are not read to their end. This repository's own.
use Rattle.oai_startup.specs.declared.stop.Stop.{Stop}
use Rattle.oai_startup.specs.declared.stop.Stop.TheVariants.{BadConfig, BadExchange, BadPiece, CannotRead, DeviceFault, InputFault, NoMemory, OutputFault, SocketFault, TooManyConnections, Usage}

-- why lines of exchanges are not read to their end
abbrev pub StopsAsking : Stop → Type 0
StopsAsking (BadExchange number) = Unit {0}
StopsAsking InputFault = Unit {0}
StopsAsking OutputFault = Unit {0}
StopsAsking NoMemory = Unit {0}
StopsAsking stop = ⊥

-- why lines of a trace are not
abbrev pub StopsTracing : Stop → Type 0
StopsTracing (BadPiece number) = Unit {0}
StopsTracing (TooManyConnections number) = Unit {0}
StopsTracing InputFault = Unit {0}
StopsTracing OutputFault = Unit {0}
StopsTracing NoMemory = Unit {0}
StopsTracing stop = ⊥
