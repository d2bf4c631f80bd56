-- The position of a connection among the open ones. No definition rests on it.
use Rattle.std.specs.Prelude.{ℕ, List, Option}
use Rattle.oai_names.specs.Numbered.{IsPlaceOf, none_has}
use Rattle.oai_front.specs.Connections.{Connection}
use Rattle.oai_front.specs.Fronts.{connection_number}

-- none of the connections has that number
abbrev pub none_numbered : ℕ → List Connection → Type 0
none_numbered number connections = none_has connection_number number connections

-- the position of the connection with that number: there, and nowhere else
abbrev pub IsPlaced : ℕ → List Connection → Option ℕ → Type 0
IsPlaced number connections place = IsPlaceOf connection_number number connections place
