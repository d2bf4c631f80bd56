-- What contracts see of the fields of a `Front`, and its invariant.
use Rattle.oai_front.specs.Fronts.{IsTable, State}
use Rattle.oai_front.specs.declared.fronts.Front.TheInside.{Inside}

abbrev pub state_in : {H : Type 0} → Inside H → State H
state_in f = record { handler = f.handler; limit = f.limit; last = f.last; connections = f.connections.items }

abbrev pub HasConnectionTable : {H : Type 0} → Inside H → Type 0
HasConnectionTable f = IsTable f.connections.items f.last
