-- What contracts see of the fields of a `Connection`, and its invariant.
use Rattle.std.specs.Prelude.{IfSome, ◌≤◌, drop, length}
use Rattle.std.specs.List.{concat}
use Rattle.oai_front.specs.Connections.{Connection}
use Rattle.oai_front.specs.Queues.{AreFilled, IsTaken}
use Rattle.oai_front.specs.RequestHeads.{IsHead}
use Rattle.oai_front.specs.declared.connections.Connection.TheInside.{Inside}

abbrev pub connection_in : Inside → Connection
connection_in c = record { number = c.number; rest = drop c.start c.bytes.items; output = drop c.taken (concat c.queue.items); stage = c.stage }

-- what is kept of a head is that of the bytes from the start on; no buffer is empty, and some of the first is left
pub record IsConnection (c : Inside) : Type 0 where
  pub start : c.start ≤ length c.bytes.items
  pub head : IfSome c.head (IsHead (drop c.start c.bytes.items))
  pub filled : AreFilled c.queue.items
  pub taken : IsTaken c.taken c.queue.items
