use Rattle.std.proofs.Common.{◌≡◌, ◌++◌, length}
use Rattle.std.specs.Option.{option_map}
use Rattle.oai_front.specs.Fronts.{connection_numbered}
use Rattle.oai_cli.specs.Outputs.{StaysApart, IsUsed, output_of, with_output}
use Rattle.oai_cli.proofs.trace.outputs.take_output.Given as goal

-- what was taken was of the one connection: the front of what it was to put out
abbrev pub invariant-loop-bytes : goal.invariant-loop-bytes
invariant-loop-bytes g l = record {
  apart : StaysApart l.conn.number l.fn.front l.front;
  handler : l.front.handler ≡ l.fn.front.handler;
  used : IsUsed g.H.Handler.step l.fn.front l.front;
  same : connection_numbered l.conn.number l.front.connections ≡ option_map (with_output (output_of l.conn.number l.front.connections)) (connection_numbered l.conn.number l.fn.front.connections);
  joined : l.bytes.items ++ output_of l.conn.number l.front.connections ≡ output_of l.conn.number l.fn.front.connections;
}

abbrev pub decreases-loop-bytes : goal.decreases-loop-bytes
decreases-loop-bytes g l = length (output_of l.conn.number l.front.connections)
