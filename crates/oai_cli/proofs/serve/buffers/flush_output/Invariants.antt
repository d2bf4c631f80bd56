use Rattle.std.proofs.Common.{◌≡◌, length}
use Rattle.std.specs.Io.KnownBytes.{Appends, append_known}
use Rattle.std.specs.Option.{option_map}
use Rattle.oai_front.specs.Fronts.{connection_numbered}
use Rattle.oai_cli.specs.Outputs.{StaysApart, IsUsed, output_of, with_output}
use Rattle.oai_cli.proofs.serve.buffers.flush_output.Given as goal

-- what was taken was of the one connection, and was put behind what was gathered
abbrev pub invariant-loop-count : goal.invariant-loop-count
invariant-loop-count g l = record {
  apart : StaysApart l.conn.number l.fn.front l.front;
  handler : l.front.handler ≡ l.fn.front.handler;
  used : IsUsed g.H.Handler.step l.fn.front l.front;
  same : connection_numbered l.conn.number l.front.connections ≡ option_map (with_output (output_of l.conn.number l.front.connections)) (connection_numbered l.conn.number l.fn.front.connections);
  put : Appends (append_known (g.W.Write.contents l.fn.writer) l.fn.gathered.bytes.items)
      (append_known (append_known (g.W.Write.contents l.writer) l.gathered.bytes.items) (output_of l.conn.number l.front.connections))
      (output_of l.conn.number l.fn.front.connections);
}

abbrev pub decreases-loop-count : goal.decreases-loop-count
decreases-loop-count g l = length (output_of l.conn.number l.front.connections)
