use Rattle.std.proofs.Common.{◌≡◌, vec_len}
use Rattle.oai_cli.specs.Outputs.{StaysApart, AnswersPieces, IsUsed}
use Rattle.oai_startup.specs.declared.limits.TheConstants.{READ_BYTES}
use Rattle.oai_cli.proofs.serve.streams.serve_connection.Given as goal

-- no other connection was changed, the front was used by its calls, pieces came, and there is room for a whole read
abbrev pub invariant-loop : goal.invariant-loop
invariant-loop g l = record {
  apart : StaysApart l.conn.number l.fn.front l.front;
  used : IsUsed g.H.Handler.step l.fn.front l.front;
  pieces : AnswersPieces g.H.Handler.step l.conn.number l.fn.front l.front;
  room : vec_len l.buffer ≡ READ_BYTES;
}
