use Rattle.std.proofs.Common.{◌≡◌, ◌≤◌, length, take, vec_capacity}
use Rattle.oai_host.specs.Hosts.{AreExchanged}
use Rattle.oai_host.proofs.host.Host.run.Given as goal

-- the exchanges so far are performed
abbrev pub invariant-loop-call : goal.invariant-loop-call
invariant-loop-call g l = record {
  exchanged : AreExchanged (take l.call-index l.calls) l.answers.items l.fn.self l.self;
  many : length l.answers.items ≡ l.call-index;
  room : length l.calls ≤ vec_capacity l.answers;
}
