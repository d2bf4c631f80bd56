use Rattle.std.proofs.Common.{ℕ, length}
use Rattle.std.specs.List.{concat}
use Rattle.oai_front.specs.Queues.{AreFilled, IsTaken}
use Rattle.oai_front.specs.Pipelining.{IsSoFar}
use Rattle.oai_front.proofs.messages.perform_all.Given as goal

abbrev pub invariant-messages : goal.invariant-messages
invariant-messages g l = record {
  sofar : IsSoFar g.H.Handler.step l.moment l.fn.handler l.handler l.bytes (concat l.fn.queue.items) (concat l.queue.items) l.rest l.known;
  filled : AreFilled l.queue.items;
  taken : (taken : ℕ) → IsTaken taken l.fn.queue.items → IsTaken taken l.queue.items;
}

abbrev pub decreases-messages : goal.decreases-messages
decreases-messages g l = length l.rest
