use Rattle.std.proofs.Common.{◌≡◌, ◌≤◌, length, drop}
use Rattle.std.specs.List.{concat}
use Rattle.oai_front.specs.Queues.{AreFilled, IsTaken}
use Rattle.oai_front.proofs.queues.drop_taken.Given as goal

abbrev pub invariant-buffers : goal.invariant-buffers
invariant-buffers l = record {
  left : drop l.count (drop l.taken (concat l.queue.items)) ≡ drop l.fn.count (drop l.fn.taken (concat l.fn.queue.items));
  within : l.count ≤ length (drop l.taken (concat l.queue.items));
  filled : AreFilled l.queue.items;
  taken : IsTaken l.taken l.queue.items;
}

abbrev pub decreases-buffers : goal.decreases-buffers
decreases-buffers l = l.count
