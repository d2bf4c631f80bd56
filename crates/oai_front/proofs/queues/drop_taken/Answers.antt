use Rattle.std.proofs.Common.{arith, sym, ◌∙◌}
use Rattle.oai_front.proofs.QueueLemmas.{dropped_first, dropped_within, filled_dropped, taken_none}
use Rattle.oai_front.proofs.queues.drop_taken.Goals as goal

-- the first buffer is taken whole
pub buffers-preserved : goal.buffers-preserved
buffers-preserved c =
    let buffers = c.buffers.queue.items in
    let i = c.buffers.invariant in
    let filled = filled_dropped buffers i.filled in
    rw (c.drop_first.ensures, c.first_len.ensures) (record {
      left = sym (dropped_first c.buffers.taken c.buffers.count buffers i.taken (omega (arith, c.buffers-test.true)) i.within (omega (arith, c.if-count-left.false, c.first_len.ensures))) ∙ i.left;
      within = dropped_within c.buffers.taken c.buffers.count buffers i.taken i.within;
      filled = filled;
      taken = taken_none _ filled;
    })
