-- What was performed is what `perform_first` says; what is left is kept.
use Rattle.std.proofs.Common.{drop, FitsSigned, w64, to_z-of_z}
use Rattle.oai_front.proofs.ConnectionLemmas.{gone_over, is_left}
use Rattle.oai_front.proofs.connections.Connection.perform_next.Goals as goal

pub invariant_of-self : goal.invariant_of-self
invariant_of-self g c = record {
  start = c.self.invariant.start;
  head = c.self.invariant.head;
  filled = c.perform_first-left.ensures.filled;
  taken = c.perform_first-left.ensures.taken c.self.inside.taken c.self.invariant.taken;
}

pub leave-requires : goal.leave-requires
leave-requires g c =
    let i = c.self.inside in
    is_left g.H.Handler.step _ _ _ (drop i.start i.bytes.items) _ _ c.perform_first-left.result (rw c.rest_of-bytes.ensures at c.perform_first-left.ensures.left)

pub returns : goal.returns
returns g c =
    let fits : FitsSigned w64 c.args.moment = c.ranges.moment in
    let i = c.self.inside in
    let left = simp to_z-of_z at (rw c.rest_of-bytes.ensures at c.perform_first-left.ensures.left) in
    rw (← c.self.view_is, c.leave.ensures.result, c.leave.ensures.left)
    (gone_over g.H.Handler.step c.args.moment i.number i.taken (drop i.start i.bytes.items) i.queue.items c.perform_first-left.new.queue.items i.stage _ _ c.perform_first-left.result c.self.invariant.taken left)
