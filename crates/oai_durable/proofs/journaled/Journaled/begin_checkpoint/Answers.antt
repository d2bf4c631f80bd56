-- Nothing is saved yet.
use Rattle.std.proofs.Common.{[], length}
use Rattle.oai_durable.proofs.OnlineLemmas.{writing_begun}
use Rattle.oai_durable.proofs.journaled.Journaled.begin_checkpoint.Goals as goal

pub returns-in-Ok-tail-clause-begun : goal.returns-in-Ok-tail-clause-begun
returns-in-Ok-tail-clause-begun g c = rw (← c.self.view_is) (λ honest begun entries lasting held holds.
    writing_begun (record {
      step = g.H.Handler.step;
      Kept = g.H.Replayed.Kept;
      kept = g.H.Replayed.kept;
      is_honest = g.H.Replayed.is_honest;
      leaving = record { redone = g.H.Replayed.redone; restored = g.H.Replayed.restored };
      reply = g.H.Replayed.reply;
      saves = g.H.Replayed.saves;
    }) g.J.Journal g.K.Journal g.H.Replayed.emptied begun _ _ entries lasting _ c.in-Ok-tail.tail honest held (rw c.new.ensures (c.in-Ok.ensures.same [] lasting holds))
    (c.in_default.ensures.begun honest) (c.in-Ok-tail.ensures.behind entries (length entries) held.records))
