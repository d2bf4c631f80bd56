-- Some more parts are saved.
use Rattle.std.proofs.Common.{ap, refl}
use Rattle.oai_durable.proofs.OnlineLemmas.{writing_saved}
use Rattle.oai_durable.proofs.journaled.Journaled.save_parts.Goals as goal

pub returns-clause-saves : goal.returns-clause-saves
returns-clause-saves g c = rw (← c.self.view_is, ← c.checkpoint.view_is) (λ honest begun entries durable is.
    let more = c.in-Ok.ensures.saved honest in
    writing_saved (record {
      step = g.H.Handler.step;
      Kept = g.H.Replayed.Kept;
      kept = g.H.Replayed.kept;
      is_honest = g.H.Replayed.is_honest;
      leaving = record { redone = g.H.Replayed.redone; restored = g.H.Replayed.restored };
      reply = g.H.Replayed.reply;
      saves = g.H.Replayed.saves;
    }) g.J.Journal g.K.Journal g.H.Replayed.emptied begun _ _ entries durable _ _ c.in-Ok.more more.some
    (rw (ap (λ w. w.whole) c.checkpoint.view_is) c.requires) refl refl refl more.taken more.saved (λ over. c.in-Ok.ensures.all over honest) is)
