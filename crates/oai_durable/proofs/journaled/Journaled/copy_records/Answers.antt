-- Some more records are copied.
use Rattle.std.proofs.Common.{ap, refl}
use Rattle.oai_durable.proofs.OnlineLemmas.{writing_copied}
use Rattle.oai_durable.proofs.journaled.Journaled.copy_records.Goals as goal

pub returns-clause-copies : goal.returns-clause-copies
returns-clause-copies g c = rw (← c.self.view_is, ← c.checkpoint.view_is) (λ clean begun entries durable held is.
    writing_copied (record {
      step = g.H.Handler.step;
      Kept = g.H.Replayed.Kept;
      kept = g.H.Replayed.kept;
      is_honest = g.H.Replayed.is_honest;
      leaving = record { redone = g.H.Replayed.redone; restored = g.H.Replayed.restored };
      reply = g.H.Replayed.reply;
      saves = g.H.Replayed.saves;
    }) g.J.Journal g.K.Journal g.H.Replayed.emptied begun _ _ entries durable _ _ c.args.bytes _
    (rw (ap (λ w. w.whole) c.checkpoint.view_is) c.requires) refl
    (λ read behind are stands others lasting holds. c.in-Ok.ensures.copied clean entries durable read behind held.records are stands others lasting holds) is)
