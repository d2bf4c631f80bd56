-- A step of a checkpoint, a commit, and what is read back.
use Rattle.oai_durable.proofs.OnlineLemmas.{writing_over, writing_read}
use Rattle.oai_durable.proofs.journaled.Journaled.write_checkpoint.Goals as goal

pub returns-clause-writes : goal.returns-clause-writes
returns-clause-writes g c = λ honest clean begun entries durable begins held is.
    let over = writing_over (record {
      step = g.H.Handler.step;
      Kept = g.H.Replayed.Kept;
      kept = g.H.Replayed.kept;
      is_honest = g.H.Replayed.is_honest;
      leaving = record { redone = g.H.Replayed.redone; restored = g.H.Replayed.restored };
      reply = g.H.Replayed.reply;
      saves = g.H.Replayed.saves;
    }) g.J.Journal g.K.Journal g.H.Replayed.emptied begun c.copy_records.new.self entries durable c.copy_records.new.checkpoint c.commit-2.new.self c.in_ok-more.more
    g.met.H.Replayed.same_redone g.met.H.Replayed.same_restored
    begins c.in_ok-commit-2.ensures.tail c.in_ok-commit-2.ensures.whole c.in_ok-commit-2.ensures.durable (c.in_ok-more.ensures.copies clean begun entries durable held is) in
    writing_read (record {
      step = g.H.Handler.step;
      Kept = g.H.Replayed.Kept;
      kept = g.H.Replayed.kept;
      is_honest = g.H.Replayed.is_honest;
      leaving = record { redone = g.H.Replayed.redone; restored = g.H.Replayed.restored };
      reply = g.H.Replayed.reply;
      saves = g.H.Replayed.saves;
    }) g.J.Journal g.K.Journal g.H.Replayed.emptied begun c.copy_records.new.self entries durable c.commit-2.new.self c.read_back.new.self c.in_ok-more.more c.in_ok-unread.unread
    c.if-more.false c.in_ok-unread.ensures.tail c.in_ok-unread.ensures.whole c.in_ok-unread.ensures.same over
