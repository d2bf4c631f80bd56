use Rattle.oai_durable.proofs.OnlineLemmas.{writing_exchanged, writing_settled, written_stands}
use Rattle.oai_durable.proofs.laws.online_checkpoint_law.Goals as goal

pub returns-clause-exchange : goal.returns-clause-exchange
returns-clause-exchange g c = λ begun entries own durable before after moment asked answer w.
    writing_exchanged (record {
      step = g.H.Handler.step;
      Kept = g.H.Replayed.Kept;
      kept = g.H.Replayed.kept;
      is_honest = g.H.Replayed.is_honest;
      leaving = record { redone = g.H.Replayed.redone; restored = g.H.Replayed.restored };
      reply = g.H.Replayed.reply;
      saves = g.H.Replayed.saves;
    }) g.J.Journal g.K.Journal g.H.Replayed.emptied begun before after moment asked answer entries own durable w

pub returns-clause-settled : goal.returns-clause-settled
returns-clause-settled g c = λ begun entries durable before after w.
    writing_settled (record {
      step = g.H.Handler.step;
      Kept = g.H.Replayed.Kept;
      kept = g.H.Replayed.kept;
      is_honest = g.H.Replayed.is_honest;
      leaving = record { redone = g.H.Replayed.redone; restored = g.H.Replayed.restored };
      reply = g.H.Replayed.reply;
      saves = g.H.Replayed.saves;
    }) g.J.Journal g.K.Journal g.H.Replayed.emptied begun before after entries durable w

pub returns-clause-stands : goal.returns-clause-stands
returns-clause-stands g c = λ begun entries durable parts new.
    written_stands (record {
      step = g.H.Handler.step;
      Kept = g.H.Replayed.Kept;
      kept = g.H.Replayed.kept;
      is_honest = g.H.Replayed.is_honest;
      leaving = record { redone = g.H.Replayed.redone; restored = g.H.Replayed.restored };
      reply = g.H.Replayed.reply;
      saves = g.H.Replayed.saves;
    }) g.J.Journal g.K.Journal begun parts entries durable new
