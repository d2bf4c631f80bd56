use Rattle.oai_durable.proofs.CheckpointLemmas.{stages_history}
use Rattle.oai_durable.proofs.laws.stages_law.Goals as goal

pub returns : goal.returns
returns g c = λ begun stages left begins are.
    stages_history (record {
      leaving = record { redone = g.H.Replayed.redone; restored = g.H.Replayed.restored };
      reply = g.H.Replayed.reply;
      parts = g.H.Replayed.parts;
      ended = g.H.Replayed.ended;
      emptied = g.H.Replayed.emptied;
    }) begun stages left (record { redone = g.met.H.Replayed.same_redone; restored = g.met.H.Replayed.same_restored }) begins are
