-- All parts were saved, and are committed.
use Rattle.std.proofs.Common.{[]}
use Rattle.oai_durable.proofs.CheckpointLemmas.{saved_written}
use Rattle.oai_durable.proofs.checkpoints.checkpoint.Goals as goal

pub returns-in-Ok-clause-saved : goal.returns-in-Ok-clause-saved
returns-in-Ok-clause-saved g c =
    saved_written (record {
      leaving = record { redone = g.H.Replayed.redone; restored = g.H.Replayed.restored };
      reply = g.H.Replayed.reply;
      parts = g.H.Replayed.parts;
      ended = g.H.Replayed.ended;
      emptied = g.H.Replayed.emptied;
    }) g.J.Journal (g.H.Replayed.kept c.args.handler.now) c.args.raise c.args.journal c.save.new.sink.journal c.committed.result
    c.in-Ok.ensures.whole (λ honest before. c.in-Ok.ensures.saved honest [] (rw c.new-sink.ensures before)) c.committed.ensures
