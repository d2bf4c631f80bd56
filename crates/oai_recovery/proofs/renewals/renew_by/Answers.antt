-- All records were replayed, and their state is saved.
use Rattle.std.proofs.Common.{Bool, IsTrue, subst, sym}
use Rattle.oai_durable.specs.Checkpoints.{Saving}
use Rattle.oai_recovery.proofs.RenewalLemmas.{saved_of}
use Rattle.oai_recovery.proofs.renewals.renew_by.Goals as goal

pub returns-in-Ok-clause-saved : goal.returns-in-Ok-clause-saved
returns-in-Ok-clause-saved g c = λ honest clean first begun.
    let still = subst (λ (b : Bool). IsTrue b) (sym c.recover_all.ensures.honesty) honest in
    let saving : Saving g.H.Replayed.Kept = record {
      leaving = record { redone = g.H.Replayed.redone; restored = g.H.Replayed.restored };
      reply = g.H.Replayed.reply;
      parts = g.H.Replayed.parts;
      ended = g.H.Replayed.ended;
      emptied = g.H.Replayed.emptied;
    } in
    saved_of saving g.H.Replayed.kept g.H.Replayed.is_honest g.D.Disk.seen g.D.Disk.may_leave _ (g.H.Replayed.kept c.args.handler) c.recover_all.new.handler
    c.recover_all.new.recovery first _ _ c.in-Ok.written (c.in_ok-recover_all.ensures.recovered clean first begun) still (c.in-Ok.ensures still)
