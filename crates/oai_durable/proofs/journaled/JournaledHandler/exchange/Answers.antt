-- A message is performed and recorded, or refused.
use Rattle.std.proofs.Common.{w64, FitsSigned, to_z-of_z}
use Rattle.std.proofs.lemmas.List.{append-nil}
use Rattle.oai_http.specs.Exchanges.{asked_by}
use Rattle.oai_durable.proofs.KeptLemmas.{performed_kept}
use Rattle.oai_durable.proofs.journaled.JournaledHandler.exchange.Goals as goal

pub returns-in-Some : goal.returns-in-Some
returns-in-Some g c =
    let fits : FitsSigned w64 c.args.moment = c.ranges.moment in
    let is = c.exchange_recorded-done.ensures in
    let step = simp to_z-of_z at is.step in
    let left = simp to_z-of_z at is.left in
    let whole = simp to_z-of_z at is.whole in
    let reply = simp to_z-of_z at is.reply in
    let added = simp to_z-of_z at c.add.ensures.added in
    rw (← c.self.view_is) (performed_kept (record {
      step = g.H.Handler.step;
      Kept = g.H.Replayed.Kept;
      kept = g.H.Replayed.kept;
      is_honest = g.H.Replayed.is_honest;
      leaving = record { redone = g.H.Replayed.redone; restored = g.H.Replayed.restored };
      reply = g.H.Replayed.reply;
      saves = g.H.Replayed.saves;
    }) g.J.Journal _ c.args.moment (asked_by c.args.exchange.now) c.exchange_recorded-done.result.answer c.exchange_recorded-done.result.performed _
    step left whole reply is.honesty
    (λ entries durable held. rw c.in-Some.is (added entries durable (c.make_room.ensures.same entries durable held)))
    is.saving (λ tail read stands. c.add.ensures.tails tail read (c.make_room.ensures.tails tail read stands)))

pub returns-in_default : goal.returns-in_default
returns-in_default g c =
    let fits : FitsSigned w64 c.args.moment = c.ranges.moment in
    let is = c.exchange_recorded-done.ensures in
    let step = simp to_z-of_z at is.step in
    let left = simp to_z-of_z at is.left in
    let whole = simp to_z-of_z at is.whole in
    let reply = simp to_z-of_z at is.reply in
    rw (← c.self.view_is) (performed_kept (record {
      step = g.H.Handler.step;
      Kept = g.H.Replayed.Kept;
      kept = g.H.Replayed.kept;
      is_honest = g.H.Replayed.is_honest;
      leaving = record { redone = g.H.Replayed.redone; restored = g.H.Replayed.restored };
      reply = g.H.Replayed.reply;
      saves = g.H.Replayed.saves;
    }) g.J.Journal _ c.args.moment (asked_by c.args.exchange.now) c.exchange_recorded-done.result.answer c.exchange_recorded-done.result.performed _
    step left whole reply is.honesty
    (λ entries durable held. rw (c.in_default.is, append-nil entries) (c.make_room.ensures.same entries durable held))
    is.saving c.make_room.ensures.tails)
