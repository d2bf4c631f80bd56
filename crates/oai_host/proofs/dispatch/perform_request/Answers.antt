-- A request is replied to, or a fault has left all as it was.
use Rattle.std.proofs.Common.{inl, inr, None, FitsSigned, w64, refl, sym, ap}
use Rattle.std.proofs.lemmas.Int.{to_z-of_z}
use Rattle.oai_repo.specs.Calls.{output_of_reply}
use Rattle.oai_repo.specs.Fields.{state_of}
use Rattle.oai_repo.specs.Machine.{Output}
use Rattle.oai_repo.specs.State.{RepoState}
use Rattle.oai_host.specs.Answers.{answer_of}
use Rattle.oai_host.proofs.RedoLemmas.{no_longer, output_told, replay_left, reply_of_output}
use Rattle.oai_host.proofs.RoomLemmas.{fault_told}
use Rattle.oai_host.proofs.dispatch.perform_request.Goals as goal

pub returns-in-Ok-clause-performed : goal.returns-in-Ok-clause-performed
returns-in-Ok-clause-performed g c =
    let fits : FitsSigned w64 c.args.moment = c.ranges.moment in
    let asked = rw c.in-Ok.is at (simp to_z-of_z at c.ask.ensures) in
    let store = asked.store in
    rw c.recorded.ensures.answer (record {
      performed = record {
        ended = inl (record {
          reply = reply_of_output (output_of_reply c.in-Ok.replied.reply);
          clock = asked.clock;
          holdings = asked.kept;
          exact = λ honest. ap (λ (done : Output × RepoState). (answer_of done.0, done.1)) (asked.step honest);
        });
        room = rw (output_told (output_of_reply c.in-Ok.replied.reply)) (record { enough = tt; used = store.room.used });
        device = rw (output_told (output_of_reply c.in-Ok.replied.reply)) (record { count = store.device.count; device = tt });
        honesty = rw (output_told (output_of_reply c.in-Ok.replied.reply)) (record { same = store.honesty.same; damaged = tt });
      };
      kept = asked.keeps;
    })

pub returns-in-Ok-clause-left : goal.returns-in-Ok-clause-left
returns-in-Ok-clause-left g c = λ honest.
    let V = g.V.Versions in
    let fits : FitsSigned w64 c.args.moment = c.ranges.moment in
    let repo = c.args.repo.now in
    let asked = rw c.in-Ok.is at (simp to_z-of_z at c.ask.ensures) in
    let done = ap (λ (done : Output × RepoState). done.1) (sym (asked.step honest)) in
    rw c.recorded.ensures.bytes
    (replay_left repo.config c.args.moment c.args.arguments.now c.in-Ok.replied.replay (state_of repo (V.lists c.args.store.now)) (state_of c.ask.new.self (V.lists c.ask.new.store)) (asked.replay honest) done)

pub returns-in-Ok-clause-size : goal.returns-in-Ok-clause-size
returns-in-Ok-clause-size g c = rw c.recorded.ensures.bytes (no_longer c.in-Ok.replied.replay c.args.arguments.now)

pub returns-in-Err-clause-performed : goal.returns-in-Err-clause-performed
returns-in-Err-clause-performed g c =
    let told = fault_told c.in-Err.fault None in
    let failed = rw c.in-Err.is at c.ask.ensures in
    let store = failed.store in
    rw c.of_fault.ensures (record {
      performed = record {
        ended = inr (c.in-Err.fault, (refl, rw (failed.clock.0, failed.clock.1) refl));
        room = rw told (record { enough = store.room.enough; used = store.room.used });
        device = rw told (record { count = store.device.count; device = store.device.device });
        honesty = rw told (record { same = store.honesty.same; damaged = store.honesty.damaged });
      };
      kept = failed.keeps;
    })

pub returns-in-Err-clause-left : goal.returns-in-Err-clause-left
returns-in-Err-clause-left g c = λ honest.
    let failed = rw c.in-Err.is at c.ask.ensures in
    rw (failed.clock.0, failed.clock.1) refl
