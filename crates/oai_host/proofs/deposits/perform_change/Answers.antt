-- What it came to is what the step tells.
use Rattle.std.proofs.Common.{◌≡◌, ◌∙◌, ◌∷◌, [], ◌++◌, List, ℕ, codes, Err, refl, ap, FitsSigned, w64}
use Rattle.std.proofs.lemmas.Int.{to_z-of_z}
use Rattle.oai_time.specs.TimeTexts.{datestamp_text}
use Rattle.oai_item.specs.Refusals.{in_repository, refusal_line}
use Rattle.oai_item.specs.declared.refusals.Refusal.TheVariants as refusal
use Rattle.oai_repo.specs.Fields.{state_of}
use Rattle.oai_repo.specs.Machine.{accepted, refused_with, outcome_output}
use Rattle.oai_host.proofs.DepositLemmas.{accepted_line, refused_line, told_line}
use Rattle.oai_host.proofs.RoomLemmas.{room_of_change, spends_less}
use Rattle.oai_host.proofs.deposits.perform_change.Goals as goal

pub returns-in-Ok : goal.returns-in-Ok
unfolding outcome_output
returns-in-Ok g c =
    let V = g.V.Versions in
    let fits : FitsSigned w64 c.args.moment = c.ranges.moment in
    let range = rw c.in-Ok.is at c.change.type_inv in
    let stamp : FitsSigned w64 c.in-Ok.stamp = record { sfits = range.1.1.1.1.0.1 } in
    let old = c.args.repo.now in
    let new = c.change.new.self in
    let before = V.lists c.args.store.now in
    let after = V.lists c.change.new.store in
    let config = c.change.ensures.keeps.config in
    let clock = rw c.in-Ok.is at (simp to_z-of_z at c.change.ensures.clock) in
    let made = rw c.in-Ok.is at (simp to_z-of_z at c.change.ensures.accepted) in
    let store = spends_less V _ _ _ _ _ (room_of_change old c.args.change.now c.change.ensures.few) (rw c.in-Ok.is at c.change.ensures.store) in
    let text : List ℕ = (codes "ok " ++ datestamp_text old.config.granularity c.in-Ok.stamp) ++ 10 ∷ [] in simp to_z-of_z (record {
      ok = record {
        so = accepted_line old before c.args.moment c.in-Ok.stamp c.args.change.now new after made clock config;
        exact = λ honest.
            let acted = rw c.in-Ok.is at (simp to_z-of_z at (c.change.ensures.changed honest)) in
            told_line old.config c.args.moment c.args.change.now (accepted c.in-Ok.stamp) (state_of old before) (state_of new after) text acted refl;
      };
      writable = made.writable;
      err = tt;
      kept = c.change.ensures.keeps;
      store = record {
        room = record { enough = tt; used = store.room.used };
        device = record { count = store.device.count; device = tt };
        honesty = record { same = store.honesty.same; damaged = tt };
      };
    })

pub returns-in-Err-Refused : goal.returns-in-Err-Refused
unfolding outcome_output
returns-in-Err-Refused g c =
    let V = g.V.Versions in
    let fits : FitsSigned w64 c.args.moment = c.ranges.moment in
    let old = c.args.repo.now in
    let new = c.change.new.self in
    let before = V.lists c.args.store.now in
    let after = V.lists c.change.new.store in
    let cause : c.change.result ≡ Err (refusal.Refused c.in-Err-Refused.cause) = c.in-Err-Refused.is ∙ ap (λ r. Err r) c.in-Err-Refused.field-0-is in
    let refused = rw cause at (simp to_z-of_z at c.change.ensures.refused) in
    let store = spends_less V _ _ _ _ _ (room_of_change old c.args.change.now c.change.ensures.few) (rw cause at c.change.ensures.store) in
    let text : List ℕ = refusal_line (in_repository c.in-Err-Refused.cause) ++ 10 ∷ [] in record {
      ok = record {
        so = refused_line old before c.args.moment c.args.change.now c.in-Err-Refused.cause new after refused;
        exact = λ honest.
            let acted = rw cause at (simp to_z-of_z at (c.change.ensures.changed honest)) in
            told_line old.config c.args.moment c.args.change.now (refused_with (in_repository c.in-Err-Refused.cause)) (state_of old before) (state_of new after) text acted refl;
      };
      writable = tt;
      err = tt;
      kept = c.change.ensures.keeps;
      store = record {
        room = record { enough = tt; used = store.room.used };
        device = record { count = store.device.count; device = tt };
        honesty = record { same = store.honesty.same; damaged = tt };
      };
    }
