-- What the exchange asks for is what is performed.
use Rattle.std.proofs.Common.{FitsSigned, w64, inl, refl, arith}
use Rattle.std.proofs.lemmas.Int.{to_z-of_z}
use Rattle.oai_host.proofs.DepositLemmas.{kept_start}
use Rattle.oai_host.proofs.dispatch.perform_exchange.Goals as goal

pub returns-in-Ok-clause-performed : goal.returns-in-Ok-clause-performed
returns-in-Ok-clause-performed g c =
    let fits : FitsSigned w64 c.args.moment = c.ranges.moment in
    let task = rw c.in-Ok.is at (c.arguments_of.ensures.asked c.args.moment) in
    rw (c.in-Requests.is, task) (simp to_z-of_z at c.perform_request.ensures.performed)

pub returns-in-Ok-clause-left : goal.returns-in-Ok-clause-left
returns-in-Ok-clause-left g c =
    let fits : FitsSigned w64 c.args.moment = c.ranges.moment in
    rw c.in-Requests.is (simp to_z-of_z at c.perform_request.ensures.left)

pub returns-in-Err-clause-performed : goal.returns-in-Err-clause-performed
returns-in-Err-clause-performed g c =
    let V = g.V.Versions in
    let store = c.args.store.now in
    let task = rw c.in-Err.is at (c.arguments_of.ensures.asked c.args.moment) in
    rw (c.in-Requests.is, task, c.refused.ensures) (record {
      performed = record {
        ended = inl (refl, refl);
        room = record { enough = tt; used = omega arith };
        device = record { count = omega arith; device = tt };
        honesty = record { same = refl; damaged = tt };
      };
      kept = kept_start (V.honest store) c.args.repo.now (V.lists store) c.requires.owns.stands c.requires.owns.held;
    })
