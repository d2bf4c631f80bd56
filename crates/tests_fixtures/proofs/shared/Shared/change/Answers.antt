-- The one that is asked changes, and the other one stays beside it.
use Rattle.tests_fixtures.proofs.BesideLemmas.{first_changes, second_changes}
use Rattle.tests_fixtures.proofs.shared.Shared.change.Goals as goal

pub invariant_of-self : goal.invariant_of-self
invariant_of-self g c =
    let V = g.V.Versions in
    let shared = c.args.self.now in
    record {
      beside = first_changes (V.honest shared.store) (V.honest c.change.new.store) shared.first c.change.new.self shared.second (V.lists shared.store) (V.lists c.change.new.store)
          c.change.ensures.store.honesty.same c.change.ensures.keeps shared.beside;
    }

pub invariant_of-self-in-Second : goal.invariant_of-self-in-Second
invariant_of-self-in-Second g c =
    let V = g.V.Versions in
    let shared = c.args.self.now in
    record {
      beside = second_changes (V.honest shared.store) (V.honest c.change-in-Second.new.store) shared.first shared.second c.change-in-Second.new.self (V.lists shared.store) (V.lists c.change-in-Second.new.store)
          c.change-in-Second.ensures.store.honesty.same c.change-in-Second.ensures.keeps shared.beside;
    }
