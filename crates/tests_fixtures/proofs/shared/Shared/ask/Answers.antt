-- The one that is asked changes, and the other one stays beside it.
use Rattle.tests_fixtures.proofs.BesideLemmas.{first_changes, second_changes}
use Rattle.tests_fixtures.proofs.shared.Shared.ask.Goals as goal

pub invariant_of-self : goal.invariant_of-self
invariant_of-self g c =
    let V = g.V.Versions in
    let shared = c.args.self.now in
    record {
      beside = first_changes (V.honest shared.store) (V.honest c.ask.new.store) shared.first c.ask.new.self shared.second (V.lists shared.store) (V.lists c.ask.new.store)
          c.ask.ensures.store.honesty.same c.ask.ensures.keeps shared.beside;
    }

pub invariant_of-self-in-Second : goal.invariant_of-self-in-Second
invariant_of-self-in-Second g c =
    let V = g.V.Versions in
    let shared = c.args.self.now in
    record {
      beside = second_changes (V.honest shared.store) (V.honest c.ask-in-Second.new.store) shared.first shared.second c.ask-in-Second.new.self (V.lists shared.store) (V.lists c.ask-in-Second.new.store)
          c.ask-in-Second.ensures.store.honesty.same c.ask-in-Second.ensures.keeps shared.beside;
    }
