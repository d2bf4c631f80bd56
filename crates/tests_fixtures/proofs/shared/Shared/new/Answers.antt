-- The second repository begins beside the first, which then has no items either.
use Rattle.tests_fixtures.proofs.BesideLemmas.{new_beside}
use Rattle.tests_fixtures.proofs.shared.Shared.new.Goals as goal

pub invariant_of-result : goal.invariant_of-result
invariant_of-result g c = record { beside = new_beside _ _ _ _ _ _ _ _ c.in_ok-first.ensures.new c.in_ok-second.ensures.new }
