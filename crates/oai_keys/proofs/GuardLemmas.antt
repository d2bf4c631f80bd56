-- Behind keys a handler does what it does without them, where they admit a message; and the keys stay.
use Rattle.std.proofs.Common.{◌≡◌, ◌∙◌, List, subst}
use Rattle.oai_front.specs.Performing.{Steps}
use Rattle.oai_serving.specs.Rounds.{Settles}
use Rattle.oai_serving.specs.Wrappers.{Wraps}
use Rattle.oai_keys.specs.Guards.{Guard, Guards, IsGuardSettled, IsGuarded, unguarded}
use Rattle.oai_keys.specs.declared.rings.Ring.{Ring}

-- these are its keys
abbrev pub HasRings : {H : Type 0} → List Ring → Guard H → Type 0
HasRings rings guard = guard.rings ≡ rings

pub guard_wraps : {H : Type 0} (rings : List Ring) (step : Steps H) (settled : Settles H)
    → Wraps (HasRings {H = H} rings) (unguarded {H = H}) (IsGuarded step) (IsGuardSettled settled) (Guards rings step) settled
guard_wraps rings step settled = record {
  steps = λ before moment asked answer after same steps.
      (steps.0 ∙ same, subst (λ (rs : List Ring). Guards rs step before.handler moment asked answer after.handler) same steps.1);
  settles = λ before result after same settles. (settles.0 ∙ same, settles.1);
}
