-- A handler in front of which keys are asked for: RFC 9110, section 15.5.2. This repository's own.
use Rattle.std.specs.Prelude.{◌≡◌, ◌⊎◌, ℤ, false, IsTrue, List, Result}
use Rattle.oai_http.specs.Answers.{answered}
use Rattle.oai_http.specs.Exchanges.{Asked}
use Rattle.oai_http.specs.declared.exchanges.Answer.{Answer}
use Rattle.oai_http.specs.declared.handlers.SettleFault.{SettleFault}
use Rattle.oai_http.specs.declared.statuses.Status.TheVariants as status
use Rattle.oai_keys.specs.Keys.{is_admitted}
use Rattle.oai_keys.specs.declared.rings.Ring.{Ring}

-- the handler, and the keys of its repositories
pub record Guard (H : Type 0) : Type 0 where
  pub handler : H
  pub rings : List Ring

-- the handler behind the keys
abbrev pub unguarded : {H : Type 0} → Guard H → H
unguarded guard = guard.handler

-- the answer to a message that is not admitted
abbrev pub barred : Answer
barred = answered status.Unauthorized

-- a message that is admitted is the handler's; any other is answered so, and the handler stays as it was
abbrev pub Guards : {H : Type 0} → List Ring → (H → ℤ → Asked → Answer → H → Type 0) → H → ℤ → Asked → Answer → H → Type 0
Guards rings step before moment asked answer after =
    (IsTrue (is_admitted rings asked) × step before moment asked answer after)
    ⊎ ((is_admitted rings asked ≡ false) × (answer ≡ barred) × (after ≡ before))

-- the same under its own keys, which stay
abbrev pub IsGuarded : {H : Type 0} → (H → ℤ → Asked → Answer → H → Type 0) → Guard H → ℤ → Asked → Answer → Guard H → Type 0
IsGuarded step before moment asked answer after =
    (after.rings ≡ before.rings) × Guards before.rings step before.handler moment asked answer after.handler

-- settling is the handler's
abbrev pub IsGuardSettled : {H : Type 0} → (H → Result Unit SettleFault → H → Type 0) → Guard H → Result Unit SettleFault → Guard H → Type 0
IsGuardSettled settled before result after = (after.rings ≡ before.rings) × settled before.handler result after.handler
