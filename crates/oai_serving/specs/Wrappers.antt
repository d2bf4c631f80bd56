-- A handler around another one, as the event loop sees both. This repository's own.
use Rattle.std.specs.Prelude.{ℤ, Result}
use Rattle.oai_http.specs.Exchanges.{Asked}
use Rattle.oai_http.specs.declared.exchanges.Answer.{Answer}
use Rattle.oai_http.specs.declared.handlers.SettleFault.{SettleFault}
use Rattle.oai_front.specs.Performing.{Steps}
use Rattle.oai_serving.specs.Rounds.{Settles, World}

-- the outer handler's steps and its settling are, seen inside, steps and settling of the inner one in these words; and
-- that stays of the outer one
pub record Wraps {W H : Type 0} (stays : W → Type 0) (inner : W → H) (outer_step : Steps W) (outer_settled : Settles W) (step : Steps H) (settled : Settles H) : Type 0 where
  pub steps : (before : W) (moment : ℤ) (asked : Asked) (answer : Answer) (after : W) → stays before → outer_step before moment asked answer after
      → stays after × step (inner before) moment asked answer (inner after)
  pub settles : (before : W) (result : Result Unit SettleFault) (after : W) → stays before → outer_settled before result after
      → stays after × settled (inner before) result (inner after)

-- a server with the inner handler in place of the outer one
abbrev pub world_behind : {S W H : Type 0} → (W → H) → World S W → World S H
world_behind inner world = record { handler = inner world.handler; links = world.links; last = world.last }
