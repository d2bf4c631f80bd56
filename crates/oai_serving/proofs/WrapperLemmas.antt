-- What a server does with a handler around another one is, seen inside, what it does with the inner one: by the rounds,
-- the messages in each, and its end. What its clients receive names no handler.
use Rattle.std.proofs.Common.{◌≡◌, ℕ, List, [], ◌∷◌, Option, Result, Ok, Err, sym, ap, subst}
use Rattle.oai_front.specs.Performing.{Steps}
use Rattle.oai_front.specs.Runs.{Served, Serves}
use Rattle.oai_serving.specs.Accepted.{Known}
use Rattle.oai_serving.specs.Rounds.{AreSettled, EndsService, IsRoundSettled, IsService, Settles, World}
use Rattle.oai_serving.specs.Wrappers.{Wraps, world_behind}
use Rattle.oai_serving.specs.declared.faults.ServeFault.{ServeFault}
use Rattle.oai_serving.specs.declared.faults.ServeFault.TheVariants.{Clock, Unsettled, Wait}

module _ {W H : Type 0} (stays : W → Type 0) (inner : W → H) (outer_step : Steps W) (outer_settled : Settles W) (step : Steps H) (settled : Settles H)
    (wraps : Wraps stays inner outer_step outer_settled step settled) where
  pub serves_behind : (served : List Served) (old new : W) → stays old → Serves outer_step old served new → stays new × Serves step (inner old) served (inner new)
  serves_behind [] old new stay serves = (subst stays (sym serves) stay, ap inner serves)
  serves_behind (s ∷ served) old new stay serves =
      let one = wraps.steps old s.moment s.done.message.asked s.done.answer serves.0 stay serves.1 in
      let more = serves_behind served serves.0 new one.0 serves.2 in
      (more.0, (inner serves.0, one.1, more.1))

  -- what stays after no step stays
  stays_same : (old new : W) → stays old → new ≡ old → stays new × (inner new ≡ inner old)
  stays_same old new stay same = (subst stays (sym same) stay, ap inner same)

  pub round_settled_behind : (mid : W) (result : Result Unit ServeFault) (new : W) → stays mid → IsRoundSettled outer_settled mid result new
      → stays new × IsRoundSettled settled (inner mid) result (inner new)
  round_settled_behind mid (Ok done) new stay settles = wraps.settles mid (Ok tt) new stay settles
  round_settled_behind mid (Err Unsettled) new stay settles =
      let one = wraps.settles mid (Err settles.0) new stay settles.1 in
      (one.0, (settles.0, one.1))
  round_settled_behind mid (Err Wait) new stay settles = stays_same mid new stay settles
  round_settled_behind mid (Err Clock) new stay settles = stays_same mid new stay settles

  pub settled_behind : (rounds : List (List Served)) (old new : W) → stays old → AreSettled outer_step outer_settled rounds old new
      → stays new × AreSettled step settled rounds (inner old) (inner new)
  settled_behind [] old new stay settles = stays_same old new stay settles
  settled_behind (served ∷ rounds) old new stay settles =
      let performed = settles.1.0 in
      let first = serves_behind served old performed stay settles.1.1 in
      let one = wraps.settles performed (Ok tt) settles.0 first.0 settles.1.2 in
      let more = settled_behind rounds settles.0 new one.0 settles.2 in
      (more.0, (inner settles.0, (inner performed, first.1, one.1), more.1))

  pub ends_behind : (mid : W) (result : Result Unit ServeFault) (new : W) → stays mid → EndsService outer_step outer_settled mid result new
      → stays new × EndsService step settled (inner mid) result (inner new)
  ends_behind mid (Ok done) new stay ends = stays_same mid new stay ends
  ends_behind mid (Err fault) new stay ends =
      let first = serves_behind ends.served mid ends.performed stay ends.run in
      let last = round_settled_behind ends.performed (Err fault) new first.0 ends.settles in
      (last.0, record { served = ends.served; performed = inner ends.performed; run = first.1; settles = last.1 })

  -- a service, seen inside; and what stays still stands at its end
  pub service_behind : {S : Type 0} (contents remaining : S → Option (List ℕ)) (known later : Known S) (old : World S W) (result : Result Unit ServeFault) (new : World S W)
      → stays old.handler → IsService outer_step outer_settled contents remaining known later old result new
      → stays new.handler × IsService step settled contents remaining known later (world_behind inner old) result (world_behind inner new)
  service_behind contents remaining known later old result new stay serves =
      let all = settled_behind serves.rounds old.handler serves.mid stay serves.settles in
      let last = ends_behind serves.mid result new.handler all.0 serves.ends in (
        last.0,
        record {
          rounds = serves.rounds;
          many = serves.many;
          mid = inner serves.mid;
          settles = all.1;
          ends = last.1;
          streams = serves.streams;
          parted = serves.parted;
          passes = serves.passes;
          answered = serves.answered;
        },
      )
