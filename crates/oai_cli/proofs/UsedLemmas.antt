-- What is done to a front is its calls, one after the other.
use Rattle.std.proofs.Common.{◌≡◌, ℕ, ℤ, true, false, List, [], ◌∷◌, ◌++◌, Result, Ok, Err, refl, subst}
use Rattle.oai_front.specs.Fronts.{HasOutput, IsChange, IsEnding, IsForgetting, IsOpening, IsPiece, IsTaking, State}
use Rattle.oai_front.specs.Performing.{Steps}
use Rattle.oai_front.specs.Runs.{Came, Comes, FrontCall, Forgotten, IsCall, Opened, Over, Taken}
use Rattle.oai_front.specs.declared.faults.NoSuchConnection.{NoSuchConnection as Absent}
use Rattle.oai_front.specs.declared.faults.OpenFault.{OpenFault}
use Rattle.oai_front.specs.declared.faults.OpenFault.TheVariants as refusal
use Rattle.oai_front.specs.declared.faults.PieceFault.{PieceFault}
use Rattle.oai_front.specs.declared.faults.PieceFault.TheVariants.{NoSuchConnection, NoMemory, Unfinished}
use Rattle.oai_front.specs.declared.numbers.ConnId.{ConnId}
use Rattle.oai_cli.specs.Outputs.{IsUsed}

pub used_none : {H : Type 0} (step : Steps H) (old new : State H) → new ≡ old → IsUsed step old new
used_none step old new e = record { calls = []; run = e }

comes_more : {H : Type 0} (step : Steps H) (old mid new : State H) (first then_ : List FrontCall) → Comes step old first mid → Comes step mid then_ new → Comes step old (first ++ then_) new
comes_more {H} step old mid new [] then_ a b = subst (λ (s : State H). Comes step s then_ new) a b
comes_more step old mid new (c ∷ first) then_ a b = (a.0, a.1, comes_more step a.0 mid new first then_ a.2 b)

pub used_then : {H : Type 0} (step : Steps H) (old mid new : State H) → IsUsed step old mid → IsUsed step mid new → IsUsed step old new
used_then step old mid new a b = record { calls = a.calls ++ b.calls; run = comes_more step old mid new a.calls b.calls a.run b.run }

used_once : {H : Type 0} (step : Steps H) (call : FrontCall) (old new : State H) → IsCall step call old new → IsUsed step old new
used_once step call old new h = record { calls = call ∷ []; run = (new, h, refl) }

pub opening_refused : {H : Type 0} (old : State H) (fault : OpenFault) (new : State H) → IsOpening old (Err fault) new → new ≡ old
opening_refused old refusal.Full new h = h.1
opening_refused old refusal.NoMemory new h = h.1
opening_refused old refusal.NumbersSpent new h = h.2

pub used_opening : {H : Type 0} (step : Steps H) (old : State H) (result : Result ConnId OpenFault) (new : State H) → IsOpening old result new → IsUsed step old new
used_opening step old (Ok conn) new h = used_once step Opened old new (conn, h)
used_opening step old (Err fault) new h = used_none step old new (opening_refused old fault new h)

pub used_piece : {H : Type 0} (step : Steps H) (number : ℕ) (moment : ℤ) (piece : List ℕ) (old : State H) (result : Result Unit PieceFault) (new : State H)
    → IsPiece step number moment piece old result new → IsUsed step old new
used_piece step number moment piece old (Err NoSuchConnection) new h = used_none step old new h.1
used_piece step number moment piece old (Err NoMemory) new h = used_none step old new h.1
used_piece step number moment piece old (Err Unfinished) new h = used_once step (Came (record { number = number; moment = moment; bytes = piece; whole = false })) old new h
used_piece step number moment piece old (Ok done) new h = used_once step (Came (record { number = number; moment = moment; bytes = piece; whole = true })) old new h

pub used_ending : {H : Type 0} (step : Steps H) (number : ℕ) (old : State H) (result : Result Unit Absent) (new : State H) → IsEnding number old result new → IsUsed step old new
used_ending step number old (Ok done) new h = used_once step (Over number) old new h
used_ending step number old (Err absent) new h = used_none step old new h.1

pub used_forgetting : {H : Type 0} (step : Steps H) (number : ℕ) (old : State H) (result : Result Unit Absent) (new : State H) → IsForgetting number old result new → IsUsed step old new
used_forgetting step number old (Ok done) new h = used_once step (Forgotten number) old new h
used_forgetting step number old (Err absent) new h = used_none step old new h.1

pub used_taking : {H : Type 0} (step : Steps H) (number count : ℕ) (old new : State H) → HasOutput number count old.connections → IsChange number old new (IsTaking count)
    → new.handler ≡ old.handler → IsUsed step old new
used_taking step number count old new has change handler = used_once step (Taken number count) old new (has, change, handler)
