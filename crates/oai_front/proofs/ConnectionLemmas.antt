-- What the parts of a connection make of it.
use Rattle.std.proofs.Common.{◌≡◌, ℕ, ℤ, List, [], ◌++◌, ap₂, drop, refl}
use Rattle.std.specs.List.{concat}
use Rattle.std.specs.Prelude.{Result, Ok, Err}
use Rattle.oai_front.specs.Connections.{Connection, IsGoneOver, IsTakenIn, bytes_with, connection_at}
use Rattle.oai_front.specs.Messages.{End, IsClosing, closes, faults, waits}
use Rattle.oai_front.specs.Performing.{Steps}
use Rattle.oai_front.specs.Pipelining.{IsRemainder, IsRestLeft, answer_of_left, left_with}
use Rattle.oai_front.specs.Queues.{IsTaken}
use Rattle.oai_front.specs.declared.messages.Left.{Left}
use Rattle.oai_front.specs.declared.messages.Left.TheVariants.{Waiting, Nothing, Unanswered}
use Rattle.oai_front.proofs.QueueLemmas.{drop_written}
use Rattle.oai_front.specs.declared.faults.PieceFault.{PieceFault}
use Rattle.oai_front.specs.declared.faults.PieceFault.TheVariants.{NoSuchConnection, NoMemory, Unfinished}
use Rattle.oai_front.specs.declared.stages.Stage.{Stage}
use Rattle.oai_front.specs.declared.stages.Stage.TheVariants.{Closed}

-- a connection of these parts
abbrev pub made : ℕ → List ℕ → List ℕ → Stage → Connection
made number rest output stage = record { number = number; rest = rest; output = output; stage = stage }

pub connection_of : (number : ℕ) (rest more output written : List ℕ) (stage : Stage) → rest ≡ more → output ≡ written
    → made number rest output stage ≡ made number more written stage
connection_of number rest more output written stage e f = ap₂ (λ (r o : List ℕ). made number r o stage) e f

-- one that is closed
pub connection_closed : (number : ℕ) (before rest output now written : List ℕ) (stage : Stage) (end : End) → IsClosing end → rest ≡ [] → now ≡ output ++ written
    → made number rest now Closed ≡ connection_at (made number before output stage) end written
connection_closed number before rest output now written stage (waits bytes) closing e f = absurd closing
connection_closed number before rest output now written stage closes closing e f = connection_of number rest [] now (output ++ written) Closed e f
connection_closed number before rest output now written stage (faults status) closing e f = connection_of number rest [] now (output ++ written) Closed e f

-- a piece was read, and then all was gone over
pub taken_in : {H : Type 0} (step : Steps H) (moment : ℤ) (piece : List ℕ) (c d : Connection) (old new : H) (result : Result Unit PieceFault)
    → IsGoneOver step moment (record c { rest = bytes_with c piece }) old result d new → IsTakenIn step moment piece c old result d new
taken_in step moment piece c d old new (Ok done) g = g
taken_in step moment piece c d old new (Err NoMemory) g = absurd g
taken_in step moment piece c d old new (Err Unfinished) g = g
taken_in step moment piece c d old new (Err NoSuchConnection) g = g

-- what is left of the bytes is what the connection keeps
pub is_left : {H : Type 0} (step : Steps H) (moment : ℤ) (old new : H) (bytes before after : List ℕ) (left : Left) → IsRemainder step moment old new bytes before after left → IsRestLeft bytes left
is_left step moment old new bytes before after (Waiting begun kept) r = (r.1, r.2)
is_left step moment old new bytes before after Nothing r = tt
is_left step moment old new bytes before after (Unanswered begun kept) r = (r.1, r.2)

-- messages were performed, and the connection keeps what is left
pub gone_over : {H : Type 0} (step : Steps H) (moment : ℤ) (number taken : ℕ) (bytes : List ℕ) (waiting written : List (List ℕ)) (stage : Stage) (old new : H) (left : Left)
    → IsTaken taken waiting → IsRemainder step moment old new bytes (concat waiting) (concat written) left
    → IsGoneOver step moment (made number bytes (drop taken (concat waiting)) stage) old (answer_of_left left) (left_with (made number bytes (drop taken (concat written)) stage) left) new
gone_over step moment number taken bytes waiting written stage old new (Waiting begun kept) t r =
    let w = r.0 in (waits (drop begun bytes), w.0, w.2, connection_of number (drop begun bytes) (drop begun bytes) _ _ stage refl (drop_written taken waiting written w.0 t w.1))
gone_over step moment number taken bytes waiting written stage old new Nothing t r =
    let w = r.1 in (r.0, w.0, w.2, connection_closed number bytes [] (drop taken (concat waiting)) _ w.0 stage r.0 r.2 refl (drop_written taken waiting written w.0 t w.1))
gone_over step moment number taken bytes waiting written stage old new (Unanswered begun kept) t r =
    let w = r.0 in
    (drop begun bytes, w.0, w.2, r.3, connection_of number (drop begun bytes) (drop begun bytes) _ _ stage refl (drop_written taken waiting written w.0 t w.1))
