-- What is done with one connection of a front, and what it leaves of the others. This repository's own.
use Rattle.std.specs.Prelude.{◌≡◌, ◌≢◌, ◌⊎◌, ℕ, ℤ, ◌+◌, ◌<◌, Bool, false, not, List, [], ◌∷◌, take, Option, Some, None, Result, Ok, Err}
use Rattle.std.specs.Option.{option_map, option_map_or}
use Rattle.oai_front.specs.Connections.{Connection}
use Rattle.oai_front.specs.Fronts.{HasOutput, IsOpening, IsPiece, State, connection_numbered}
use Rattle.oai_front.specs.Performing.{Steps}
use Rattle.oai_front.specs.Runs.{Comes, FrontCall}
use Rattle.oai_front.specs.Stages.{is_closing}
use Rattle.oai_front.specs.declared.faults.PieceFault.{PieceFault}
use Rattle.oai_front.specs.declared.numbers.ConnId.{ConnId}
use Rattle.oai_cli.specs.declared.serve.streams.StreamFault.{StreamFault}
use Rattle.oai_cli.specs.declared.serve.streams.StreamFault.TheVariants.{NotOpened, Endless}

-- ---- the output

-- the output of a connection; none if it is not open
abbrev pub output_in : Option Connection → List ℕ
output_in None = []
output_in (Some c) = c.output

unfoldable pub output_of : ℕ → List Connection → List ℕ
output_of number connections = output_in (connection_numbered number connections)

-- the connection, with this output
unfoldable pub with_output : List ℕ → Connection → Connection
with_output bytes c = record c { output = bytes }

-- the next output was appended there, or there is none
abbrev pub IsNextOutput : ℕ → List Connection → Option ℕ → (List ℕ → Type 0) → Type 0
IsNextOutput number connections None Puts = (output_of number connections ≡ []) × Puts []
IsNextOutput number connections (Some count) Puts =
    (0 < count) × HasOutput number count connections × Puts (take count (output_of number connections))

-- whether the input of the connection is taken: it is open, and neither its end nor its last message nor a fault was
-- met
abbrev pub is_taking : {H : Type 0} → ℕ → State H → Bool
is_taking number front = option_map_or (λ (c : Connection). not (is_closing c.stage)) (connection_numbered number front.connections) false

-- all output of the connection with the number was taken, and nothing else of it was changed
abbrev pub IsEmptied : {H : Type 0} → ℕ → State H → State H → Type 0
IsEmptied number old new =
    connection_numbered number new.connections ≡ option_map (with_output []) (connection_numbered number old.connections)

-- ---- one connection alone

-- only the connection with the number may have changed
abbrev pub OthersStay : {H : Type 0} → ℕ → State H → State H → Type 0
OthersStay number old new =
    (other : ℕ) → other ≢ number → connection_numbered other new.connections ≡ connection_numbered other old.connections

-- only the connection with the number may have changed, as many may be open as before, and no number was given
pub record StaysApart {H : Type 0} (number : ℕ) (old new : State H) : Type 0 where
  pub others : OthersStay number old new
  pub limit : new.limit ≡ old.limit
  pub last : new.last ≡ old.last

-- ---- what is done to a front

-- calls of the front, one after the other, and nothing else
pub record IsUsed {H : Type 0} (step : Steps H) (old new : State H) : Type 0 where
  pub calls : List FrontCall
  pub run : Comes step old calls new

-- ---- a stream that was served

-- a piece came on the connection at that moment, and its messages were performed, all of them if the result is `Ok`;
-- all of its output was written
pub record IsPieceAnswered {H : Type 0} (step : Steps H) (number : ℕ) (moment : ℤ) (piece : List ℕ) (old : State H) (came : Result Unit PieceFault) (new : State H) (Writes : List ℕ → Type 0) : Type 0 where
  pub mid : State H
  pub taken : IsPiece step number moment piece old came mid
  pub written : Writes (output_of number mid.connections)
  pub emptied : IsEmptied number mid new

-- a piece, and the moment at which it comes
pub record TimedPiece : Type 0 where
  pub moment : ℤ
  pub piece : List ℕ

-- pieces came on the connection, one after the other; after each of them all of its output was taken
abbrev pub ArePiecesAnswered : {H : Type 0} → Steps H → ℕ → State H → List TimedPiece → State H → Type 0
ArePiecesAnswered step number old [] new = new ≡ old
ArePiecesAnswered {H} step number old (timed ∷ pieces) new =
    (mid : State H) × IsPieceAnswered step number timed.moment timed.piece old (Ok tt) mid (λ output. Unit {0})
    × ArePiecesAnswered step number mid pieces new

-- some pieces came on the connection, and were answered
pub record AnswersPieces {H : Type 0} (step : Steps H) (number : ℕ) (old new : State H) : Type 0 where
  pub pieces : List TimedPiece
  pub run : ArePiecesAnswered step number old pieces new

-- a connection was opened, pieces came on it, up to the end of what is read or of what it takes, and it was dropped
pub record IsConnectionServed {H : Type 0} (step : Steps H) (old new : State H) (AtEnd : Type 0) : Type 0 where
  pub conn : ConnId
  pub opened : State H
  pub left : State H
  pub opens : IsOpening old (Ok conn) opened
  pub pieces : AnswersPieces step conn.number opened left
  pub over : (is_taking conn.number left ≡ false) ⊎ AtEnd
  pub handler : new.handler ≡ left.handler

-- the connection with the next number was opened, and is no longer open; or none was opened, for that cause, and all is
-- unchanged
abbrev pub IsForgotten : {H : Type 0} → State H → Result Unit StreamFault → State H → Type 0
IsForgotten old (Err (NotOpened fault)) new = IsOpening old (Err fault) new
IsForgotten old result new = (new.last ≡ old.last + 1) × (connection_numbered (old.last + 1) new.connections ≡ None)

-- ---- faults

-- the fault is one of reading on: of a read, of the clock, of a piece, or of a write
abbrev pub IsReadOnFault : StreamFault → Type 0
IsReadOnFault (NotOpened fault) = ⊥
IsReadOnFault Endless = ⊥
IsReadOnFault fault = Unit {0}

-- the fault is one of a connection that was opened
abbrev pub IsOpenedFault : StreamFault → Type 0
IsOpenedFault (NotOpened fault) = ⊥
IsOpenedFault fault = Unit {0}
