-- Pieces that come one after the other, with what is taken behind each of them.
use Rattle.std.proofs.Common.{◌≡◌, ◌⊎◌, ℕ, ℤ, Bool, false, List, [], ◌∷◌, ◌++◌, Result, Ok, Err, refl, subst}
use Rattle.std.specs.Prelude.{OnOk}
use Rattle.oai_front.specs.Fronts.{IsOpening, State}
use Rattle.oai_front.specs.Performing.{Steps}
use Rattle.oai_front.specs.declared.numbers.ConnId.{ConnId}
use Rattle.oai_cli.specs.Outputs.{ArePiecesAnswered, IsPieceAnswered, IsConnectionServed, AnswersPieces, TimedPiece, is_taking, IsOpenedFault, IsReadOnFault}
use Rattle.oai_cli.specs.declared.serve.streams.StreamFault.{StreamFault}
use Rattle.oai_cli.specs.declared.serve.streams.StreamFault.TheVariants as stream

pub pieces_none : {H : Type 0} (step : Steps H) (number : ℕ) (old new : State H) → new ≡ old → AnswersPieces step number old new
pieces_none step number old new same = record { pieces = []; run = same }

-- one piece
pub pieces_once : {H : Type 0} (step : Steps H) (number : ℕ) (moment : ℤ) (piece : List ℕ) (old new : State H) (Writes : List ℕ → Type 0)
    → IsPieceAnswered step number moment piece old (Ok tt) new Writes → AnswersPieces step number old new
pieces_once step number moment piece old new Writes answered = record {
  pieces = record { moment = moment; piece = piece } ∷ [];
  run = (new, record { mid = answered.mid; taken = answered.taken; written = tt; emptied = answered.emptied }, refl);
}

pieces_more : {H : Type 0} (step : Steps H) (number : ℕ) (old mid new : State H) (first others : List TimedPiece) → ArePiecesAnswered step number old first mid
    → ArePiecesAnswered step number mid others new → ArePiecesAnswered step number old (first ++ others) new
pieces_more {H} step number old mid new [] others a b = subst (λ (s : State H). ArePiecesAnswered step number s others new) a b
pieces_more step number old mid new (timed ∷ first) others a b = (a.0, a.1, pieces_more step number a.0 mid new first others a.2 b)

pub pieces_then : {H : Type 0} (step : Steps H) (number : ℕ) (old mid new : State H) → AnswersPieces step number old mid → AnswersPieces step number mid new
    → AnswersPieces step number old new
pieces_then step number old mid new a b = record { pieces = a.pieces ++ b.pieces; run = pieces_more step number old mid new a.pieces b.pieces a.run b.run }

-- a fault of a turn is one of a connection that was opened
pub read_on_opened : (fault : StreamFault) → IsReadOnFault fault → IsOpenedFault fault
read_on_opened (stream.NotOpened fault) cause = absurd cause
read_on_opened stream.NoMemory cause = tt
read_on_opened stream.ReadFault cause = tt
read_on_opened stream.WriteFault cause = tt
read_on_opened stream.ClockFault cause = tt
read_on_opened stream.Endless cause = tt

-- what a piece is answered
pub pieces_answered : {H : Type 0} (step : Steps H) (number : ℕ) (moment : ℤ) (piece : List ℕ) (old new : State H) (Writes : List ℕ → Type 0) (result : Result Bool StreamFault)
    → OnOk result (IsPieceAnswered step number moment piece old (Ok tt) new Writes) → OnOk result (AnswersPieces step number old new)
pieces_answered step number moment piece old new Writes (Ok more) answered = pieces_once step number moment piece old new Writes answered
pieces_answered step number moment piece old new Writes (Err fault) answered = tt

-- a connection that was opened, served and forgotten
pub served_so : {H : Type 0} (step : Steps H) (conn : ConnId) (old opened left new : State H) (AtEnd : Type 0) (result : Result Unit StreamFault) → IsOpening old (Ok conn) opened
    → OnOk result (AnswersPieces step conn.number opened left) → OnOk result ((is_taking conn.number left ≡ false) ⊎ AtEnd) → new.handler ≡ left.handler
    → OnOk result (IsConnectionServed step old new AtEnd)
served_so step conn old opened left new AtEnd (Ok done) opens pieces over handler = record {
  conn = conn;
  opened = opened;
  left = left;
  opens = opens;
  pieces = pieces;
  over = over;
  handler = handler;
}
served_so step conn old opened left new AtEnd (Err fault) opens pieces over handler = tt
