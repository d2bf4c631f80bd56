-- The effect of the calls of a front, on any number of connections, in the order in which they come. This repository's
-- own.
use Rattle.std.specs.Prelude.{◌≡◌, ◌⊎◌, ◌<◌, ◌≤◌, ℕ, ℤ, Bool, true, false, ◌==◌, if◌then◌else◌, List, [], ◌++◌, drop, filter, find, map, reverse, take, Option, None, Some, Result, Ok, Err}
use Rattle.std.specs.List.{before_first, flat_map, list_any, sum_by}
use Rattle.oai_front.specs.Connections.{Connection, fresh, rest_at, stage_at}
use Rattle.oai_front.specs.Fronts.{HasOutput, IsChange, IsEnding, IsForgetting, IsOpening, IsPiece, IsTaking, State, connection_numbered}
use Rattle.oai_front.specs.Messages.{End, HasWhole, IsMessageStream, IsUnfinished, Message, Splits, waits}
use Rattle.oai_front.specs.Performing.{AnsweredMessage, Chain, Steps, answers_of, end_bytes, messages_of}
use Rattle.oai_front.specs.declared.faults.PieceFault.{PieceFault}
use Rattle.oai_front.specs.declared.faults.PieceFault.TheVariants as refusal
use Rattle.oai_front.specs.declared.numbers.ConnId.{ConnId}
use Rattle.oai_front.specs.declared.stages.Stage.{Stage}
use Rattle.oai_front.specs.declared.stages.Stage.TheVariants as phase

-- ---- the calls

-- a piece that comes on a connection at a moment, and whether all messages that it completes were performed, or only
-- the first of them
pub record Piece : Type 0 where
  pub number : ℕ
  pub moment : ℤ
  pub bytes : List ℕ
  pub whole : Bool

-- a call that changes a front: a piece comes on a connection; that many bytes of its output are taken; no more come on
-- it; it is dropped; one is opened. A call that is refused changes nothing, and is none of them
pub data FrontCall : Type 0 where
  Came : (piece : Piece) → FrontCall
  Taken : (number count : ℕ) → FrontCall
  Over : (number : ℕ) → FrontCall
  Forgotten : (number : ℕ) → FrontCall
  Opened : FrontCall

abbrev pub piece_answer : Bool → Result Unit PieceFault
piece_answer true = Ok tt
piece_answer false = Err refusal.Unfinished

abbrev pub IsCall : {H : Type 0} → Steps H → FrontCall → State H → State H → Type 0
IsCall step (Came p) old new = IsPiece step p.number p.moment p.bytes old (piece_answer p.whole) new
IsCall step (Taken number count) old new =
    HasOutput number count old.connections × IsChange number old new (IsTaking count) × (new.handler ≡ old.handler)
IsCall step (Over number) old new = IsEnding number old (Ok tt) new
IsCall step (Forgotten number) old new = IsForgetting number old (Ok tt) new
IsCall step Opened old new = (conn : ConnId) × IsOpening old (Ok conn) new

-- the calls come one after the other
abbrev pub Comes : {H : Type 0} → Steps H → State H → List FrontCall → State H → Type 0
Comes step old calls new = Chain (IsCall step) calls old new

-- ---- what was performed

-- a message that was performed on a connection at a moment, with its answer
pub record Served : Type 0 where
  pub number : ℕ
  pub moment : ℤ
  pub done : AnsweredMessage

-- the handler performs messages one after the other, whichever connections they came on
abbrev pub Serves : {H : Type 0} → Steps H → H → List Served → H → Type 0
Serves step old served new = Chain (λ s before after. step before s.moment s.done.message.asked s.done.answer after) served old new

-- the effect of a call: the messages that were performed with it
pub record CallOutcome : Type 0 where
  pub call : FrontCall
  pub done : List AnsweredMessage

abbrev pub calls_of : List CallOutcome → List FrontCall
calls_of outcomes = map (λ d. d.call) outcomes

-- a message performed with a piece was served on its connection, at its moment
abbrev pub served_with : Piece → AnsweredMessage → Served
served_with p done = record { number = p.number; moment = p.moment; done = done }

abbrev pub served_by : FrontCall → List AnsweredMessage → List Served
served_by (Came p) done = map (served_with p) done
served_by call done = []

unfoldable pub all_served : List CallOutcome → List Served
all_served outcomes = flat_map (λ d. served_by d.call d.done) outcomes

-- ---- one connection

-- what was served on the connection of the number
abbrev pub served_on : ℕ → Served → Bool
served_on number s = s.number == number

unfoldable pub done_on : ℕ → List Served → List AnsweredMessage
done_on number served = map (λ s. s.done) (filter (served_on number) served)

-- the bytes that came on it before its end
abbrev pub is_over : ℕ → FrontCall → Bool
is_over number (Over other) = other == number
is_over number call = false

abbrev pub bytes_of_call : ℕ → FrontCall → List ℕ
bytes_of_call number (Came p) = if p.number == number then p.bytes else []
bytes_of_call number call = []

unfoldable pub bytes_of_calls : ℕ → List FrontCall → List ℕ
bytes_of_calls number calls = flat_map (bytes_of_call number) (before_first (is_over number) calls)

-- how many bytes of its output were taken
abbrev pub taken_count : ℕ → FrontCall → ℕ
taken_count number (Taken other count) = if other == number then count else 0
taken_count number call = 0

-- it was dropped
abbrev pub is_forgotten : ℕ → FrontCall → Bool
is_forgotten number (Forgotten other) = other == number
is_forgotten number call = false

-- all that the last piece on it completed was performed, or none came
abbrev pub comes_on : ℕ → FrontCall → Bool
comes_on number (Came p) = p.number == number
comes_on number call = false

abbrev pub is_whole_call : Option FrontCall → Bool
is_whole_call (Some (Came p)) = p.whole
is_whole_call call = true

-- what some calls did to a connection
pub record Seen : Type 0 where
  pub bytes : List ℕ
  pub done : List AnsweredMessage
  pub taken : ℕ
  pub whole : Bool
  pub over : Bool
  pub forgotten : Bool

unfoldable pub seen : ℕ → List CallOutcome → Seen
seen number outcomes = record {
  bytes = bytes_of_calls number (calls_of outcomes);
  done = done_on number (all_served outcomes);
  taken = sum_by (taken_count number) (calls_of outcomes);
  whole = is_whole_call (find (comes_on number) (reverse (calls_of outcomes)));
  over = list_any (is_over number) (calls_of outcomes);
  forgotten = list_any (is_forgotten number) (calls_of outcomes);
}

-- the messages of the bytes, up to that end: all of them; or the first of them, and something complete waits
abbrev pub ArePerformed : Bool → List ℕ → List Message → End → Type 0
ArePerformed true bytes messages end = IsMessageStream bytes messages end
ArePerformed false bytes messages (waits rest) = Splits bytes messages rest × HasWhole rest
ArePerformed false bytes messages end = ⊥

-- on the connection exactly the messages of the bytes that came on it were performed, in order
pub record AreMessages (c : Connection) (s : Seen) : Type 0 where
  pub end : End
  pub performed : ArePerformed s.whole (c.rest ++ s.bytes) (messages_of s.done) end

-- its stage if no more bytes may have come
abbrev pub stage_where : Bool → Stage
stage_where true = phase.Ended
stage_where false = phase.Reading

-- what is left of the connection: what was to be written, the answers, and that to a fault, without what was taken
pub record IsWhatIsLeft (c : Connection) (s : Seen) (end : End) (d : Connection) : Type 0 where
  pub same : d.number ≡ c.number
  pub output : d.output ≡ drop s.taken (c.output ++ (answers_of s.done ++ end_bytes end))
  pub stage : d.stage ≡ stage_at (stage_where s.over) end
  pub rest : s.over ≡ false → d.rest ≡ rest_at end

-- the effect on it: exactly its own messages are performed, and if it is not dropped exactly their answers are appended
-- to its output
pub record IsOwn (c : Connection) (s : Seen) (now : Option Connection) : Type 0 where
  pub messages : AreMessages c s
  pub forgotten : s.forgotten ≡ true → now ≡ None
  pub left : s.forgotten ≡ false → (d : Connection) × (now ≡ Some d) × IsWhatIsLeft c s messages.end d

-- ---- all connections

-- a connection that reads, and on which nothing complete waits
pub record IsReadingConnection {H : Type 0} (number : ℕ) (state : State H) (c : Connection) : Type 0 where
  pub stands : connection_numbered number state.connections ≡ Some c
  pub reads : c.stage ≡ phase.Reading
  pub waits : IsUnfinished c.rest
  pub given : number ≤ state.last

-- a connection that is opened later, in its state then
pub record IsToCome {H : Type 0} (number : ℕ) (old new : State H) (c : Connection) : Type 0 where
  pub none : connection_numbered number old.connections ≡ None
  pub later : old.last < number
  pub given : number ≤ new.last
  pub opened : c ≡ fresh number

-- all that was performed, call by call, and what of it belongs to each connection, also one that is opened among the
-- calls. `prompt`: this holds after each of the calls, so a message is performed with the piece that brings its last
-- byte, or, if memory ran out, with a later one
pub record AreServed {H : Type 0} (step : Steps H) (old new : State H) (calls : List FrontCall) : Type 0 where
  pub each : List CallOutcome
  pub calls_are : calls_of each ≡ calls
  pub run : Serves step old.handler (all_served each) new.handler
  pub own : (number : ℕ) (c : Connection) → IsReadingConnection number old c ⊎ IsToCome number old new c → IsOwn c (seen number each) (connection_numbered number new.connections)
  pub prompt : (count number : ℕ) (c : Connection) → IsReadingConnection number old c ⊎ IsToCome number old new c → AreMessages c (seen number (take count each))
